-- Each way out by the tests that led there.
use mathlib.Core.Bool.{not}
use mathlib.Core.Path.{sym, ◌∙◌, ap}
use lib.IntN.{ℤ}
use mir.Facts.{to_z-of_z}
use Rattle.character_rules.specs.Blocks.{character, closing}
use Rattle.character_rules.specs.Answers.{written}
use Rattle.character_rules.proofs.Laws.{writing_1, writing_3, writing_done}
use Rattle.disparity.proofs.Signed.{told_none, told_disparity}
use Rattle.character_writer.proofs.write.Goals as goal

pub returns-then-not-is_disparity : goal.returns-then-not-is_disparity
returns-then-not-is_disparity c = sym (writing_1 c.args.symbol c.args.disparity
    (told_none _ c.args.disparity _ (to_z-of_z c.ranges.disparity) c.is_disparity.ensures (ap not c.if-not-is_disparity.true)))

pub returns-then-not-is_writable : goal.returns-then-not-is_writable
returns-then-not-is_writable c =
    sym (writing_3 c.args.symbol c.args.disparity
    (told_disparity _ c.args.disparity _ (to_z-of_z c.ranges.disparity) c.is_disparity.ensures (ap not c.if-not-is_disparity.false))
    (sym c.is_writable.ensures ∙ c.if-not-is_writable.true))

pub returns : goal.returns
returns c =
    c.write_blocks.ensures
    ∙ ap (λ (z : ℤ). written (character c.args.symbol z) (closing c.args.symbol z)) (to_z-of_z c.ranges.disparity)
    ∙ sym (writing_done c.args.symbol c.args.disparity
    (told_disparity _ c.args.disparity _ (to_z-of_z c.ranges.disparity) c.is_disparity.ensures (ap not c.if-not-is_disparity.false))
    (sym c.is_writable.ensures ∙ c.if-not-is_writable.false))
