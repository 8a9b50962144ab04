-- Each test in its order.
use mathlib.Core.Path.{sym, ap, ◌∙◌}
use mir.Facts.{to_z-of_z}
use mir.Syntax.{w32}
use borrow.Author.Rules.{rules}
use borrow.Author.Tests.{lt-leb}
use Rattle.laws.proofs.Cases.{false_is_not_true}
use Rattle.character_rules.specs.Disparity.{is_disparity}
use Rattle.listing_pieces.proofs.Rule.{too_many_events, no_disparity, by_reader}
use Rattle.listing_pieces.proofs.keeps_rule.Goals as goal
use Rattle.listing_pieces.proofs.keeps_rule.Goals.{then-p, else-p}

pub returns-then-is_disparity : goal.returns-then-is_disparity
returns-then-is_disparity c =
    let p = c.args.p in
    let same = to_z-of_z {w = w32} {z = p.disparity} (search rules) in
    elim c.if-p.branch [
      | then-p w ↦ by_reader p w.if-p.true _ (ap is_disparity (sym same) ∙ sym w.is_disparity.ensures ∙ sym w.value-is ∙ c.if-is_disparity.true)
          c.is_well_formed.ensures
      | else-p w ↦ absurd (false_is_not_true (sym (lt-leb p.events p.place w.if-p.false) ∙ sym w.value-is ∙ c.if-is_disparity.true))
    ]

pub returns-else-is_disparity : goal.returns-else-is_disparity
returns-else-is_disparity c =
    let p = c.args.p in
    let same = to_z-of_z {w = w32} {z = p.disparity} (search rules) in
    c.if-is_disparity.false
    ∙ elim c.if-p.branch [
      | then-p w ↦ no_disparity p w.if-p.true (ap is_disparity (sym same) ∙ sym w.is_disparity.ensures ∙ sym w.value-is ∙ c.if-is_disparity.false)
      | else-p w ↦ too_many_events p w.if-p.false
    ]
