-- The character writer can write the symbol, so it did; its character stands after the others.
use mathlib.Core.Path.{◌≡◌, refl, sym, ap, ◌∙◌}
use lib.ListN.{set}
use mir.Syntax.{w32}
use mir.ValLaws.{to_z-of_z}
use borrow.Author.Rules.{rules}
use Rattle.character_rules.specs.Answers.{written, writing_says}
use Rattle.character_rules.specs.Writing.{writing}
use Rattle.packet_writer.proofs.Laws.{wrote_one, wrote_character, wrote_closing, never_refused}
use Rattle.packet_writer.proofs.put.Goals as goal

pub unwrap-encoded-requires : goal.unwrap-encoded-requires
unwrap-encoded-requires c =
    let a = c.args in
    let d = a.w.disparity in
    never_refused a.s d c.requires.1 c.requires.2 c.write.result (c.write.ensures ∙ ap (writing a.s) (to_z-of_z w32 d (search rules)))

pub returns : goal.returns
returns c =
    let a = c.args in
    let d = a.w.disparity in
    let n = c.unwrap-encoded.result.character in
    let e = c.unwrap-encoded.result.disparity in
    let q : written n e ≡ writing a.s d = sym (ap writing_says c.unwrap-encoded.ensures) ∙ c.write.ensures ∙ ap (writing a.s) (to_z-of_z w32 d (search rules)) in
    wrote_one a.w a.s a.out.now _ _ c.requires.0
    (ap (set a.out.now a.w.count) (wrote_character a.s d c.requires.1 c.requires.2 n e q))
    refl
    (to_z-of_z w32 e (search rules) ∙ wrote_closing a.s d c.requires.1 c.requires.2 n e q)
