-- The answer taken apart: a character, or a refusal.
use mathlib.Core.Path.{refl, ap, ◌∙◌}
use borrow.Author.Rules.{rules}
use Rattle.host_rules.specs.Characters.{writing_numbers}
use Rattle.host_rules.proofs.Signed.{same}
use Rattle.host_calls.specs.CharacterCalls.{Writes}
use Rattle.host_calls.proofs.CharacterLaws.{write_done, write_refused}
use Rattle.host_characters.proofs.buzz_write_character.Goals as goal

pub returns-in-Ok : goal.returns-in-Ok
returns-in-Ok c =
    let a = c.args in
    let old : Writes = record { disparity = a.disparity.now; character = a.character.now } in
    let e = c.in-Ok.ensures ∙ ap (writing_numbers a.byte a.control) (same a.disparity.now (search rules)) in
    rw (write_done _ _ old _ _ e) (refl, same _ (search rules), c.from.ensures)

pub returns-in-Err : goal.returns-in-Err
returns-in-Err c =
    let a = c.args in
    let old : Writes = record { disparity = a.disparity.now; character = a.character.now } in
    let e = c.in-Err.ensures ∙ ap (writing_numbers a.byte a.control) (same a.disparity.now (search rules)) in
    rw (write_refused _ _ old _ e) (c.from-in-Err.ensures, refl, refl)
