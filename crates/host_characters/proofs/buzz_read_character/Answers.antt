-- By whether it was read: its numbers, or a refusal, which leaves all as it stood.
use mathlib.Core.Path.{refl, ap, ◌∙◌}
use borrow.Author.Rules.{rules}
use Rattle.character_rules.specs.Reading.{reading}
use Rattle.host_rules.proofs.Signed.{same}
use Rattle.host_calls.specs.CharacterCalls.{Reads}
use Rattle.host_calls.proofs.CharacterLaws.{read_refused}
use Rattle.host_characters.proofs.Read.{read_done}
use Rattle.host_characters.proofs.buzz_read_character.Goals as goal

pub returns-in-Ok : goal.returns-in-Ok
returns-in-Ok c =
    let a = c.args in
    let old : Reads = record { disparity = a.disparity.now; violation = a.violation.now; byte = a.byte.now; control = a.control.now } in
    let h = c.in-Ok.ensures ∙ ap (reading a.character) (same a.disparity.now (search rules)) in
    let n = c.in_numbers-after.ensures in
    rw (read_done a.character old _ _ _ _ _ n.0 n.1 n.2 n.3 h) (refl, same _ (search rules), refl, c.from.ensures, c.mark_number.ensures)

pub returns-in-Err : goal.returns-in-Err
returns-in-Err c =
    let a = c.args in
    let old : Reads = record { disparity = a.disparity.now; violation = a.violation.now; byte = a.byte.now; control = a.control.now } in
    let h = c.in-Err.ensures ∙ ap (reading a.character) (same a.disparity.now (search rules)) in
    rw (read_refused _ old _ h) (c.from-in-Err.ensures, refl, refl, refl, refl)
