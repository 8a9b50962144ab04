-- The answer taken apart: the disparity after the run, or a refusal.
use mathlib.Core.Path.{refl, ap, ◌∙◌}
use lib.IntN.{ℤ}
use lib.ListN.{length}
use borrow.Author.Rules.{rules}
use Rattle.character_rules.specs.Results.{run_reading, run_output}
use Rattle.host_rules.proofs.Signed.{same}
use Rattle.host_calls.specs.CharacterCalls.{ReadsRun}
use Rattle.host_calls.proofs.CharacterLaws.{run_done, run_refused}
use Rattle.host_characters.proofs.buzz_read_characters.Goals as goal

pub returns-in-Ok : goal.returns-in-Ok
returns-in-Ok c =
    let a = c.args in
    let old : ReadsRun = record { disparity = a.disparity.now; results = a.results.now } in
    let d = same a.disparity.now (search rules) in
    let h = c.in-Ok.ensures.0 ∙ ap (λ (d : ℤ). run_reading a.characters.now d (length a.results.now)) d in
    let results = c.in-Ok.ensures.1 ∙ ap (λ (d : ℤ). run_output a.characters.now d a.results.now) d in
    rw (run_done _ old _ h) (refl, same _ (search rules), results)

pub returns-in-Err : goal.returns-in-Err
returns-in-Err c =
    let a = c.args in
    let old : ReadsRun = record { disparity = a.disparity.now; results = a.results.now } in
    let d = same a.disparity.now (search rules) in
    let h = c.in-Err.ensures.0 ∙ ap (λ (d : ℤ). run_reading a.characters.now d (length a.results.now)) d in
    let results = c.in-Err.ensures.1 ∙ ap (λ (d : ℤ). run_output a.characters.now d a.results.now) d in
    rw (run_refused _ old _ h) (c.from.ensures, refl, results)
