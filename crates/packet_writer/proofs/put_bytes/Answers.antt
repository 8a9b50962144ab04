-- The run was written, since the part is long enough; what came back is the part's own.
use mathlib.Core.Path.{◌≡◌, refl, sym, ap, ◌∙◌}
use lib.IntN.{ℤ}
use lib.ListN.{length}
use mir.Syntax.{w32}
use mir.ValLaws.{to_z-of_z}
use borrow.Author.Rules.{rules}
use Rattle.character_rules.specs.Answers.{run_written, run_written_says}
use Rattle.character_rules.specs.Writing.{run_writing, run_stored}
use Rattle.packet_writer.proofs.Bytes.{part, run_closing_is, run_wrote, run_never_refused}
use Rattle.packet_writer.proofs.put_bytes.Goals as goal

pub unwrap-disparity-requires : goal.unwrap-disparity-requires
unwrap-disparity-requires c =
    let a = c.args in
    let d = a.w.disparity in
    let bs = a.bytes.now in
    let old = a.out.now in
    let p = part a.w bs old c.requires.0 c.requires.1 in
    run_never_refused a.w bs old c.requires.0 c.requires.1 c.write_run.result
    (c.write_run.ensures.0 ∙ ap (λ (x : ℤ). run_writing bs x (length p)) (to_z-of_z w32 d (search rules)))

pub returns : goal.returns
returns c =
    let a = c.args in
    let d = a.w.disparity in
    let bs = a.bytes.now in
    let old = a.out.now in
    let e = c.unwrap-disparity.result in
    let z = to_z-of_z w32 d (search rules) in
    let p = part a.w bs old c.requires.0 c.requires.1 in
    let w = c.write_run.ensures in
    let q : run_written e ≡ run_writing bs d (length p) = sym (ap run_written_says c.unwrap-disparity.ensures) ∙ w.0 ∙ ap (λ (x : ℤ). run_writing bs x (length p)) z in
    run_wrote a.w bs old c.requires.0 c.requires.1 _ _
    (w.1 ∙ ap (λ (x : ℤ). run_stored bs x p) z)
    refl
    (to_z-of_z w32 e (search rules) ∙ run_closing_is a.w bs old c.requires.0 c.requires.1 e q)
