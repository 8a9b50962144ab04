-- Each refusal in its order, with the output as it stood, and the work.
use Rattle.std.specs.Prelude.{ℕ, List, ◌++◌, drop}
use mathlib.Core.Path.{sym, ap, ap₂, ◌∙◌}
use native.Mathlib.Omega.{arith}
use lib.Seq.{length-take-le}
use Rattle.capture_rules.specs.Calls.{answered}
use Rattle.capture_rules.specs.Capture.{characters_of}
use Rattle.capture_rules.proofs.Laws.{unpack_illegal, unpack_short_output, unpack_done}
use Rattle.capture.proofs.Taken.{taken_is_legal, taken_same, taken_count, refused_illegal, says_8}
use Rattle.capture_unpacking.proofs.unpack.Goals as goal

pub returns-in_err-capture : goal.returns-in_err-capture
returns-in_err-capture c = let e = c.in_err-capture.ensures in
    let p = unpack_illegal _ c.args.out.now (refused_illegal _ _ e) in
    (says_8 _ _ e _ c.from_residual.ensures.1 ∙ sym p.answer, sym p.output)

pub returns-then-out-count : goal.returns-then-out-count
returns-then-out-count c = let taken = c.in_ok-capture.capture in let e = c.in_ok-capture.ensures in
    let n = taken_count _ taken e in
    let p = unpack_short_output _ c.args.out.now (taken_is_legal _ taken e) (omega arith) in
    (sym p.answer, sym p.output)

pub store_characters-requires : goal.store_characters-requires
store_characters-requires c = let n = c.count-count.ensures in
    length-take-le c.count-count.result c.args.out.now c.if-out-count.false ∙ n

pub returns : goal.returns
returns c = let taken = c.in_ok-capture.capture in let e = c.in_ok-capture.ensures in
    let n = c.count-count.ensures ∙ taken_count _ taken e in
    let p = unpack_done _ c.args.out.now (taken_is_legal _ taken e) (omega arith) in (
      ap answered n ∙ sym p.answer,
      ap₂ (λ (front : List ℕ) (k : ℕ). front ++ drop k c.args.out.now) (c.store_characters.ensures ∙ ap characters_of (taken_same _ taken e)) n ∙ sym p.output,
    )
