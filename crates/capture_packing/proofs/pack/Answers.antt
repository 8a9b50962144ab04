-- Each refusal in its order, with the output as it stood, and the work.
use Rattle.std.specs.Prelude.{ℕ, List, ◌++◌, drop, length}
use mathlib.Core.Path.{sym, ap, ◌∙◌}
use Rattle.capture_rules.specs.Capture.{byte_count}
use native.Mathlib.Omega.{arith}
use Rattle.capture_rules.proofs.Laws.{pack_too_many, pack_out_of_range, pack_short_output, pack_done}
use Rattle.capture_packing.proofs.pack.Goals as goal

pub returns-then-characters-gt-MOST_CHARACTERS : goal.returns-then-characters-gt-MOST_CHARACTERS
returns-then-characters-gt-MOST_CHARACTERS c = let a = c.args in
    let p = pack_too_many a.characters.now a.out.now (omega arith) in (sym p.answer, sym p.output)

pub returns-then-not-in_range : goal.returns-then-not-in_range
returns-then-not-in_range c =
    let a = c.args in
    let p = pack_out_of_range a.characters.now a.out.now (omega arith) (sym c.in_range.ensures ∙ c.if-not-in_range.true) in
    (sym p.answer, sym p.output)

pub returns-then-out-n : goal.returns-then-out-n
returns-then-out-n c =
    let a = c.args in
    let p = pack_short_output a.characters.now a.out.now (omega arith)
    (sym c.in_range.ensures ∙ c.if-not-in_range.false) (omega arith) in
    (sym p.answer, sym p.output)

pub returns : goal.returns
returns c =
    let a = c.args in
    let p = pack_done a.characters.now a.out.now (omega arith) (sym c.in_range.ensures ∙ c.if-not-in_range.false)
    (omega arith) in
    (sym p.answer, ap (λ (front : List ℕ). front ++ drop (byte_count (length a.characters.now)) a.out.now) c.store_bytes.ensures ∙ sym p.output)
