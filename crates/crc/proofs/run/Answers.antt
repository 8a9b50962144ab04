-- What is left to do from the register so far is what was to do from the start.
use mathlib.Core.Path.{◌≡◌, ap, sym, ◌∙◌}
use mathlib.Core.List.{[], ◌∷◌}
use Prim.Native.Nat.{ℕ, ◌+◌, ◌<◌}
use native.Mathlib.Numerals.{add-one}
use native.Mathlib.Omega.{arith}
use lib.ListN.{length, drop, get_or, drop_of_length-le}
use lib.Seq.{drop-cons}
use Rattle.crc.specs.Crc16.{crc_from}
use Rattle.crc.proofs.Laws.{crc_cons, crc_none, crc_lt}
use Rattle.crc.proofs.run.Goals as goal

pub loop-byte-preserved : goal.loop-byte-preserved
loop-byte-preserved c =
    let l = c.loop-byte in
    let i = l.byte-index in
    let xs = c.args.bytes.now in
    let h : i < length xs = omega arith in (
      rw c.step-r.ensures (crc_lt l.r (get_or xs i 0 ∷ [])),
      ap (λ (r : ℕ). crc_from r (drop (i + 1) xs)) c.step-r.ensures
          ∙ sym (crc_cons l.r (get_or xs i 0) (drop (i + 1) xs))
          ∙ rw (add-one) (ap (crc_from l.r) (sym (drop-cons xs i 0 h)) ∙ l.invariant.1),
    )

pub returns : goal.returns
returns c =
    let l = c.loop-byte in
    let xs = c.args.bytes.now in
    let e : drop l.byte-index xs ≡ [] = drop_of_length-le xs {i = l.byte-index} (omega arith) in
    sym (crc_none l.r l.invariant.0) ∙ ap (crc_from l.r) (sym e) ∙ l.invariant.1
