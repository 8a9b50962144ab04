-- The upper half moved down, and the low byte's entry of the table.
use mathlib.Core.Path.{sym, ap, ◌∙◌}
use mathlib.Core.List.{List}
use Prim.Native.Nat.{ℕ, ◌/◌, ◌%◌}
use native.Mathlib.Omega.{arith}
use lib.Bits.{bit_xor}
use lib.ListN.{get_or}
use Rattle.crc.proofs.Byte.{by_halves, by_table}
use Rattle.crc.proofs.table.Table.step.Goals as goal

pub returns : goal.returns
returns c =
    let r = c.args.register in
    let b = c.args.byte in
    let k = bit_xor r b % 256 in
    rw c.from.ensures
    (ap (bit_xor (r / 256)) (ap (λ (t : List ℕ). get_or t k 0) c.self.invariant ∙ by_table k (omega arith))
    ∙ sym (by_halves r b (omega arith) (omega arith)))
