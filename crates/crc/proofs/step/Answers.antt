-- The upper half moved down, and the low byte's eight steps as moves.
use mathlib.Core.Path.{sym, ap, ◌∙◌}
use Prim.Native.Nat.{ℕ, ◌*◌, ◌/◌, ◌%◌, ◌<◌}
use native.Mathlib.Omega.{arith}
use lib.Bits.{bit_xor, xor_lt}
use Rattle.crc.proofs.Byte.{by_halves, by_moves}
use Rattle.crc.proofs.step.Goals as goal

-- what falls out is a byte
out_lt : (z : ℕ) → bit_xor (z % 256) (z % 256 * 16 % 256) < 256
out_lt z = xor_lt 8 (z % 256) (z % 256 * 16 % 256) (omega arith) (omega arith)

pub returns : goal.returns
returns c =
    let r = c.args.register in
    let b = c.args.byte in
    ap (bit_xor (r / 256)) (by_moves (bit_xor r b % 256) (omega arith)) ∙ sym (by_halves r b (omega arith) (omega arith))
