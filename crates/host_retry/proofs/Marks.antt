-- A mark is one bit of its byte.
-- Assumes nothing.
use Prim.Native.Nat.{ℕ, zero, suc, ◌<◌, ◌/◌, ◌%◌, ◌^◌}
use mathlib.Core.Path.{◌≡◌, sym, ap, ◌∙◌}
use mathlib.Core.Bool.{false}
use native.Mathlib.Omega.{arith}
use lib.Dec.{eqb}
use lib.ListN.{get_or}
use Rattle.std.proofs.Math.Nat.{div-one}
use Rattle.std.proofs.lemmas.Nat.Bits.{bit_at-suc}
use Rattle.host_retry_rules.specs.SenderBytes.{marks_from, marks_of}

from_bit : (k i m : ℕ) → i < k → get_or (marks_from k m) i false ≡ eqb (m / 2 ^ i % 2) 1
from_bit zero i m h = absurd (omega (arith, h))
from_bit (suc k) zero m h = ap (λ (n : ℕ). eqb (n % 2) 1) (sym (div-one m))
from_bit (suc k) (suc i) m h = from_bit k i (m / 2) (omega (arith, h)) ∙ ap (λ (n : ℕ). eqb n 1) (sym (bit_at-suc m i))

pub mark_is_bit : (i m : ℕ) → i < 8 → eqb (m / 2 ^ i % 2) 1 ≡ get_or (marks_of m) i false
unfolding marks_of
mark_is_bit i m h = sym (from_bit 8 i m h)
