-- A number of 16 bits as its two bytes, the high one first, is what the library's conversions make of it.
-- Assumes nothing.
use Prim.Native.Nat.{ℕ, ◌/◌, ◌%◌, ◌<◌, ◌^◌}
use mathlib.Core.Path.{◌≡◌, ap}
use mathlib.Core.List.{[], ◌∷◌}
use native.Mathlib.Omega.{arith}
use Rattle.std.specs.Int.{w16, from_be_bytes, to_be_bytes}
use Rattle.host_rules.specs.ReaderBytes.{two}

pub loaded : (high low : ℕ) → from_be_bytes w16 (high ∷ low ∷ []) ≡ two high low
loaded high low = omega arith

pub stored : (n : ℕ) → n < 2 ^ 16 → to_be_bytes w16 n ≡ n / 256 ∷ n % 256 ∷ []
stored n fits = ap (λ (high : ℕ). high ∷ n % 256 ∷ []) (omega arith)
