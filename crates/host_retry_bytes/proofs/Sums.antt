-- A number of marks, mark by mark.
-- Assumes nothing.
use Prim.Native.Nat.{ℕ, ◌+◌, ◌*◌}
use mathlib.Core.Path.{◌≡◌}
use native.Mathlib.Omega.{arith}

pub next : {m n a b : ℕ} → m ≡ n → a ≡ b → m + 2 * a ≡ n + 2 * b
next p q = omega arith

pub last : {m n : ℕ} → m ≡ n → m ≡ n + 2 * 0
last p = omega arith
