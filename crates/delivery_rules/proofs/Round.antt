-- Numbers that go round: segments near to one another are told apart by their numbers.
-- Assumes nothing.
use mathlib.Core.Path.{◌≡◌}
use Prim.Native.Nat.{ℕ, ◌+◌, ◌%◌, ◌≤◌, ◌<◌, min}
use native.Mathlib.Omega.{arith}
use native.Mathlib.Decide.{dec_lt}
use Rattle.retry_rules.specs.Numbers.{between}

-- the buffer i after the oldest, once that is released
pub next_slot : (o i : ℕ) → ((o + 1) % 16 + i) % 8 ≡ (o + (1 + i)) % 8
next_slot o i = omega arith

-- two of the window of eight have two numbers, the next to go out among them
pub other_number : (o i k : ℕ) → i < k → k ≤ 8 → (o % 16 + i) % 16 ≡ (o + k) % 16 → ⊥
other_number o i k h u q = omega arith

pub same_number : (o k : ℕ) → (o % 16 + k) % 16 ≡ (o + k) % 16
same_number o k = omega arith

-- a number names one segment among those near to e
pub near_is : (j e : ℕ) → e ≤ j + 8 → j < e + 8 → j % 16 ≡ e % 16 → j ≡ e
near_is j e h u q = omega arith

-- what is up to seven past e does not seem to be one of the eight before it
past : (j e : ℕ) → e < j → j < e + 8 → 8 ≤ between (j % 16) (e % 16)
past j e h u = omega arith

pub among_is : (j e : ℕ) → j < e + 8 → (j ≡ e → ⊥) → between (j % 16) (e % 16) < 8 → j < e
among_is j e u ne lt =
    elim (dec_lt j e) [ yes p ↦ p | no p ↦ omega (arith, past j e (omega arith) u) ]

pub among : (j e : ℕ) → j < e → e ≤ j + 8 → between (j % 16) (e % 16) < min e 8
among j e h u = omega arith
