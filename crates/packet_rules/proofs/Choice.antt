-- What holds on both sides of a choice holds of it, the sides written out; and so of a call that may be refused.
-- Assumes nothing.
use mathlib.Core.Path.{◌≡◌}
use mathlib.Core.Bool.{Bool, true, false, cond}
use mathlib.Core.List.{List}
use Prim.Native.Nat.{ℕ}
use lib.Dec.{eqb}
use Rattle.laws.proofs.Cases.{by_cases}
use Rattle.refusal.specs.Order.{Check, refusal_of, outcome}

pub either : {A : Type 0} (P : A → Type 0) (t : Bool) (a b : A) → (t ≡ true → P a) → (t ≡ false → P b) → P (cond t a b)
either P t a b f g = by_cases P t {x = a} {y = b} f g

-- a call that is refused, and one that does its work
pub by_outcome : {A : Type 0} (P : A → Type 0) (cs : List Check) (f : ℕ → A) (x : A) → ((n : ℕ) → P (f n)) → P x → P (outcome cs f x)
by_outcome P cs f x h k = either P (eqb (refusal_of cs) 0) x (f (refusal_of cs)) (λ e. k) (λ e. h (refusal_of cs))
