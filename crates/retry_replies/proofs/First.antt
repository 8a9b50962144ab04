-- What a reply is refused with for the sender alone, whatever its number.
-- Assumes nothing.
use mathlib.Core.Path.{◌≡◌}
use mathlib.Core.Bool.{Bool, true, false}
use mathlib.Core.List.{[], ◌∷◌}
use Prim.Native.Nat.{ℕ, ◌<◌}
use native.Mathlib.Omega.{arith}
use Rattle.refusal.specs.declared.Refusal.{Refusal}
use Rattle.refusal.specs.Order.{check, number_of, refusal_of}
use Rattle.refusal.proofs.Answers.{has_number}

first : (k d r : Bool) (n : ℕ) → n ≡ refusal_of (check 7 d ∷ check 1 r ∷ []) → 0 < n → n ≡ refusal_of (check 1 k ∷ check 7 d ∷ check 1 r ∷ [])
first true true r n e h = e
first false true r n e h = e
first true false true n e h = e
first false false true n e h = e
first true false false n e h = absurd (omega (arith, e, h))
first false false false n e h = absurd (omega (arith, e, h))

-- with a number out of range the refusal is the sender's all the same: 7 comes before 1, and 1 is 1 either way
pub refused_first :
    (k d r : Bool) (x : Refusal) → number_of x ≡ refusal_of (check 7 d ∷ check 1 r ∷ [])
    → number_of x ≡ refusal_of (check 1 k ∷ check 7 d ∷ check 1 r ∷ [])
refused_first k d r x e = first k d r (number_of x) e (has_number x)
