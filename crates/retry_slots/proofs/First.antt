-- What a call on the sender's buffers is refused with for the sender alone, whatever else it may be refused with.
-- Assumes nothing.
use mathlib.Core.Path.{◌≡◌, refl, ◌∙◌}
use mathlib.Core.Bool.{Bool, true, false, ◌||◌, or-true}
use mathlib.Core.List.{List, [], ◌∷◌}
use Prim.Native.Nat.{ℕ, ◌<◌}
use native.Mathlib.Omega.{arith}
use Rattle.refusal.specs.declared.Refusal.{Refusal}
use Rattle.refusal.specs.Order.{Check, check, number_of, given, refusal_of}
use Rattle.refusal.proofs.Answers.{has_number}

or_false : (b : Bool) → b || false ≡ b
or_false true = refl
or_false false = refl

first : (d r : Bool) (rest : List Check) (n : ℕ) → given 7 rest ≡ false → given 8 rest ≡ false
    → n ≡ refusal_of (check 7 d ∷ check 1 r ∷ []) → 0 < n → n ≡ refusal_of (check 7 d ∷ check 1 r ∷ rest)
first true r rest n a b e h = e ∙ simp (or-true)
first false true rest n a b e h = e ∙ simp (a, b, or-true)
first false false rest n a b e h = absurd (omega (arith, e, h))

-- the number for the sender alone is the call's, where no other check comes before
pub refused_first :
    (d r : Bool) (rest : List Check) (x : Refusal) → given 7 rest ≡ false → given 8 rest ≡ false
    → number_of x ≡ refusal_of (check 7 d ∷ check 1 r ∷ []) → number_of x ≡ refusal_of (check 7 d ∷ check 1 r ∷ rest)
refused_first d r rest x a b e = first d r rest (number_of x) a b e (has_number x)

-- and where there is none, neither applies
pub passed_first : (d r : Bool) → 0 ≡ refusal_of (check 7 d ∷ check 1 r ∷ []) → (d ≡ false) × (r ≡ false)
passed_first true r e = absurd (omega (arith, e))
passed_first false true e = absurd (omega (arith, e))
passed_first false false e = (refl, refl)
