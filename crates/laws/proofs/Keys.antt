-- A number that is one of a match's keys stands in the list of them, and one that is none of them does not.
-- Assumes nothing.
use mathlib.Core.Path.{◌≡◌, refl, ◌∙◌, ap}
use mathlib.Core.Bool.{Bool, true, false, ◌||◌}
use mathlib.Core.List.{List, [], ◌∷◌}
use mathlib.Core.Logic.{inl, inr, ⊎_elim}
use Prim.Native.Nat.{ℕ}
use lib.Dec.{eqb}
use types.Run.{OneOf}
use borrow.Author.Tests.{eq-eqb, ne_eqb}
use Rattle.laws.specs.Lists.{one_of}
use mathlib.Core.Bool.{or-true}

pub listed : (ks : List ℕ) (x : ℕ) → OneOf ks x → one_of x ks ≡ true
listed [] x h = absurd h
listed (k ∷ []) x h = ap (λ (b : Bool). b || false) (eq-eqb x k h)
listed (k ∷ l ∷ ks) x h =
    ⊎_elim (λ e. ap (λ (b : Bool). b || one_of x (l ∷ ks)) (eq-eqb x k e))
    (λ later. ap (λ (b : Bool). eqb x k || b) (listed (l ∷ ks) x later) ∙ or-true (eqb x k)) h

pub not_listed : (ks : List ℕ) (x : ℕ) → (OneOf ks x → ⊥) → one_of x ks ≡ false
not_listed [] x h = refl
not_listed (k ∷ []) x h = ap (λ (b : Bool). b || false) (ne_eqb x k h)
not_listed (k ∷ l ∷ ks) x h =
    ap (λ (b : Bool). b || one_of x (l ∷ ks)) (ne_eqb x k (λ e. h (inl e))) ∙ not_listed (l ∷ ks) x (λ later. h (inr later))
