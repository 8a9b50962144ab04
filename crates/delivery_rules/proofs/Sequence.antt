-- A line on which the next ones stand, each once and in order: the lo-th up to the hi-th.
-- Assumes nothing.
use mathlib.Core.Path.{◌≡◌, sym, ap, subst}
use mathlib.Core.List.{List, [], ◌∷◌, ◌++◌}
use Prim.Native.Nat.{ℕ, suc, ◌≤◌}
use native.Mathlib.Omega.{arith}

module _ {A : Type 0} where
  pub data Sequence (R : A → ℕ → Type 0) : ℕ → ℕ → List A → Type 0 where
    done : {lo hi : ℕ} → lo ≡ hi → Sequence R lo hi []
    more : {lo hi : ℕ} {a : A} {l : List A} → R a lo → Sequence R (suc lo) hi l → Sequence R lo hi (a ∷ l)

  module _ {R : A → ℕ → Type 0} where
    -- one more at the end
    pub then_one : {lo hi : ℕ} {l : List A} (a : A) → R a hi → Sequence R lo hi l → Sequence R lo (suc hi) (l ++ a ∷ [])
    then_one a x (done q) = more (subst (R a) (sym q) x) (done (ap suc q))
    then_one a x (more y r) = more y (then_one a x r)

    pub first_of : {lo hi : ℕ} {a : A} {l : List A} → Sequence R lo hi (a ∷ l) → R a lo × Sequence R (suc lo) hi l
    first_of (more x r) = (x, r)

    pub in_order : {lo hi : ℕ} {l : List A} → Sequence R lo hi l → lo ≤ hi
    in_order (done q) = omega arith
    in_order (more x r) = omega (arith, in_order r)

    pub none_left : {lo hi : ℕ} → Sequence R lo hi [] → lo ≡ hi
    none_left (done q) = q
