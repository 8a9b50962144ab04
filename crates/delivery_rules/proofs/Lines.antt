-- A line on which the numbers that stand are near to one another: each stands no more than eight behind what came before it.
-- Assumes nothing.
use Prim.Native.Nat.{ℕ, zero, suc, ◌+◌, ◌≤◌, ◌<◌, max}
use mathlib.Core.List.{List, [], ◌∷◌, ◌++◌}
use native.Mathlib.Omega.{arith}
use lib.ListN.{set}
use Rattle.delivery_rules.specs.Model.{without}

module _ {A : Type 0} where
  -- R a j: what stands is the j-th, below the bound U. Q a: it counts for nothing. The bound b runs along the line: past each j
  pub data Line (R : A → ℕ → Type 0) (Q : A → Type 0) (U : ℕ) : ℕ → List A → Type 0 where
    empty : {b : ℕ} → Line R Q U b []
    skip : {b : ℕ} {a : A} {l : List A} → Q a → Line R Q U b l → Line R Q U b (a ∷ l)
    item :
        {b : ℕ} {a : A} {l : List A} (j : ℕ) → R a j → b ≤ j + 8 → j < U → Line R Q U (max b (suc j)) l
        → Line R Q U b (a ∷ l)

  -- the first of a line, if it counts for something: which it is
  pub record First (R : A → ℕ → Type 0) (Q : A → Type 0) (a : A) (U b : ℕ) (l : List A) : Type 0 where
    pub j : ℕ
    pub stands : R a j
    pub near : b ≤ j + 8
    pub below : j < U
    pub rest : Line R Q U (max b (suc j)) l

  module _ {R R' : A → ℕ → Type 0} {Q : A → Type 0} where
    -- a lower start, a higher bound, another relation
    pub weaken :
        {U U' b b' : ℕ} {l : List A} → ((a : A) (j : ℕ) → j < U → R a j → R' a j) → U ≤ U' → b' ≤ b → Line R Q U b l
        → Line R' Q U' b' l
    weaken f u h empty = empty
    weaken f u h (skip q r) = skip q (weaken f u h r)
    weaken {b'} f u h (item {a = a} j x lo hi r) =
        item {b = b'} j (f a j hi x) (omega arith) (omega arith) (weaken {b' = max b' (suc j)} f u (omega arith) r)

  module _ {R : A → ℕ → Type 0} {Q : A → Type 0} where
    pub lower : {U U' b b' : ℕ} {l : List A} → U ≤ U' → b' ≤ b → Line R Q U b l → Line R Q U' b' l
    lower u h r = weaken (λ a j v x. x) u h r

    -- one more at the end, near to the bound
    pub snoc :
        {U b : ℕ} {l : List A} (a : A) (j : ℕ) → R a j → b ≤ j + 8 → U ≤ j + 8 → j < U → Line R Q U b l
        → Line R Q U b (l ++ a ∷ [])
    snoc a j x lo u hi empty = item j x lo hi empty
    snoc a j x lo u hi (skip q r) = skip q (snoc a j x lo u hi r)
    snoc a j x lo u hi (item i y lo' hi' r) = item i y lo' hi' (snoc a j x (omega arith) u hi r)

    pub snoc_skip : {U b : ℕ} {l : List A} (a : A) → Q a → Line R Q U b l → Line R Q U b (l ++ a ∷ [])
    snoc_skip a q empty = skip q empty
    snoc_skip a q (skip q' r) = skip q' (snoc_skip a q r)
    snoc_skip a q (item i y lo hi r) = item i y lo hi (snoc_skip a q r)

    -- what is lost or damaged counts for nothing
    pub lost : {U b : ℕ} {l : List A} (n : ℕ) → Line R Q U b l → Line R Q U b (without l n)
    lost n empty = empty
    lost zero (skip q r) = r
    lost (suc n) (skip q r) = skip q (lost n r)
    lost zero (item i y lo hi r) = lower (omega arith) (omega arith) r
    lost (suc n) (item i y lo hi r) = item i y lo hi (lost n r)

    pub damaged_at : {U b : ℕ} {l : List A} (n : ℕ) (a : A) → Q a → Line R Q U b l → Line R Q U b (set l n a)
    damaged_at n a q empty = empty
    damaged_at zero a q (skip q' r) = skip q r
    damaged_at (suc n) a q (skip q' r) = skip q' (damaged_at n a q r)
    damaged_at {b} zero a q (item i y lo hi r) = skip {b = b} q (lower (omega arith) (omega arith) r)
    damaged_at (suc n) a q (item i y lo hi r) = item i y lo hi (damaged_at n a q r)

    pub tail : {U b : ℕ} {a : A} {l : List A} → Line R Q U b (a ∷ l) → Line R Q U b l
    tail (skip q r) = r
    tail (item j x lo hi r) = lower (omega arith) (omega arith) r

    pub first : {U b : ℕ} {a : A} {l : List A} → (Q a → ⊥) → Line R Q U b (a ∷ l) → First R Q a U b l
    first n (skip q r) = absurd (n q)
    first n (item j x lo hi r) = record { j = j; stands = x; near = lo; below = hi; rest = r }
