-- A machine that reads a line bit by bit, with a test after each bit.
-- Assumes nothing.
use mathlib.Core.Bool.{Bool, true, false, ◌&&◌}
use mathlib.Core.List.{List, [], ◌∷◌, ◌++◌}
use Prim.Native.Nat.{ℕ}
use lib.Dec.{T}
use Rattle.laws.proofs.Bools.{and_right}

joined : (a p q : Bool) → (T p → T q) → T (a && p) → T (a && q)
joined true p q f u = f u
joined false p q f u = u

module _ {S : Type 0} (step : S → ℕ → S) (ok : S → Bool) where
  -- the test passes after each bit, and what is asked of the end holds there
  abbrev pub passes : S → List ℕ → (S → Bool) → Bool
  passes s [] k = k s
  passes s (x ∷ xs) k = ok (step s x) && passes (step s x) xs k

  pub passes_append : (s : S) (xs ys : List ℕ) (k : S → Bool) → T (passes s xs (λ t. passes t ys k)) → T (passes s (xs ++ ys) k)
  passes_append s [] ys k t = t
  passes_append s (x ∷ xs) ys k t = joined (ok (step s x)) _ _ (passes_append (step s x) xs ys k) t

  pub passes_weaker : (s : S) (xs : List ℕ) (k l : S → Bool) → ((u : S) → T (k u) → T (l u)) → T (passes s xs k) → T (passes s xs l)
  passes_weaker s [] k l f t = f s t
  passes_weaker s (x ∷ xs) k l f t = joined (ok (step s x)) _ _ (passes_weaker (step s x) xs k l f) t

  -- a later part of the line passes, from some state
  pub passes_later : (s : S) (xs ys : List ℕ) (k : S → Bool) → T (passes s (xs ++ ys) k) → (u : S) × T (passes u ys k)
  passes_later s [] ys k t = (s, t)
  passes_later s (x ∷ xs) ys k t = passes_later (step s x) xs ys k (and_right (ok (step s x)) (passes (step s x) (xs ++ ys) k) t)
