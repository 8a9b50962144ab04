-- A test that passes at each of a list passes at each number that stands in it.
-- Assumes nothing.
use mathlib.Core.Path.{sym, subst}
use mathlib.Core.Bool.{Bool, ◌||◌}
use mathlib.Core.List.{List, [], ◌∷◌}
use Prim.Native.Nat.{ℕ}
use lib.Dec.{T, eqb}
use borrow.Author.Tests.{eqb-true}
use Rattle.laws.specs.Lists.{all_of, one_of}
use Rattle.laws.proofs.Bools.{and_left, and_right}
use Rattle.laws.proofs.Cases.{by_test}

pub one_of_all : (f : ℕ → Bool) (l : List ℕ) (n : ℕ) → T (all_of f l) → T (one_of n l) → T (f n)
one_of_all f [] n a m = absurd m
one_of_all f (k ∷ l) n a m =
    by_test (eqb n k) (λ t. subst (λ (j : ℕ). T (f j)) (sym (eqb-true n k t)) (and_left (f k) (all_of f l) a))
    (λ t. one_of_all f l n (and_right (f k) (all_of f l) a) (subst (λ (b : Bool). T (b || one_of n l)) t m))
