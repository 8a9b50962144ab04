-- What a call has passed where it is not refused, and what its answer comes to, whatever its checks.
-- Assumes nothing.
use mathlib.Core.Path.{◌≡◌, refl, sym, ◌∙◌, ap, subst}
use mathlib.Core.Bool.{Bool, true, false, not, cond, ◌||◌}
use mathlib.Core.List.{List, [], ◌∷◌}
use Prim.Native.Nat.{ℕ}
use native.Mathlib.Omega.{arith}
use lib.Dec.{T, eqb, ltb}
use borrow.Author.Tests.{eq-eqb, eqb-true, eqb-false, ltb-true, not-true}
use Rattle.laws.specs.Lists.{all_of, one_of}
use Rattle.laws.proofs.Bools.{and_left, and_right, and_both, T_true, true_t}
use Rattle.laws.proofs.Cases.{by_cases, by_test, cond_false, false_is_not_true}
use Rattle.refusal.specs.Order.{Check, order, given, first_of, refusal_of, outcome}
use Rattle.refusal.proofs.Laws.{refused}

-- no check applies
abbrev pub passed : List Check → Bool
passed cs = all_of (λ c. not c.applies) cs

-- each check has a number of the table
abbrev pub numbered : List Check → Bool
numbered cs = all_of (λ c. one_of c.number order) cs

or_left : (a b : Bool) → a || b ≡ false → a ≡ false
or_left true b q = q
or_left false b q = refl

or_right : (a b : Bool) → a || b ≡ false → b ≡ false
or_right true b q = absurd (false_is_not_true (sym q))
or_right false b q = q

or_false : (a b : Bool) → a ≡ false → b ≡ false → a || b ≡ false
or_false true b p q = p
or_false false b p q = q

-- where the first given number is none, no number is given
none_given :
    (ns : List ℕ) (cs : List Check) (n : ℕ) → T (all_of (ltb 0) ns) → first_of ns cs ≡ 0 → T (one_of n ns) → given n cs ≡ false
none_given [] cs n p q m = absurd m
none_given (k ∷ ns) cs n p q m =
    let pos = ltb-true 0 k (T_true (ltb 0 k) (and_left (ltb 0 k) (all_of (ltb 0) ns) p)) in
    let first : (given k cs ≡ false) × (first_of ns cs ≡ 0) =
    by_cases (λ (x : ℕ). x ≡ 0 → (given k cs ≡ false) × (first_of ns cs ≡ 0)) (given k cs) (λ t e. absurd (omega arith))
    (λ t e. (t, e)) q in
    by_test (eqb n k) (λ t. subst (λ (j : ℕ). given j cs ≡ false) (sym (eqb-true n k t)) first.0)
    (λ t. none_given ns cs n (and_right (ltb 0 k) (all_of (ltb 0) ns) p) first.1
    (subst (λ (b : Bool). T (b || one_of n ns)) t m))

-- no check applies where none of its numbers is given
none_applies :
    (cs : List Check) → ((n : ℕ) → T (one_of n order) → given n cs ≡ false) → T (numbered cs) → T (passed cs)
none_applies [] f m = tt
none_applies (c ∷ cs) f m =
    let n = c.number in
    let own : given n cs || c.applies ≡ false =
    subst (λ (b : Bool). cond b (given n cs || c.applies) (given n cs) ≡ false) (eq-eqb n n refl)
    (f n (and_left (one_of n order) (numbered cs) m)) in
    let rest : (k : ℕ) → T (one_of k order) → given k cs ≡ false = λ k h.
    by_cases (λ (b : Bool). b ≡ false → given k cs ≡ false) (eqb k n) (λ t. or_left (given k cs) c.applies) (λ t e. e) (f k h) in
    and_both (not c.applies) (passed cs) (true_t (not c.applies) (ap not (or_right (given n cs) c.applies own)))
    (none_applies cs rest (and_right (one_of n order) (numbered cs) m))

-- a call that is not refused has passed each of its checks
pub has_passed : (cs : List Check) → T (numbered cs) → refusal_of cs ≡ 0 → T (passed cs)
has_passed cs m q = none_applies cs (λ n h. none_given order cs n tt q h) m

-- a call that passes each is not refused
not_given : (cs : List Check) (n : ℕ) → T (passed cs) → given n cs ≡ false
not_given [] n p = refl
not_given (c ∷ cs) n p =
    let rest = not_given cs n (and_right (not c.applies) (passed cs) p) in
    by_cases (λ (b : Bool). b ≡ false) (eqb n c.number)
    (λ t. or_false (given n cs) c.applies rest
    (not-true c.applies (T_true (not c.applies) (and_left (not c.applies) (passed cs) p))))
    (λ t. rest)

first_of_none : (ns : List ℕ) (cs : List Check) → T (passed cs) → first_of ns cs ≡ 0
first_of_none [] cs p = refl
first_of_none (n ∷ ns) cs p = cond_false (given n cs) n (first_of ns cs) (not_given cs n p) ∙ first_of_none ns cs p

pub is_not_refused : (cs : List Check) → T (passed cs) → refusal_of cs ≡ 0
is_not_refused cs p = first_of_none order cs p

module _ {A : Type 0} (cs : List Check) where
  -- what holds of the work of a call that is not refused, and of what each refusal makes, holds of the call
  pub either_way :
      (P : A → Type 0) (f : ℕ → A) (x : A) → (refusal_of cs ≡ 0 → P x) → ((refusal_of cs ≡ 0 → ⊥) → P (f (refusal_of cs)))
      → P (outcome cs f x)
  either_way P f x g h =
      by_cases P (eqb (refusal_of cs) 0) (λ t. g (eqb-true (refusal_of cs) 0 t)) (λ t. h (eqb-false (refusal_of cs) 0 t))

  -- an answer that carries its refusal's number, and 0 where the work is done, carries the number of its checks
  pub number_is :
      (number : A → ℕ) (f : ℕ → A) (x : A) → ((n : ℕ) → number (f n) ≡ n) → number x ≡ 0 → number (outcome cs f x) ≡ refusal_of cs
  number_is number f x p q =
      either_way (λ (a : A). number a ≡ refusal_of cs) f x (λ e. q ∙ sym e) (λ e. p (refusal_of cs))

  -- a refusal, told by its number, answers with what is made of it
  pub leaves_answer :
      (number : A → ℕ) (f : ℕ → A) (x : A) → ((n : ℕ) → number (f n) ≡ n) → number x ≡ 0 → (number (outcome cs f x) ≡ 0 → ⊥)
      → outcome cs f x ≡ f (number (outcome cs f x))
  leaves_answer number f x p q h =
      let e = number_is number f x p q in
      refused cs f x (λ z. h (e ∙ z)) ∙ ap f (sym e)
