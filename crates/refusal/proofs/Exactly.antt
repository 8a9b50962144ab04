-- A number is given exactly when some line of the table with it applies and no line with an earlier number does.
-- Assumes nothing.
use mathlib.Core.Path.{◌≡◌, refl, sym, ap, ◌∙◌}
use mathlib.Core.Bool.{Bool, true, false, not}
use mathlib.Core.List.{List, [], ◌∷◌, ◌++◌}
use Prim.Native.Nat.{ℕ, ◌<◌}
use native.Mathlib.Omega.{arith}
use lib.Dec.{T}
use Rattle.laws.specs.Lists.{all_of}
use Rattle.laws.proofs.Bools.{and_left, and_right, and_both, true_t}
use Rattle.laws.proofs.Cases.{by_cases, cond_true, cond_false}
use Rattle.refusal.specs.Order.{Check, order, given, first_of, refusal_of}

-- n stands among the numbers and is given, and none before it is
pub record FirstGiven (n : ℕ) (ns : List ℕ) (cs : List Check) : Type 0 where
  pub before : List ℕ
  pub after : List ℕ
  pub stands : ns ≡ before ++ n ∷ after
  pub earlier : T (all_of (λ k. not (given k cs)) before)
  pub is_given_lem : given n cs ≡ true

not_given : (b : Bool) → T (not b) → b ≡ false
not_given true t = absurd t
not_given false t = refl

first_is : (before : List ℕ) (n : ℕ) (after : List ℕ) (cs : List Check) → T (all_of (λ k. not (given k cs)) before) → given n cs ≡ true
    → first_of (before ++ n ∷ after) cs ≡ n
first_is [] n after cs e g = cond_true (given n cs) n (first_of after cs) g
first_is (k ∷ ks) n after cs e g =
    cond_false (given k cs) k (first_of (ks ++ n ∷ after) cs) (not_given (given k cs) (and_left (not (given k cs)) _ e))
    ∙ first_is ks n after cs (and_right (not (given k cs)) _ e) g

is_first : (ns : List ℕ) (cs : List Check) (n : ℕ) → 0 < n → first_of ns cs ≡ n → FirstGiven n ns cs
is_first [] cs n p = λ q. absurd (omega (arith, p, q))
is_first (k ∷ ks) cs n p =
    by_cases (λ (x : ℕ). x ≡ n → FirstGiven n (k ∷ ks) cs) (given k cs)
    (λ t e. record { before = []; after = ks; stands = ap (λ (m : ℕ). m ∷ ks) e; earlier = tt; is_given_lem = ap (λ (m : ℕ). given m cs) (sym e) ∙ t })
    (λ t e.
    let r = is_first ks cs n p e in
    record {
      before = k ∷ r.before;
      after = r.after;
      stands = ap (λ (l : List ℕ). k ∷ l) r.stands;
      earlier = and_both (not (given k cs)) _ (true_t (not (given k cs)) (ap not t)) r.earlier;
      is_given_lem = r.is_given_lem;
    })

-- THE TABLE'S 'given exactly when', under its order
pub given_exactly : (cs : List Check) (n : ℕ) → 0 < n → refusal_of cs ≡ n → FirstGiven n order cs
given_exactly cs n p q = is_first order cs n p q

pub exactly_given : (cs : List Check) (n : ℕ) → FirstGiven n order cs → refusal_of cs ≡ n
exactly_given cs n r = ap (λ (l : List ℕ). first_of l cs) r.stands ∙ first_is r.before n r.after cs r.earlier r.is_given_lem

-- and two outcomes of one call are one: nothing is left open by a list of checks
pub one_refusal : (cs : List Check) (n m : ℕ) → FirstGiven n order cs → FirstGiven m order cs → n ≡ m
one_refusal cs n m a b = sym (exactly_given cs n a) ∙ exactly_given cs m b
