-- The written rules, in numbers: what a state that keeps its rule has, and that what has it keeps the rule.
-- Assumes nothing.
use mathlib.Core.Path.{◌≡◌, subst}
use mathlib.Core.Bool.{Bool, true, ◌&&◌, ◌||◌}
use Prim.Native.Nat.{ℕ, ◌+◌, ◌*◌, ◌/◌, ◌≤◌, ◌<◌}
use native.Mathlib.Omega.{arith}
use lib.Dec.{ltb, leb, eqb}
use borrow.Author.Tests.{ltb-true, ltb-false, leb-true, eqb-true, eqb-false, lt-ltb, le-leb, eq-eqb}
use Rattle.laws.proofs.Cases.{by_cases, by_test, both_true, first_true, second_true, either_true}
use Rattle.retry_rules.specs.declared.Counters.{Counters}
use Rattle.retry_rules.specs.Numbers.{time_allowed, count_rule}
use Rattle.segment_size.specs.Sizes.{size_allowed}
use Rattle.retry_rules.specs.States.{is_up, is_down, link_rule, timer_rule, window_rule, counters_rule}

-- a number and the count of the last eight before it. A count below eight is the number itself
pub record Counted (n count : ℕ) : Type 0 where
  pub number_lt : n < 16
  pub count_le : count ≤ 8
  pub not_over : n ≤ count + 16 * (count / 8)
  pub not_under : count ≤ n + 16 * (count / 8)

pub counted : (n k : ℕ) → count_rule n k ≡ true → Counted n k
unfolding count_rule
counted n k =
    by_cases (λ (b : Bool). b ≡ true → Counted n k) (ltb k 8)
    (λ t q.
    let a = ltb-true k 8 t in
    let b = eqb-true n k q in
    omega arith)
    (λ t q.
    let a = eqb-true k 8 (first_true (eqb k 8) (ltb n 16) q) in
    let b = ltb-true n 16 (second_true (eqb k 8) (ltb n 16) q) in
    omega arith)

pub count_kept : (n k : ℕ) → Counted n k → count_rule n k ≡ true
unfolding count_rule
count_kept n k h =
    by_cases (λ (b : Bool). b ≡ true) (ltb k 8)
    (λ t.
    let a = ltb-true k 8 t in
    eq-eqb n k (omega arith))
    (λ t.
    let a = ltb-false k 8 t in
    both_true (eqb k 8) (ltb n 16) (eq-eqb k 8 (omega arith)) (lt-ltb n 16 h.number_lt))

-- the link is 1 or 2; with 1, at most two expiries are counted; with 2, three, the timer stands at its start and something is outstanding.
-- With nothing outstanding the timer stands at its start and no expiry is counted
pub record Linked (c : Counters) : Type 0 where
  pub link_pos : 0 < c.link
  pub link_le : c.link ≤ 2
  pub few : c.expiries ≤ c.link + 1
  pub third : 3 * c.link ≤ c.expiries + 3
  pub stands : c.columns + 65535 * c.link ≤ c.timer + 131070
  pub held : c.link ≤ c.outstanding + 1
  pub idle : c.columns + c.expiries ≤ c.timer + 70000 * c.outstanding

-- the sender's numbers
pub record Numbers (c : Counters) : Type 0 where
  pub counts : Counted c.oldest c.released
  pub stored_le : c.stored ≤ 8
  pub outstanding_le : c.outstanding ≤ c.stored
  pub point_le : c.point ≤ c.outstanding
  pub columns_le : c.columns ≤ 65535
  pub timer_pos : 0 < c.timer
  pub timer_le : c.timer ≤ c.columns
  pub link : Linked c

pub record Holds (c : Counters) : Type 0 where
  pub numbers : Numbers c
  pub size : size_allowed c.size ≡ true

linked : (c : Counters) → c.columns ≤ 65535 → 0 < c.timer → c.timer ≤ c.columns → link_rule c ≡ true → Linked c
unfolding link_rule
linked c h₁ h₂ h₃ =
    by_cases (λ (b : Bool). b ≡ true → Linked c) (is_up c)
    (λ t q.
    let up = eqb-true c.link 1 t in
    let few = ltb-true c.expiries 3 (first_true (ltb c.expiries 3) _ q) in
    let rest = second_true (ltb c.expiries 3) _ q in
    by_test (ltb 0 c.outstanding)
    (λ u.
    let some = ltb-true 0 c.outstanding u in
    omega arith)
    (λ u.
    let still : (eqb c.timer c.columns && eqb c.expiries 0) ≡ true =
    subst (λ (b : Bool). b || (eqb c.timer c.columns && eqb c.expiries 0) ≡ true) u rest in
    let a = eqb-true c.timer c.columns (first_true (eqb c.timer c.columns) (eqb c.expiries 0) still) in
    let b = eqb-true c.expiries 0 (second_true (eqb c.timer c.columns) (eqb c.expiries 0) still) in
    omega arith))
    (λ t q.
    let down = eqb-true c.link 2 (first_true (is_down c) _ q) in
    let q₁ = second_true (is_down c) _ q in
    let three = eqb-true c.expiries 3 (first_true (eqb c.expiries 3) _ q₁) in
    let q₂ = second_true (eqb c.expiries 3) _ q₁ in
    let a = eqb-true c.timer c.columns (first_true (eqb c.timer c.columns) _ q₂) in
    let b = ltb-true 0 c.outstanding (second_true (eqb c.timer c.columns) _ q₂) in
    omega arith)

link_kept : (c : Counters) → Numbers c → link_rule c ≡ true
unfolding link_rule
link_kept c n =
    by_cases (λ (b : Bool). b ≡ true) (is_up c)
    (λ t.
    let up = eqb-true c.link 1 t in
    both_true (ltb c.expiries 3) _ (lt-ltb c.expiries 3 (omega arith))
    (either_true (ltb 0 c.outstanding) _
    (λ u.
    let none = ltb-false 0 c.outstanding u in
    both_true (eqb c.timer c.columns) (eqb c.expiries 0) (eq-eqb c.timer c.columns (omega arith))
    (eq-eqb c.expiries 0 (omega arith)))))
    (λ t.
    let not_up = eqb-false c.link 1 t in
    let down : c.link ≡ 2 = omega arith in
    both_true (is_down c) _ (eq-eqb c.link 2 down)
    (both_true (eqb c.expiries 3) _ (eq-eqb c.expiries 3 (omega arith))
    (both_true (eqb c.timer c.columns) _ (eq-eqb c.timer c.columns (omega arith))
    (lt-ltb 0 c.outstanding (omega arith)))))

pub holds : (c : Counters) → counters_rule c ≡ true → Holds c
unfolding counters_rule window_rule timer_rule
holds c q =
    let q₁ = second_true (size_allowed c.size) _ q in
    let counts = counted c.oldest c.released (first_true (count_rule c.oldest c.released) _ q₁) in
    let q₂ = second_true (count_rule c.oldest c.released) _ q₁ in
    let w = first_true (window_rule c) _ q₂ in
    let t = second_true (window_rule c) _ q₂ in
    let stored = leb-true c.stored 8 (first_true (leb c.stored 8) _ w) in
    let w₁ = second_true (leb c.stored 8) _ w in
    let outstanding = leb-true c.outstanding c.stored (first_true (leb c.outstanding c.stored) _ w₁) in
    let point = leb-true c.point c.outstanding (second_true (leb c.outstanding c.stored) _ w₁) in
    let time = first_true (time_allowed c.columns) _ t in
    let long = leb-true c.columns 65535 (second_true (ltb 0 c.columns) _ time) in
    let t₁ = second_true (time_allowed c.columns) _ t in
    let pos = ltb-true 0 c.timer (first_true (ltb 0 c.timer) _ t₁) in
    let t₂ = second_true (ltb 0 c.timer) _ t₁ in
    let le = leb-true c.timer c.columns (first_true (leb c.timer c.columns) _ t₂) in
    let l = linked c long pos le (second_true (leb c.timer c.columns) _ t₂) in
    record { numbers = omega arith; size = first_true (size_allowed c.size) _ q }

pub keeps : (c : Counters) → Holds c → counters_rule c ≡ true
unfolding counters_rule window_rule timer_rule
keeps c h =
    let n = h.numbers in
    both_true (size_allowed c.size) _ h.size
    (both_true (count_rule c.oldest c.released) _ (count_kept c.oldest c.released n.counts)
    (both_true (window_rule c) _
    (both_true (leb c.stored 8) _ (le-leb c.stored 8 n.stored_le)
    (both_true (leb c.outstanding c.stored) _ (le-leb c.outstanding c.stored n.outstanding_le)
    (le-leb c.point c.outstanding n.point_le)))
    (both_true (time_allowed c.columns) _
    (both_true (ltb 0 c.columns) _ (lt-ltb 0 c.columns (omega arith)) (le-leb c.columns 65535 n.columns_le))
    (both_true (ltb 0 c.timer) _ (lt-ltb 0 c.timer n.timer_pos)
    (both_true (leb c.timer c.columns) _ (le-leb c.timer c.columns n.timer_le) (link_kept c n))))))
