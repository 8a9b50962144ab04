-- The slots of the stored segments: what their rule says of each, and what leaves it kept.
-- Assumes nothing.
use mathlib.Core.Path.{◌≡◌, refl, sym, ◌∙◌, ap, subst}
use mathlib.Core.Bool.{Bool, true, false}
use mathlib.Core.Logic.{◌≢◌}
use Prim.Native.Nat.{ℕ, zero, suc, ◌+◌, ◌≤◌, ◌<◌}
use native.Mathlib.Omega.{arith}
use native.Mathlib.Nat.{not-suc-le-zero}
use native.Mathlib.Numerals.{add-one}
use lib.Dec.{ltb, leb, eqb}
use lib.Seq.{get_or-set_same, get_or-set_other}
use borrow.Author.Tests.{ltb-true, leb-true, eqb-true, eqb-false, lt-ltb, le-leb}
use Rattle.laws.proofs.Cases.{by_test, both_true, first_true, second_true, false_is_not_true}
use Rattle.retry_rules.specs.declared.Counters.{Counters}
use Rattle.retry_rules.specs.declared.Sender.{Sender}
use Rattle.retry_rules.specs.Numbers.{every_below}
use Rattle.retry_rules.specs.States.{slot_of, no_slot, slot_in, slot_rule, slots_rule, Eight}
use Rattle.retry_rules.specs.Offer.{free_slot, stored_in}
use Rattle.retry_rules.specs.Reply.{with_counters}

-- a test at each number below n
pub every_at : (n : ℕ) (f : ℕ → Bool) (i : ℕ) → every_below n f ≡ true → i < n → f i ≡ true
every_at zero f i q h = absurd (not-suc-le-zero h)
every_at (suc n) f i q h =
    by_test (eqb i n)
    (λ t. subst (λ (j : ℕ). f j ≡ true) (sym (eqb-true i n t)) (second_true (every_below n f) (f n) q))
    (λ t.
    let ne = eqb-false i n t in
    every_at n f i (first_true (every_below n f) (f n) q) (omega arith))

pub every_all : (n : ℕ) (f : ℕ → Bool) → ((i : ℕ) → i < n → f i ≡ true) → every_below n f ≡ true
every_all zero f h = refl
every_all (suc n) f h =
    both_true (every_below n f) (f n) (every_all n f (λ i l. h i (omega arith))) (h n (omega arith))

pub every_more : (n : ℕ) (f : ℕ → Bool) → every_below n f ≡ true → f n ≡ true → every_below (n + 1) f ≡ true
every_more n f p q = rw add-one (both_true (every_below n f) (f n) p q)

pub every_fails : (n : ℕ) (f : ℕ → Bool) (i : ℕ) → i < n → f i ≡ false → every_below n f ≡ false
every_fails n f i h q =
    by_test (every_below n f) (λ t. absurd (false_is_not_true (sym q ∙ every_at n f i t h))) (λ t. t)

-- what a buffer holds that keeps its rule
pub record Slot (s : Sender) (i : ℕ) : Type 0 where
  pub some : 0 < (slot_in s i).length
  pub most : (slot_in s i).length ≤ s.counters.size
  pub channel_lt : (slot_in s i).channel < 16

pub slot : (s : Sender) (i : ℕ) → slot_rule s i ≡ true → Slot s i
unfolding slot_rule
slot s i q =
    let l = (slot_in s i).length in
    let q₁ = second_true (ltb 0 l) _ q in
    record {
      some = ltb-true 0 l (first_true (ltb 0 l) _ q);
      most = leb-true l s.counters.size (first_true (leb l s.counters.size) _ q₁);
      channel_lt = ltb-true (slot_in s i).channel 16 (second_true (leb l s.counters.size) _ q₁);
    }

pub slot_kept : (s : Sender) (i : ℕ) → Slot s i → slot_rule s i ≡ true
unfolding slot_rule
slot_kept s i h =
    let l = (slot_in s i).length in
    both_true (ltb 0 l) _ (lt-ltb 0 l h.some)
    (both_true (leb l s.counters.size) _ (le-leb l s.counters.size h.most)
    (lt-ltb (slot_in s i).channel 16 h.channel_lt))

-- the segment that stands i after the oldest, if it is stored
pub stored_slot : (s : Sender) (i : ℕ) → slots_rule s ≡ true → i < s.counters.stored → Slot s (slot_of s.counters i)
unfolding slots_rule
stored_slot s i q h =
    slot s (slot_of s.counters i) (every_at s.counters.stored (λ j. slot_rule s (slot_of s.counters j)) i q h)

pub slots_kept : (s : Sender) → ((i : ℕ) → i < s.counters.stored → Slot s (slot_of s.counters i)) → slots_rule s ≡ true
unfolding slots_rule
slots_kept s f =
    every_all s.counters.stored (λ i. slot_rule s (slot_of s.counters i))
    (λ i h. slot_kept s (slot_of s.counters i) (f i h))

-- counters d whose stored segments are those of s from the k-th on, in the same buffers
pub record Later (s : Sender) (d : Counters) (k : ℕ) : Type 0 where
  pub same_size : d.size ≡ s.counters.size
  pub fewer : d.stored + k ≤ s.counters.stored
  pub moved : (i : ℕ) → slot_of d i ≡ slot_of s.counters (i + k)

pub later_kept : (s : Sender) (d : Counters) (k : ℕ) → Later s d k → slots_rule s ≡ true → slots_rule (with_counters s d) ≡ true
later_kept s d k l q =
    slots_kept (with_counters s d)
    (λ i h.
    let j = slot_of d i in
    let old : Slot s j = subst (λ (m : ℕ). Slot s m) (sym (l.moved i)) (stored_slot s (i + k) q (omega (arith, l.fewer))) in
    record { some = old.some; most = omega (arith, old.most, l.same_size); channel_lt = old.channel_lt })

-- a segment that keeps the rule, stored in the free buffer
module _ (s : Sender) (channel : ℕ) (bad : Bool) (n : ℕ) (e : Eight s) where
  pub stored_kept :
      0 < n → n ≤ s.counters.size → channel < 16 → s.counters.stored < 8 → slots_rule s ≡ true
      → slots_rule (stored_in s channel bad n) ≡ true
  stored_kept h₁ h₂ h₃ h₄ q =
      slots_kept (stored_in s channel bad n)
      (λ i h.
      let free = free_slot s.counters in
      let j = slot_of s.counters i in
      by_test (eqb i s.counters.stored)
      (λ t.
      let eq = eqb-true i s.counters.stored t in
      let at : j ≡ free = omega arith in
      let new : slot_in (stored_in s channel bad n) j ≡ record { length = n; channel = channel; bad = bad } =
      ap (λ (m : ℕ). slot_in (stored_in s channel bad n) m) at
      ∙ get_or-set_same s.slots free (record { length = n; channel = channel; bad = bad }) no_slot (omega (arith, e.slots)) in
      let lengths = ap (λ x. x.length) new in
      let channels = ap (λ x. x.channel) new in
      record { some = omega arith; most = omega arith; channel_lt = omega arith })
      (λ t.
      let ne = eqb-false i s.counters.stored t in
      let at : j ≢ free = λ p. omega arith in
      let old = stored_slot s i q (omega arith) in
      let kept = get_or-set_other s.slots free j (record { length = n; channel = channel; bad = bad }) no_slot at in
      let lengths = ap (λ x. x.length) kept in
      let channels = ap (λ x. x.channel) kept in
      record { some = omega arith; most = omega arith; channel_lt = omega arith }))
