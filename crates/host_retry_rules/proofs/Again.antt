-- What is stored of either end is loaded again.
-- Assumes nothing.
use Prim.Native.Nat.{ℕ, ◌+◌, ◌*◌, ◌/◌, ◌%◌}
use mathlib.Core.Path.{◌≡◌, refl, ap, ◌∙◌}
use mathlib.Core.Bool.{Bool, true, false}
use mathlib.Core.List.{List, [], ◌∷◌}
use lib.Dec.{eqb}
use lib.ListN.{length, get_or}
use native.Mathlib.Omega.{arith}
use Rattle.retry_rules.specs.declared.Sender.{Sender}
use Rattle.retry_rules.specs.declared.Receiver.{Receiver}
use Rattle.retry_rules.specs.States.{Eight, no_slot, slot_in}
use Rattle.host_rules.specs.Numbers.{mark_number}
use Rattle.host_retry_rules.specs.SenderBytes.{two, marks_number, marks_from, eight, first_eight, mask_of, marks_of, length_of, channel_of, marks_in, sender_bytes, counters_in, slot_from, sender_in}
use Rattle.host_retry_rules.specs.ReceiverBytes.{receiver_bytes, receiver_in}

halves : (n : ℕ) → two (n / 256) (n % 256) ≡ n
halves n = omega arith

module _ {A : Type 0} (d : A) where
  eight_of : (l : List A) → length l ≡ 8 → first_eight d l ≡ l
  eight_of ([]) h = absurd (omega arith)
  eight_of (x0 ∷ []) h = absurd (omega arith)
  eight_of (x0 ∷ x1 ∷ []) h = absurd (omega arith)
  eight_of (x0 ∷ x1 ∷ x2 ∷ []) h = absurd (omega arith)
  eight_of (x0 ∷ x1 ∷ x2 ∷ x3 ∷ []) h = absurd (omega arith)
  eight_of (x0 ∷ x1 ∷ x2 ∷ x3 ∷ x4 ∷ []) h = absurd (omega arith)
  eight_of (x0 ∷ x1 ∷ x2 ∷ x3 ∷ x4 ∷ x5 ∷ []) h = absurd (omega arith)
  eight_of (x0 ∷ x1 ∷ x2 ∷ x3 ∷ x4 ∷ x5 ∷ x6 ∷ []) h = absurd (omega arith)
  eight_of (x0 ∷ x1 ∷ x2 ∷ x3 ∷ x4 ∷ x5 ∷ x6 ∷ x7 ∷ []) h = refl
  eight_of (x0 ∷ x1 ∷ x2 ∷ x3 ∷ x4 ∷ x5 ∷ x6 ∷ x7 ∷ x8 ∷ xs) h = absurd (omega arith)

first_mark : (m : Bool) (n : ℕ) → eqb ((mark_number m + 2 * n) % 2) 1 ≡ m
first_mark true n = ap (λ (k : ℕ). eqb k 1) (let e : (1 + 2 * n) % 2 ≡ 1 = omega arith in e)
first_mark false n = ap (λ (k : ℕ). eqb k 1) (let e : (0 + 2 * n) % 2 ≡ 0 = omega arith in e)

other_marks : (m : Bool) (n : ℕ) → (mark_number m + 2 * n) / 2 ≡ n
other_marks true n = let e : (1 + 2 * n) / 2 ≡ n = omega arith in e
other_marks false n = let e : (0 + 2 * n) / 2 ≡ n = omega arith in e

marks_again : (ms : List Bool) → marks_from (length ms) (marks_number ms) ≡ ms
marks_again [] = refl
marks_again (m ∷ ms) = simp (first_mark m (marks_number ms), other_marks m (marks_number ms), marks_again ms)

alike :
    {A : Type 0} (f g : ℕ → A) → f 0 ≡ g 0 → f 1 ≡ g 1 → f 2 ≡ g 2 → f 3 ≡ g 3 → f 4 ≡ g 4 → f 5 ≡ g 5 → f 6 ≡ g 6 → f 7 ≡ g 7
    → eight f ≡ eight g
alike f g e0 e1 e2 e3 e4 e5 e6 e7 = simp (e0, e1, e2, e3, e4, e5, e6, e7)

module _ (s : Sender) (e : Eight s) where
  counters_again : counters_in (sender_bytes s) ≡ s.counters
  unfolding counters_in sender_bytes
  counters_again = simp (halves s.counters.timer, halves s.counters.columns, halves s.counters.size)

  marks_are : marks_of (mask_of (marks_in s)) ≡ marks_in s
  unfolding marks_of mask_of
  marks_are = marks_again (marks_in s)

  module _ (i : ℕ) (is : get_or (marks_in s) i false ≡ (slot_in s i).bad) where
    same_slot : (l channel : ℕ) (bad : Bool) → l ≡ two (length_of s i / 256) (length_of s i % 256) → channel ≡ channel_of s i
        → bad ≡ get_or (marks_of (mask_of (marks_in s))) i false → record { length = l; channel = channel; bad = bad } ≡ slot_in s i
    same_slot l channel bad p q r = simp (p ∙ halves (length_of s i), q, r ∙ ap (λ (m : List Bool). get_or m i false) marks_are ∙ is)

  slots_again : eight (slot_from (sender_bytes s)) ≡ s.slots
  unfolding slot_from sender_bytes
  slots_again =
      alike (slot_from (sender_bytes s)) (slot_in s)
      (same_slot 0 refl _ _ _ refl refl refl)
      (same_slot 1 refl _ _ _ refl refl refl)
      (same_slot 2 refl _ _ _ refl refl refl)
      (same_slot 3 refl _ _ _ refl refl refl)
      (same_slot 4 refl _ _ _ refl refl refl)
      (same_slot 5 refl _ _ _ refl refl refl)
      (same_slot 6 refl _ _ _ refl refl refl)
      (same_slot 7 refl _ _ _ refl refl refl)
      ∙ eight_of no_slot s.slots e.slots

  -- the bytes of a sender stand for it
  pub sender_again : sender_in (sender_bytes s) ≡ s
  unfolding sender_in
  sender_again = simp (counters_again, slots_again)

-- and those of a receiver for it
pub receiver_again : (r : Receiver) → receiver_in (receiver_bytes r) ≡ r
unfolding receiver_in receiver_bytes
receiver_again r = simp (halves r.size)
