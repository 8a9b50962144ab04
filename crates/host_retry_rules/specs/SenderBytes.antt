-- The sender's state as 38 bytes, and 38 bytes as a state. Numbers of two bytes have the high byte first.
--   0 oldest     1 stored     2 outstanding     3 send point     4 released     5, 6 timer     7 expiries     8, 9 T     10, 11 S     12 link
--   13 to 28 the lengths of what the eight buffers hold     29 to 36 their channels     37 their bad marks, one bit each, buffer 0 the lowest
-- Each 38 bytes stand for one state, and its rule says whether it is one.
use Rattle.std.specs.Prelude.{ℕ, zero, suc, ◌+◌, ◌*◌, ◌/◌, ◌%◌, Bool, false, List, [], ◌∷◌, eqb, get_or}
use Rattle.retry_rules.specs.declared.Counters.{Counters}
use Rattle.retry_rules.specs.declared.Sender.{Sender}
use Rattle.retry_rules.specs.declared.Slot.{Slot}
use Rattle.retry_rules.specs.States.{slot_in}
use Rattle.host_rules.specs.Numbers.{mark_number}

abbrev pub two : ℕ → ℕ → ℕ
two high low = high * 256 + low

abbrev pub at : List ℕ → ℕ → ℕ
at b i = get_or b i 0

-- marks as a number, the first in its lowest bit, and a number as so many marks
abbrev pub marks_number : List Bool → ℕ
marks_number [] = 0
marks_number (m ∷ ms) = mark_number m + 2 * marks_number ms

abbrev pub marks_from : ℕ → ℕ → List Bool
marks_from zero n = []
marks_from (suc k) n = eqb (n % 2) 1 ∷ marks_from k (n / 2)

-- the eight values of a function below eight, and so the eight elements of a list of eight
abbrev pub eight : {A : Type 0} → (ℕ → A) → List A
eight f = f 0 ∷ f 1 ∷ f 2 ∷ f 3 ∷ f 4 ∷ f 5 ∷ f 6 ∷ f 7 ∷ []

abbrev pub first_eight : {A : Type 0} → A → List A → List A
first_eight d l = eight (λ i. get_or l i d)

unfoldable pub mask_of : List Bool → ℕ
mask_of marks = marks_number (first_eight false marks)

unfoldable pub marks_of : ℕ → List Bool
marks_of mask = marks_from 8 mask

-- the length of what a buffer holds, its channel, and the eight marks
abbrev pub length_of : Sender → ℕ → ℕ
length_of s i = (slot_in s i).length

abbrev pub channel_of : Sender → ℕ → ℕ
channel_of s i = (slot_in s i).channel

abbrev pub marks_in : Sender → List Bool
marks_in s = eight (λ i. (slot_in s i).bad)

unfoldable pub sender_bytes : Sender → List ℕ
sender_bytes s =
    s.counters.oldest ∷ s.counters.stored ∷ s.counters.outstanding ∷ s.counters.point ∷ s.counters.released
    ∷ s.counters.timer / 256 ∷ s.counters.timer % 256 ∷ s.counters.expiries
    ∷ s.counters.columns / 256 ∷ s.counters.columns % 256 ∷ s.counters.size / 256 ∷ s.counters.size % 256 ∷ s.counters.link
    ∷ length_of s 0 / 256 ∷ length_of s 0 % 256 ∷ length_of s 1 / 256 ∷ length_of s 1 % 256
    ∷ length_of s 2 / 256 ∷ length_of s 2 % 256 ∷ length_of s 3 / 256 ∷ length_of s 3 % 256
    ∷ length_of s 4 / 256 ∷ length_of s 4 % 256 ∷ length_of s 5 / 256 ∷ length_of s 5 % 256
    ∷ length_of s 6 / 256 ∷ length_of s 6 % 256 ∷ length_of s 7 / 256 ∷ length_of s 7 % 256
    ∷ channel_of s 0 ∷ channel_of s 1 ∷ channel_of s 2 ∷ channel_of s 3
    ∷ channel_of s 4 ∷ channel_of s 5 ∷ channel_of s 6 ∷ channel_of s 7
    ∷ mask_of (marks_in s) ∷ []

unfoldable pub counters_in : List ℕ → Counters
counters_in b =
    record {
      oldest = at b 0;
      stored = at b 1;
      outstanding = at b 2;
      point = at b 3;
      released = at b 4;
      timer = two (at b 5) (at b 6);
      expiries = at b 7;
      columns = two (at b 8) (at b 9);
      size = two (at b 10) (at b 11);
      link = at b 12;
    }

-- what buffer i holds beside its bytes
unfoldable pub slot_from : List ℕ → ℕ → Slot
slot_from b i =
    record {
      length = two (at b (13 + 2 * i)) (at b (14 + 2 * i));
      channel = at b (29 + i);
      bad = get_or (marks_of (at b 37)) i false;
    }

unfoldable pub sender_in : List ℕ → Sender
sender_in b = record { counters = counters_in b; slots = eight (slot_from b) }
