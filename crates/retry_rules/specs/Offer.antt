-- An offer: a segment is stored, if there is a free buffer, and gets the number after the last stored one.
-- `lent` is the length of the run of eight buffers, n the number of bytes offered.
use Rattle.std.specs.Prelude.{ℕ, ◌+◌, Bool, not, List, [], ◌∷◌, ltb, eqb, length, set}
use Rattle.refusal.specs.Order.{Check, check, outcome, left}
use Rattle.retry_rules.specs.declared.Counters.{Counters}
use Rattle.retry_rules.specs.declared.Sender.{Sender}
use Rattle.retry_rules.specs.Answers.{Offered}
use Rattle.retry_rules.specs.Numbers.{after}
use Rattle.retry_rules.specs.States.{is_down, sender_rule, buffers_rule, slot_of}
use Rattle.retry_rules.specs.Refused.{refused_offer}
use Rattle.retry_rules.specs.Lent.{laid, buffer_at}

unfoldable pub offer_checks : Sender → ℕ → ℕ → ℕ → List Check
offer_checks s lent channel n =
    check 7 (is_down s.counters) ∷ check 1 (not (sender_rule s)) ∷ check 1 (not (buffers_rule s lent)) ∷ check 1 (not (ltb channel 16))
    ∷ check 2 (ltb s.counters.size n) ∷ check 4 (eqb n 0) ∷ check 5 (eqb s.counters.stored 8) ∷ []

-- the buffer and the number that the next segment gets
abbrev pub free_slot : Counters → ℕ
free_slot c = slot_of c c.stored

abbrev pub next_number : Counters → ℕ
next_number c = after c.oldest c.stored

-- one more is stored, and waits
abbrev pub one_stored : Counters → Counters
one_stored c =
    record {
      oldest = c.oldest;
      stored = c.stored + 1;
      outstanding = c.outstanding;
      point = c.point;
      released = c.released;
      timer = c.timer;
      expiries = c.expiries;
      columns = c.columns;
      size = c.size;
      link = c.link;
    }

abbrev pub stored_in : Sender → ℕ → Bool → ℕ → Sender
stored_in s channel bad n =
    record {
      counters = one_stored s.counters;
      slots = set s.slots (free_slot s.counters) (record { length = n; channel = channel; bad = bad });
    }

-- what an offer answers
unfoldable pub offer_of : Sender → ℕ → ℕ → Bool → ℕ → Offered
offer_of s lent channel bad n =
    outcome (offer_checks s lent channel n) (refused_offer s)
    (record { refusal = 0; number = next_number s.counters; sender = stored_in s channel bad n })

-- what the eight buffers hold after it
unfoldable pub offer_buffers : Sender → List ℕ → ℕ → List ℕ → List ℕ
offer_buffers s buffers channel bytes =
    left (offer_checks s (length buffers) channel (length bytes)) buffers
    (laid buffers (buffer_at s (free_slot s.counters)) bytes)
