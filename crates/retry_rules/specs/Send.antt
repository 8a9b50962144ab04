-- A send: the segment at the send point goes out, and the send point moves on. Past the last stored segment it sends nothing and changes nothing.
-- `lent` is the length of the run of eight buffers, `output` that of the output.
use Rattle.std.specs.Prelude.{ℕ, ◌+◌, max, Bool, true, cond, not, ◌&&◌, List, [], ◌∷◌, ltb, length}
use Rattle.refusal.specs.Order.{Check, check, outcome, left}
use Rattle.retry_rules.specs.declared.Counters.{Counters}
use Rattle.retry_rules.specs.declared.Sender.{Sender}
use Rattle.retry_rules.specs.Answers.{Sent}
use Rattle.retry_rules.specs.Numbers.{after}
use Rattle.retry_rules.specs.States.{is_down, sender_rule, buffers_rule, slot_of, slot_in}
use Rattle.retry_rules.specs.Refused.{refused_send}
use Rattle.retry_rules.specs.Lent.{laid, held_length, held_bytes}

-- the send point is not past the last stored segment
abbrev pub to_send : Counters → Bool
to_send c = ltb c.point c.stored

-- the buffer and the number at the send point
abbrev pub due_slot : Counters → ℕ
due_slot c = slot_of c c.point

abbrev pub send_point : Counters → ℕ
send_point c = after c.oldest c.point

unfoldable pub send_checks : Sender → ℕ → ℕ → List Check
send_checks s lent output =
    check 7 (is_down s.counters) ∷ check 1 (not (sender_rule s)) ∷ check 1 (not (buffers_rule s lent))
    ∷ check 6 (to_send s.counters && ltb output (held_length s (due_slot s.counters))) ∷ []

-- the send point moves on; a segment sent for the first time waits no longer
abbrev pub one_sent : Counters → Counters
one_sent c =
    record {
      oldest = c.oldest;
      stored = c.stored;
      outstanding = max c.outstanding (c.point + 1);
      point = c.point + 1;
      released = c.released;
      timer = c.timer;
      expiries = c.expiries;
      columns = c.columns;
      size = c.size;
      link = c.link;
    }

-- nothing to send: no refusal, and the same sender
abbrev pub nothing_sent : Sender → Sent
nothing_sent s = refused_send s 0

abbrev pub due_sent : Sender → Sent
due_sent s =
    record {
      refusal = 0;
      sent = true;
      number = send_point s.counters;
      channel = (slot_in s (due_slot s.counters)).channel;
      bad = (slot_in s (due_slot s.counters)).bad;
      length = held_length s (due_slot s.counters);
      sender = record { counters = one_sent s.counters; slots = s.slots };
    }

-- what a send answers
unfoldable pub send_of : Sender → ℕ → ℕ → Sent
send_of s lent output =
    outcome (send_checks s lent output) (refused_send s) (cond (to_send s.counters) (due_sent s) (nothing_sent s))

-- what the output holds after it
unfoldable pub send_output : Sender → List ℕ → List ℕ → List ℕ
send_output s buffers output =
    left (send_checks s (length buffers) (length output)) output
    (cond (to_send s.counters) (laid output 0 (held_bytes s buffers (due_slot s.counters))) output)
