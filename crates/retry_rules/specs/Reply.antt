-- A reply, ACK or NACK with a number, and a damaged reply.
use Rattle.std.specs.Prelude.{ℕ, ◌-◌, Bool, cond, not, List, [], ◌∷◌, ltb, eqb}
use Rattle.refusal.specs.Order.{Check, check, outcome}
use Rattle.retry_rules.specs.declared.Counters.{Counters}
use Rattle.retry_rules.specs.declared.Sender.{Sender}
use Rattle.retry_rules.specs.Answers.{Answered}
use Rattle.retry_rules.specs.Numbers.{after, one_more, among_last}
use Rattle.retry_rules.specs.States.{is_down, sender_rule}
use Rattle.retry_rules.specs.Refused.{refused_sender}

-- the send point at a place, the timer at a number of ticks with so many expiries counted, all else as it was
abbrev pub point_at : ℕ → Counters → Counters
point_at p c =
    record {
      oldest = c.oldest;
      stored = c.stored;
      outstanding = c.outstanding;
      point = p;
      released = c.released;
      timer = c.timer;
      expiries = c.expiries;
      columns = c.columns;
      size = c.size;
      link = c.link;
    }

abbrev pub timer_at : ℕ → ℕ → Counters → Counters
timer_at ticks expiries c =
    record {
      oldest = c.oldest;
      stored = c.stored;
      outstanding = c.outstanding;
      point = c.point;
      released = c.released;
      timer = ticks;
      expiries = expiries;
      columns = c.columns;
      size = c.size;
      link = c.link;
    }

-- send point to the oldest
abbrev pub to_oldest : Counters → Counters
to_oldest c = point_at 0 c

-- the timer restarts and the expiry count is cleared
abbrev pub restarted : Counters → Counters
restarted c = timer_at c.columns 0 c

-- the oldest is released; a send point left behind moves up
abbrev pub one_released : Counters → Counters
one_released c =
    record {
      oldest = after c.oldest 1;
      stored = c.stored - 1;
      outstanding = c.outstanding - 1;
      point = c.point - 1;
      released = one_more c.released;
      timer = c.timer;
      expiries = c.expiries;
      columns = c.columns;
      size = c.size;
      link = c.link;
    }

-- ACK of the oldest: release it. ACK of one of the last eight really released: ignored. Any other ACK: send point to the oldest
unfoldable pub acked : Counters → ℕ → Counters
acked c k =
    cond (eqb k c.oldest) (restarted (one_released c)) (cond (among_last c.released c.oldest k) c (to_oldest c))

-- any NACK: send point to the oldest; one of the oldest's number restarts the timer and clears the count
unfoldable pub nacked : Counters → ℕ → Counters
nacked c k = to_oldest (cond (eqb k c.oldest) (restarted c) c)

-- with nothing outstanding any reply is ignored
unfoldable pub heard : Counters → Bool → ℕ → Counters
heard c nack k = cond (eqb c.outstanding 0) c (cond nack (nacked c k) (acked c k))

-- a call that takes the sender alone
unfoldable pub sender_checks : Sender → List Check
sender_checks s = check 7 (is_down s.counters) ∷ check 1 (not (sender_rule s)) ∷ []

unfoldable pub reply_checks : Sender → ℕ → List Check
reply_checks s k = check 1 (not (ltb k 16)) ∷ sender_checks s

-- the sender with other counters; its slots as they were
abbrev pub with_counters : Sender → Counters → Sender
with_counters s c = record { counters = c; slots = s.slots }

-- what a reply with the number k answers
unfoldable pub reply_of : Sender → Bool → ℕ → Answered
reply_of s nack k =
    outcome (reply_checks s k) (refused_sender s)
    (record { refusal = 0; sender = with_counters s (heard s.counters nack k) })

-- a damaged reply: ignored
unfoldable pub damaged_reply_of : Sender → Answered
damaged_reply_of s =
    outcome (sender_checks s) (refused_sender s) (record { refusal = 0; sender = s })
