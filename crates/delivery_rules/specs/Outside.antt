-- What can be seen from outside of a sender and a receiver: whether the link is up, what is outstanding or stored, how many expiries are counted
-- and when the timer expires, all counted from the calls and their answers.
use Rattle.std.specs.Prelude.{ℕ, ◌+◌, ◌-◌, ◌%◌, Bool, cond, ◌&&◌, List, ltb, eqb, length}
use Rattle.retry_rules.specs.Lent.{Content}
use Rattle.delivery_rules.specs.Ends.{Reply, ack, nack, damaged_reply}

pub record Seen : Type 0 where
  -- T, as the fresh sender was given it
  pub columns : ℕ
  pub accepted : List Content
  pub delivered : List Content
  -- how many different segments have gone out, and how many of them have been acknowledged in turn
  pub gone : ℕ
  pub released : ℕ
  -- ticks since the timer's start or restart, and expiries since the last clearing
  pub ticks : ℕ
  pub expiries : ℕ

-- the third expiry takes the link down
abbrev pub is_up : Seen → Bool
is_up g = ltb g.expiries 3

-- sent and not acknowledged; accepted and not acknowledged
abbrev pub outstanding : Seen → ℕ
outstanding g = g.gone - g.released

abbrev pub stored : Seen → ℕ
stored g = length g.accepted - g.released

-- the timer runs while the link is up and something is outstanding
abbrev pub is_running : Seen → Bool
is_running g = is_up g && ltb 0 (outstanding g)

-- a reply with the number k is heard as one to the oldest; the next tick is the T-th
abbrev pub is_oldest : Seen → ℕ → Bool
is_oldest g k = is_running g && eqb k (g.released % 16)

abbrev pub is_last : Seen → Bool
is_last g = eqb (g.ticks + 1) g.columns

abbrev pub ticks_left : Seen → ℕ
ticks_left g = g.columns - g.ticks

-- a send with the number k is of the next segment that has not gone out, if there is one; any other is of one that has
abbrev pub is_next : Seen → ℕ → Bool
is_next g k = ltb g.gone (length g.accepted) && eqb k (g.gone % 16)

unfoldable pub gone_with : Seen → ℕ → ℕ
gone_with g k = cond (is_next g k) (g.gone + 1) g.gone

abbrev pub seen_with : Seen → ℕ → ℕ → ℕ → ℕ → Seen
seen_with g gone released ticks expiries =
    record {
      columns = g.columns;
      accepted = g.accepted;
      delivered = g.delivered;
      gone = gone;
      released = released;
      ticks = ticks;
      expiries = expiries;
    }

-- an ACK or NACK of the oldest's number restarts the timer and clears the count; the ACK releases the oldest
unfoldable pub seen_reply : Seen → Reply → Seen
seen_reply g (ack k) = cond (is_oldest g k) (seen_with g g.gone (g.released + 1) 0 0) g
seen_reply g (nack k) = cond (is_oldest g k) (seen_with g g.gone g.released 0 0) g
seen_reply g damaged_reply = g

-- the T-th tick is an expiry
unfoldable pub seen_tick : Seen → Seen
seen_tick g =
    cond (is_running g)
    (cond (is_last g) (seen_with g g.gone g.released 0 (g.expiries + 1))
    (seen_with g g.gone g.released (g.ticks + 1) g.expiries))
    g

abbrev pub seen_lists : Seen → List Content → List Content → Seen
seen_lists g accepted delivered =
    record {
      columns = g.columns;
      accepted = accepted;
      delivered = delivered;
      gone = g.gone;
      released = g.released;
      ticks = g.ticks;
      expiries = g.expiries;
    }
