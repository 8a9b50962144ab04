-- What a host can write down of a sender by the calls it made and what it was told, and the same of a receiver.
use Rattle.std.specs.Prelude.{ℕ, ◌+◌, ◌%◌, Bool, cond, ◌&&◌, List, [], ◌∷◌, ltb, eqb}
use Rattle.retry_rules.specs.Calls.{
  SenderCall,
  offer,
  send,
  reply,
  damaged_reply,
  tick,
  reset,
  Told,
  SenderEnd,
  ReceiverCall,
  ReceiverEnd,
}

-- T and S; how many segments were accepted, have gone out at least once, were released; ticks since the timer last started;
-- expiries since the last clearing
pub record Ledger : Type 0 where
  pub columns : ℕ
  pub size : ℕ
  pub accepted : ℕ
  pub out : ℕ
  pub released : ℕ
  pub ticks : ℕ
  pub expiries : ℕ

abbrev pub blank : ℕ → ℕ → Ledger
blank t s = record { columns = t; size = s; accepted = 0; out = 0; released = 0; ticks = 0; expiries = 0 }

-- something that went out is not released
abbrev pub waits_for_reply : Ledger → Bool
waits_for_reply l = ltb l.released l.out

-- the number of the oldest segment
abbrev pub oldest_number : Ledger → ℕ
oldest_number l = l.released % 16

abbrev pub one_accepted : Ledger → Ledger
one_accepted l =
    record {
      columns = l.columns;
      size = l.size;
      accepted = l.accepted + 1;
      out = l.out;
      released = l.released;
      ticks = l.ticks;
      expiries = l.expiries;
    }

abbrev pub one_out : Ledger → Ledger
one_out l =
    record {
      columns = l.columns;
      size = l.size;
      accepted = l.accepted;
      out = l.out + 1;
      released = l.released;
      ticks = l.ticks;
      expiries = l.expiries;
    }

-- the timer at so many ticks with so many expiries counted; so many more released
abbrev pub timed : ℕ → ℕ → ℕ → Ledger → Ledger
timed ticks expiries gone l =
    record {
      columns = l.columns;
      size = l.size;
      accepted = l.accepted;
      out = l.out;
      released = l.released + gone;
      ticks = ticks;
      expiries = expiries;
    }

-- what is written down of a call that is not refused
abbrev pub entry : Ledger → SenderCall → Told → Ledger
entry l (offer lent channel bad n) told = one_accepted l
-- a segment that went out has gone out for the first time if its number is the next
entry l (send lent output) told = cond (told.sent && eqb told.number (l.out % 16)) (one_out l) l
-- ACK or NACK of the oldest's number restarts the timer and clears the count; the ACK releases
entry l (reply nack k) told =
    cond (waits_for_reply l && eqb k (oldest_number l)) (timed 0 0 (cond nack 0 1) l) l
entry l damaged_reply told = l
-- the T-th tick is an expiry
entry l tick told =
    cond (waits_for_reply l)
    (cond (eqb (l.ticks + 1) l.columns) (timed 0 (l.expiries + 1) 0 l) (timed (l.ticks + 1) l.expiries 0 l)) l
entry l (reset t s) told = blank t s

-- a call that is refused changes nothing
abbrev pub entered : Ledger → SenderCall → Told → Ledger
entered l c told = cond (eqb told.refusal 0) (entry l c told) l

module _ (I : SenderEnd) where
  -- where a sender stands after a list of calls, and what is then written down
  unfoldable pub sender_after : I.State → List SenderCall → I.State
  sender_after s [] = s
  sender_after s (c ∷ cs) = sender_after (I.call s c) cs

  unfoldable pub ledger_after : I.State → Ledger → List SenderCall → Ledger
  ledger_after s l [] = l
  ledger_after s l (c ∷ cs) = ledger_after (I.call s c) (entered l c (I.tells s c)) cs

module _ (I : ReceiverEnd) where
  -- where a receiver stands after a list of arrivals, and how many segments it has delivered, e before them
  unfoldable pub receiver_after : I.State → List ReceiverCall → I.State
  receiver_after r [] = r
  receiver_after r (c ∷ cs) = receiver_after (I.call r c) cs

  unfoldable pub delivered_after : I.State → ℕ → List ReceiverCall → ℕ
  delivered_after r e [] = e
  delivered_after r e (c ∷ cs) = delivered_after (I.call r c) (cond (I.tells r c).delivered (e + 1) e) cs
