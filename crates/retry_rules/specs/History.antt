-- Rules about the past, said of any end: of every list of calls from a fresh one.
use Rattle.std.specs.Prelude.{ℕ, ◌+◌, ◌*◌, ◌%◌, ◌≤◌, ◌<◌, Bool, true, false, List, ◌≡◌, ◌↔◌, ◌⊎◌}
use Rattle.retry_rules.specs.Numbers.{time_allowed}
use Rattle.segment_size.specs.Sizes.{size_allowed}
use Rattle.retry_rules.specs.Calls.{SenderCall, offer, send, reply, tick, is_reset, SenderEnd, ReceiverCall, arrival, damaged_arrival, Reply, ReceiverEnd}
use Rattle.retry_rules.specs.Ledger.{Ledger, blank, waits_for_reply, oldest_number, sender_after, ledger_after, receiver_after, delivered_after}

-- k is the number of one of the last eight of the first e segments
abbrev pub Recent : ℕ → ℕ → Type 0
Recent e k = (j : ℕ) × (j < e) × (e ≤ j + 8) × (k ≡ j % 16)

-- what a receiver that has delivered e segments tells of a valid segment with the number k that is not refused
pub record ByHistory (e k : ℕ) (room : Bool) (a : Reply) : Type 0 where
  -- the expected number and room: delivered, and ACK with that number
  pub delivers : (a.delivered ≡ true) ↔ ((k ≡ e % 16) × (room ≡ true))
  -- one of the last eight really received: ACK without delivery
  pub repeats : ((a.delivered ≡ false) × (a.nack ≡ false)) ↔ Recent e k
  pub ack_number : a.nack ≡ false → a.number ≡ k
  -- all else: NACK, with the expected number
  pub delivers_acks : a.delivered ≡ true → a.nack ≡ false
  pub nack_number : a.nack ≡ true → a.number ≡ e % 16

-- a receiver judges each segment by what it really delivered
pub record JudgesByHistory (I : ReceiverEnd) : Type 0 where
  pub valid :
      (s : ℕ) → size_allowed s ≡ true → (cs : List ReceiverCall) (k channel : ℕ) (bad : Bool) (n : ℕ) (room : Bool) (output : ℕ)
      → let r = receiver_after I (I.fresh s) cs in
      let a = I.tells r (arrival k channel bad n room output) in
      a.refusal ≡ 0 → ByHistory (delivered_after I (I.fresh s) 0 cs) k room a
  -- a good one, with a long enough output, is not refused
  pub takes :
      (s : ℕ) → size_allowed s ≡ true → (cs : List ReceiverCall) (k channel : ℕ) (bad : Bool) (n : ℕ) (room : Bool) (output : ℕ)
      → k < 16 → channel < 16 → 0 < n → n ≤ s → n ≤ output
      → (I.tells (receiver_after I (I.fresh s) cs) (arrival k channel bad n room output)).refusal ≡ 0
  -- a damaged one brings a NACK with the expected number
  pub damaged :
      (s : ℕ) → size_allowed s ≡ true → (cs : List ReceiverCall)
      → I.tells (receiver_after I (I.fresh s) cs) damaged_arrival
      ≡ record { refusal = 0; delivered = false; nack = true; number = delivered_after I (I.fresh s) 0 cs % 16 }

-- this tick is an expiry
abbrev pub Due : Ledger → Type 0
Due l = (waits_for_reply l ≡ true) × (l.ticks + 1 ≡ l.columns)

-- a sender's expiry count is the number of expiries since the last clearing. The third takes the link down: that tick says so, is not refused,
-- and no other says so; then every call but reset is refused with 7
pub record CountsExpiries (I : SenderEnd) : Type 0 where
  pub counts :
      (t s : ℕ) → time_allowed t ≡ true → size_allowed s ≡ true → (cs : List SenderCall)
      → I.count (sender_after I (I.fresh t s) cs) ≡ (ledger_after I (I.fresh t s) (blank t s) cs).expiries
  pub third :
      (t s : ℕ) → time_allowed t ≡ true → size_allowed s ≡ true → (cs : List SenderCall)
      → let l = ledger_after I (I.fresh t s) (blank t s) cs in
      let a = I.tells (sender_after I (I.fresh t s) cs) tick in
      ((a.refusal ≡ 0) × (a.fell ≡ true)) ↔ ((l.expiries ≡ 2) × Due l)
  pub down :
      (t s : ℕ) → time_allowed t ≡ true → size_allowed s ≡ true → (cs : List SenderCall) (c : SenderCall)
      → (ledger_after I (I.fresh t s) (blank t s) cs).expiries ≡ 3 → is_reset c ≡ false
      → (I.tells (sender_after I (I.fresh t s) cs) c).refusal ≡ 7

-- while the link is up a good offer is accepted, with the number after the last accepted one, unless eight are stored, and then it is refused with 5
pub record TakesOffers (I : SenderEnd) : Type 0 where
  pub takes :
      (t s : ℕ) → time_allowed t ≡ true → size_allowed s ≡ true → (cs : List SenderCall) (channel : ℕ) (bad : Bool) (n : ℕ)
      → let l = ledger_after I (I.fresh t s) (blank t s) cs in
      let a = I.tells (sender_after I (I.fresh t s) cs) (offer (8 * l.size) channel bad n) in
      l.expiries < 3 → channel < 16 → 0 < n → n ≤ l.size
      → (l.accepted < l.released + 8 → (a.refusal ≡ 0) × (a.number ≡ l.accepted % 16)) × (l.accepted ≡ l.released + 8 → a.refusal ≡ 5)

-- a sender by the segments that went out, were released and are stored: what a send tells next, with a long enough output
pub record HearsByHistory (I : SenderEnd) : Type 0 where
  -- the send point is never before the oldest nor past what is stored: each segment that goes out is a stored one
  pub sends_stored :
      (t s : ℕ) → time_allowed t ≡ true → size_allowed s ≡ true → (cs : List SenderCall) (lent output : ℕ)
      → let l = ledger_after I (I.fresh t s) (blank t s) cs in
      let a = I.tells (sender_after I (I.fresh t s) cs) (send lent output) in
      a.sent ≡ true → (j : ℕ) × (l.released ≤ j) × (j < l.accepted) × (a.number ≡ j % 16)
  -- while something is outstanding and the link is up: ACK of one of the last eight really released is ignored
  pub ignores :
      (t s : ℕ) → time_allowed t ≡ true → size_allowed s ≡ true → (cs : List SenderCall) (k lent output : ℕ)
      → let x = sender_after I (I.fresh t s) cs in
      let l = ledger_after I (I.fresh t s) (blank t s) cs in
      l.expiries < 3 → waits_for_reply l ≡ true → Recent l.released k
      → I.tells (I.call x (reply false k)) (send lent output) ≡ I.tells x (send lent output)
  -- any other ACK that is not of the oldest, and any NACK: the next to go is the oldest
  pub goes_back :
      (t s : ℕ) → time_allowed t ≡ true → size_allowed s ≡ true → (cs : List SenderCall) (nack : Bool) (k output : ℕ)
      → let x = sender_after I (I.fresh t s) cs in
      let l = ledger_after I (I.fresh t s) (blank t s) cs in
      l.expiries < 3 → waits_for_reply l ≡ true → k < 16 → l.size ≤ output
      → (nack ≡ true) ⊎ ((k ≡ oldest_number l → ⊥) × (Recent l.released k → ⊥))
      → I.tells (I.call x (reply nack k)) (send (8 * l.size) output)
      ≡ record { refusal = 0; sent = true; number = oldest_number l; fell = false }
