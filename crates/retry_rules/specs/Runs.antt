-- Further runs of the public definitions from fresh ends, one for a rule that people get wrong.
use Rattle.std.specs.Prelude.{◌≡◌, true, false, List, [], ◌∷◌, ℕ, zero, suc, take, drop, replicate}
use Rattle.retry_rules.specs.declared.Sender.{Sender}
use Rattle.retry_rules.specs.Refused.{refused_offer, refused_send, refused_tick, refused_arrival}
use Rattle.retry_rules.specs.Fresh.{fresh_sender_of, fresh_sender, no_sender, no_receiver, reset_of}
use Rattle.retry_rules.specs.Offer.{offer_of, offer_buffers}
use Rattle.retry_rules.specs.Send.{send_of, send_output}
use Rattle.retry_rules.specs.Tick.{tick_of}
use Rattle.retry_rules.specs.Arrival.{undelivered, arrival_of, arrival_output, damaged_arrival_of}
use Rattle.retry_rules.specs.Bench.{arrives, received, offered, sent, hears}

-- a sender with S = 8 and this T that has one segment, sent once
abbrev pub started : ℕ → Sender
started t = sent 1 (offer_of (fresh_sender_of t 8).sender 64 3 false 2).sender

abbrev pub ticks : ℕ → Sender → Sender
ticks zero s = s
ticks (suc n) s = (tick_of (ticks n s)).sender

-- with T = 1, two expiries with the segment sent again after the second
abbrev pub last_chance : Sender
last_chance = sent 1 (ticks 2 (started 1))

-- the eight buffers after two offers of two bytes
abbrev pub two_stored : List ℕ
two_stored = offer_buffers (offered 1) (offer_buffers (offered 0) (replicate 64 0) 3 (1 ∷ 2 ∷ [])) 3 (3 ∷ 4 ∷ [])

pub record Runs : Type 0 where
  -- an accepted offer answers with its segment number
  pub third_offered : (offer_of (sent 1 (offered 2)) 64 3 false 2).number ≡ 2
  -- a NACK of the oldest's number clears the expiry count and restarts the timer; one of another number does neither
  pub nack_clears : (hears true 0 (ticks 1 (started 1))).counters.expiries ≡ 0
  pub nack_restarts : (hears true 0 (ticks 1 (started 3))).counters.timer ≡ 3
  pub other_nack : (hears true 5 (ticks 1 (started 1))).counters.expiries ≡ 1
  -- an ACK of a segment really released is ignored
  pub ack_again : (hears false 0 (hears false 0 (sent 3 (offered 3)))).counters.point ≡ 2
  -- sending again does not restart the timer
  pub resend : (sent 1 (hears true 5 (ticks 1 (started 3)))).counters.timer ≡ 2
  -- the third expiry says that the link went down and is not refused; count 3, timer at its start, send point unmoved
  pub third : ((tick_of last_chance).refusal ≡ 0) × ((tick_of last_chance).fell ≡ true)
  pub third_leaves :
      ((ticks 1 last_chance).counters.expiries ≡ 3) × ((ticks 1 last_chance).counters.timer ≡ 1) × ((ticks 1 last_chance).counters.point ≡ 1)
  -- the next call is refused with 7, and a reset is not
  pub down : (tick_of (ticks 1 last_chance)).refusal ≡ 7
  pub up_again : reset_of (ticks 1 last_chance) 5 16 ≡ record { refusal = 0; sender = fresh_sender 5 16 }
  -- a refused reset hands back the state it was given
  pub reset_refused : ((reset_of (started 9) 0 8).refusal ≡ 1) × ((reset_of (started 9) 0 8).sender.counters.stored ≡ 1)
  -- with nothing outstanding a reply is ignored and a tick does nothing
  pub idle : (hears false 0 (fresh_sender 5 8) ≡ fresh_sender 5 8) × (ticks 1 (fresh_sender 5 8) ≡ fresh_sender 5 8)
  -- expected and no room: NACK, at any output; a repeated segment is acknowledged with no room
  pub no_room : arrival_of (received 3) 3 3 false 2 false 0 ≡ undelivered true 3 (received 3)
  pub repeated_no_room : arrival_of (received 3) 2 3 false 2 false 0 ≡ undelivered false 2 (received 3)
  -- an output one byte short is refused, and exactly long enough is not
  pub short : arrival_of (received 3) 3 3 false 2 true 1 ≡ refused_arrival (received 3) 6
  pub exact : arrival_of (received 3) 3 3 false 2 true 2 ≡ arrives (received 3) 3
  -- a second offer leaves the bytes of the first; a send hands out those at the send point; an arrival those that came. The rest is as it stood
  pub both_stored : (take 2 two_stored ≡ 1 ∷ 2 ∷ []) × (take 2 (drop 8 two_stored) ≡ 3 ∷ 4 ∷ [])
  pub second_sent : send_output (sent 1 (offered 2)) two_stored (7 ∷ 8 ∷ 9 ∷ []) ≡ 3 ∷ 4 ∷ 9 ∷ []
  pub delivered : arrival_output (received 3) 3 3 (1 ∷ 2 ∷ []) true (7 ∷ 8 ∷ 9 ∷ []) ≡ 1 ∷ 2 ∷ 9 ∷ []
  pub not_delivered : arrival_output (received 3) 2 3 (1 ∷ 2 ∷ []) true (7 ∷ 8 ∷ 9 ∷ []) ≡ 7 ∷ 8 ∷ 9 ∷ []
  -- all zeros is no state: 1, and not 7
  pub zeros :
      (offer_of no_sender 0 3 false 2 ≡ refused_offer no_sender 1) × (send_of no_sender 0 8 ≡ refused_send no_sender 1)
      × (tick_of no_sender ≡ refused_tick no_sender 1) × (damaged_arrival_of no_receiver ≡ refused_arrival no_receiver 1)
