-- Document 01, "On the bench": the rows on the retry, as runs of the public definitions from fresh ends. Whole answers are compared.
use Rattle.std.specs.Prelude.{◌≡◌, Bool, true, false, ℕ, zero, suc, ◌%◌}
use Rattle.retry_rules.specs.declared.Sender.{Sender}
use Rattle.retry_rules.specs.declared.Receiver.{Receiver}
use Rattle.retry_rules.specs.Answers.{Arrived}
use Rattle.retry_rules.specs.Fresh.{fresh_sender_of, fresh_receiver_of}
use Rattle.retry_rules.specs.Offer.{offer_of}
use Rattle.retry_rules.specs.Send.{send_of, send_point}
use Rattle.retry_rules.specs.Reply.{reply_of}
use Rattle.retry_rules.specs.Arrival.{arrival_of, undelivered}

-- the arrival of segment k: two bytes on channel 3, with room and an output of eight bytes
abbrev pub arrives : Receiver → ℕ → Arrived
arrives r k = arrival_of r k 3 false 2 true 8

-- a fresh receiver with S = 8, to which the first n segments have come
abbrev pub received : ℕ → Receiver
received zero = (fresh_receiver_of 8).receiver
received (suc n) = (arrives (received n) (n % 16)).receiver

-- a fresh sender with T = 100 and S = 8 after n offers; a sender after n sends; one that has heard a reply
abbrev pub offered : ℕ → Sender
offered zero = (fresh_sender_of 100 8).sender
offered (suc n) = (offer_of (offered n) 64 3 false 2).sender

abbrev pub sent : ℕ → Sender → Sender
sent zero s = s
sent (suc n) s = (send_of (sent n s) 64 8).sender

abbrev pub hears : Bool → ℕ → Sender → Sender
hears nack k s = (reply_of s nack k).sender

-- an arrival is answered with ACK k, or NACK k, and nothing else happens
abbrev pub AnswersAck : Receiver → ℕ → ℕ → Type 0
AnswersAck r n k = arrives r n ≡ undelivered false k r

abbrev pub AnswersNack : Receiver → ℕ → ℕ → Type 0
AnswersNack r n k = arrives r n ≡ undelivered true k r

-- the number of the oldest, how many are stored, the send point
abbrev pub Stands : Sender → ℕ → ℕ → ℕ → Type 0
Stands s oldest stored point =
    (s.counters.oldest ≡ oldest) × (s.counters.stored ≡ stored) × (send_point s.counters ≡ point)

pub record Rows : Type 0 where
  -- P fresh receiver, segment 12: NACK 0. Three received, segment 11: NACK 3; segment 2: ACK 2
  pub fresh_12 : AnswersNack (received 0) 12 0
  pub three_11 : AnswersNack (received 3) 11 3
  pub three_2 : AnswersAck (received 3) 2 2
  -- P ten received: segment 2 gives ACK 2, segment 1 gives NACK 10
  pub ten_2 : AnswersAck (received 10) 2 2
  pub ten_1 : AnswersNack (received 10) 1 10
  -- P segments 0 to 2 sent, NACK, then ACK 0: oldest 1, send point 1
  pub nack_then_ack : Stands (hears false 0 (hears true 0 (sent 3 (offered 3)))) 1 2 1
  -- segments 0 to 2 sent, ACK 2: an ACK covers no earlier segment. The same, ACK 12: not one really released
  pub ack_2 : Stands (hears false 2 (sent 3 (offered 3))) 0 3 0
  pub ack_12 : Stands (hears false 12 (sent 3 (offered 3))) 0 3 0
  -- eight stored accepts; the ninth is refusal 5
  pub eighth : (offer_of (offered 7) 64 3 false 2).refusal ≡ 0
  pub ninth : (offer_of (offered 8) 64 3 false 2).refusal ≡ 5
  -- S = 8 allowed, 4 and 12 refused
  pub size_8 : (fresh_receiver_of 8).refusal ≡ 0
  pub size_4 : (fresh_receiver_of 4).refusal ≡ 2
  pub size_12 : (fresh_receiver_of 12).refusal ≡ 2
