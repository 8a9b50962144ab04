-- The calls of each end, and an end as anything that answers them: what crosses the interface, and nothing else.
use Rattle.std.specs.Prelude.{ℕ, Bool, true, false}
use Rattle.retry_rules.specs.declared.Sender.{Sender}
use Rattle.retry_rules.specs.declared.Receiver.{Receiver}
use Rattle.retry_rules.specs.Answers.{Offered, Sent, Ticked, Arrived}
use Rattle.retry_rules.specs.Fresh.{fresh_sender_of, fresh_receiver_of, reset_of}
use Rattle.retry_rules.specs.Offer.{offer_of}
use Rattle.retry_rules.specs.Send.{send_of}
use Rattle.retry_rules.specs.Reply.{reply_of, damaged_reply_of}
use Rattle.retry_rules.specs.Tick.{tick_of}
use Rattle.retry_rules.specs.Arrival.{arrival_of, damaged_arrival_of}

-- offer: length of the lent run, channel, mark, number of bytes. send: length of the run, of the output. reply: NACK or not, number. reset: T, S
pub data SenderCall : Type 0 where
  offer : ℕ → ℕ → Bool → ℕ → SenderCall
  send : ℕ → ℕ → SenderCall
  reply : Bool → ℕ → SenderCall
  damaged_reply : SenderCall
  tick : SenderCall
  reset : ℕ → ℕ → SenderCall

abbrev pub is_reset : SenderCall → Bool
is_reset (offer lent channel bad n) = false
is_reset (send lent output) = false
is_reset (reply nack k) = false
is_reset damaged_reply = false
is_reset tick = false
is_reset (reset t s) = true

-- what a sender tells: a refusal; of an offer, the segment's number; of a send, whether one went out and its number; of a tick, whether the link went down
pub record Told : Type 0 where
  pub refusal : ℕ
  pub sent : Bool
  pub number : ℕ
  pub fell : Bool

abbrev pub only_refusal : ℕ → Told
only_refusal n = record { refusal = n; sent = false; number = 0; fell = false }

-- any sender, with the expiry count that it reports
pub record SenderEnd : Type 1 where
  pub State : Type 0
  pub fresh : ℕ → ℕ → State
  pub call : State → SenderCall → State
  pub tells : State → SenderCall → Told
  pub count : State → ℕ

-- the sender of the definitions
abbrev pub sender_called : Sender → SenderCall → Sender
sender_called s (offer lent channel bad n) = (offer_of s lent channel bad n).sender
sender_called s (send lent output) = (send_of s lent output).sender
sender_called s (reply nack k) = (reply_of s nack k).sender
sender_called s damaged_reply = (damaged_reply_of s).sender
sender_called s tick = (tick_of s).sender
sender_called s (reset t size) = (reset_of s t size).sender

abbrev pub offer_tells : Offered → Told
offer_tells a = record { refusal = a.refusal; sent = false; number = a.number; fell = false }

abbrev pub send_tells : Sent → Told
send_tells a = record { refusal = a.refusal; sent = a.sent; number = a.number; fell = false }

abbrev pub tick_tells : Ticked → Told
tick_tells a = record { refusal = a.refusal; sent = false; number = 0; fell = a.fell }

abbrev pub sender_tells : Sender → SenderCall → Told
sender_tells s (offer lent channel bad n) = offer_tells (offer_of s lent channel bad n)
sender_tells s (send lent output) = send_tells (send_of s lent output)
sender_tells s (reply nack k) = only_refusal (reply_of s nack k).refusal
sender_tells s damaged_reply = only_refusal (damaged_reply_of s).refusal
sender_tells s tick = tick_tells (tick_of s)
sender_tells s (reset t size) = only_refusal (reset_of s t size).refusal

abbrev pub our_sender : SenderEnd
our_sender =
    record {
      State = Sender;
      fresh = λ t s. (fresh_sender_of t s).sender;
      call = sender_called;
      tells = sender_tells;
      count = λ s. s.counters.expiries;
    }

-- a valid segment: number, channel, mark, number of bytes, room, length of the output; or a damaged one
pub data ReceiverCall : Type 0 where
  arrival : ℕ → ℕ → Bool → ℕ → Bool → ℕ → ReceiverCall
  damaged_arrival : ReceiverCall

-- what a receiver tells: a refusal, whether it delivers, and its reply
pub record Reply : Type 0 where
  pub refusal : ℕ
  pub delivered : Bool
  pub nack : Bool
  pub number : ℕ

pub record ReceiverEnd : Type 1 where
  pub State : Type 0
  pub fresh : ℕ → State
  pub call : State → ReceiverCall → State
  pub tells : State → ReceiverCall → Reply

-- the receiver of the definitions
abbrev pub receiver_answer : Receiver → ReceiverCall → Arrived
receiver_answer r (arrival k channel bad n room output) = arrival_of r k channel bad n room output
receiver_answer r damaged_arrival = damaged_arrival_of r

abbrev pub receiver_tells : Arrived → Reply
receiver_tells a = record { refusal = a.refusal; delivered = a.delivered; nack = a.nack; number = a.number }

abbrev pub our_receiver : ReceiverEnd
our_receiver =
    record {
      State = Receiver;
      fresh = λ s. (fresh_receiver_of s).receiver;
      call = λ r c. (receiver_answer r c).receiver;
      tells = λ r c. receiver_tells (receiver_answer r c);
    }
