-- What each call answers by the rules, the state that it leaves included; and what an answer of the code says of that, the state left aside.
-- `refusal` is the number of document 01's table, 0 for none; a refusal brings zeros beside the state that was given.
use Rattle.std.specs.Prelude.{ℕ, Bool, true, false, Result, Ok, Err, Option, Some, None}
use Rattle.refusal.specs.declared.Refusal.{Refusal}
use Rattle.refusal.specs.Order.{number_of}
use Rattle.retry_rules.specs.declared.Sender.{Sender}
use Rattle.retry_rules.specs.declared.Receiver.{Receiver}
use Rattle.retry_rules.specs.declared.Segment.{Segment}
use Rattle.retry_rules.specs.declared.Delivered.{Delivered}
use Rattle.retry_rules.specs.declared.Arrival.{Arrival}
use Rattle.retry_rules.specs.declared.Reply.{Reply}
use Rattle.retry_rules.specs.declared.Reply.TheVariants.{Ack, Nack}

-- what a fresh sender, a reply, a damaged reply and a reset answer
pub record Answered : Type 0 where
  pub refusal : ℕ
  pub sender : Sender

-- an offer that is accepted answers with its segment number
pub record Offered : Type 0 where
  pub refusal : ℕ
  pub number : ℕ
  pub sender : Sender

-- `sent` false and no refusal: there was nothing to send
pub record Sent : Type 0 where
  pub refusal : ℕ
  pub sent : Bool
  pub number : ℕ
  pub channel : ℕ
  pub bad : Bool
  pub length : ℕ
  pub sender : Sender

-- `fell`: this tick took the link down
pub record Ticked : Type 0 where
  pub refusal : ℕ
  pub fell : Bool
  pub sender : Sender

-- what a fresh receiver answers
pub record Begun : Type 0 where
  pub refusal : ℕ
  pub receiver : Receiver

-- the reply is ACK or NACK with `number`; what is delivered has a channel, a bad mark and a length, and where nothing is they are zeros
pub record Arrived : Type 0 where
  pub refusal : ℕ
  pub delivered : Bool
  pub nack : Bool
  pub number : ℕ
  pub channel : ℕ
  pub bad : Bool
  pub length : ℕ
  pub receiver : Receiver

-- an answer beside the state that the call leaves
pub record OfferAnswer : Type 0 where
  pub refusal : ℕ
  pub number : ℕ

pub record SendAnswer : Type 0 where
  pub refusal : ℕ
  pub sent : Bool
  pub number : ℕ
  pub channel : ℕ
  pub bad : Bool
  pub length : ℕ

pub record TickAnswer : Type 0 where
  pub refusal : ℕ
  pub fell : Bool

pub record ArrivalAnswer : Type 0 where
  pub refusal : ℕ
  pub delivered : Bool
  pub nack : Bool
  pub number : ℕ
  pub channel : ℕ
  pub bad : Bool
  pub length : ℕ

abbrev pub offer_beside : Offered → OfferAnswer
offer_beside a = record { refusal = a.refusal; number = a.number }

abbrev pub send_beside : Sent → SendAnswer
send_beside a =
    record { refusal = a.refusal; sent = a.sent; number = a.number; channel = a.channel; bad = a.bad; length = a.length }

abbrev pub tick_beside : Ticked → TickAnswer
tick_beside a = record { refusal = a.refusal; fell = a.fell }

abbrev pub arrival_beside : Arrived → ArrivalAnswer
arrival_beside a =
    record {
      refusal = a.refusal;
      delivered = a.delivered;
      nack = a.nack;
      number = a.number;
      channel = a.channel;
      bad = a.bad;
      length = a.length;
    }

-- an offer answers its segment's number
abbrev pub offer_says : Result ℕ Refusal → OfferAnswer
offer_says (Ok k) = record { refusal = 0; number = k }
offer_says (Err r) = record { refusal = number_of r; number = 0 }

-- a send answers the segment that goes out, if one does
abbrev pub send_says : Result (Option Segment) Refusal → SendAnswer
send_says (Ok (Some x)) =
    record { refusal = 0; sent = true; number = x.number; channel = x.channel; bad = x.bad; length = x.length }
send_says (Ok None) = record { refusal = 0; sent = false; number = 0; channel = 0; bad = false; length = 0 }
send_says (Err r) = record { refusal = number_of r; sent = false; number = 0; channel = 0; bad = false; length = 0 }

-- a tick answers whether it took the link down
abbrev pub tick_says : Result Bool Refusal → TickAnswer
tick_says (Ok fell) = record { refusal = 0; fell = fell }
tick_says (Err r) = record { refusal = number_of r; fell = false }

abbrev pub is_nack : Reply → Bool
is_nack (Ack k) = false
is_nack (Nack k) = true

abbrev pub reply_number : Reply → ℕ
reply_number (Ack k) = k
reply_number (Nack k) = k

-- a reply that goes out, and nothing is delivered
abbrev pub reply_says : Reply → ArrivalAnswer
reply_says x =
    record { refusal = 0; delivered = false; nack = is_nack x; number = reply_number x; channel = 0; bad = false; length = 0 }

-- a refused arrival: no reply
abbrev pub no_reply : Refusal → ArrivalAnswer
no_reply r =
    record { refusal = number_of r; delivered = false; nack = false; number = 0; channel = 0; bad = false; length = 0 }

-- what goes out with what is delivered
abbrev pub delivery_beside : Reply → Option Delivered → ArrivalAnswer
delivery_beside x (Some d) =
    record { refusal = 0; delivered = true; nack = is_nack x; number = reply_number x; channel = d.channel; bad = d.bad; length = d.length }
delivery_beside x None = reply_says x

-- an arrival answers its reply and what is delivered
abbrev pub arrival_says : Result Arrival Refusal → ArrivalAnswer
arrival_says (Ok a) = delivery_beside a.reply a.delivered
arrival_says (Err r) = no_reply r

-- a damaged arrival answers its reply
abbrev pub damaged_says : Result Reply Refusal → ArrivalAnswer
damaged_says (Ok x) = reply_says x
damaged_says (Err r) = no_reply r
