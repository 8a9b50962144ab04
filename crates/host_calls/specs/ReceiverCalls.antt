-- What the receiver's calls come to for C: the refusal's number, and what all that is lent holds afterwards, given what stood there.
use Rattle.std.specs.Prelude.{ℕ, List, length}
use Rattle.retry_rules.specs.Fresh.{fresh_receiver_of}
use Rattle.retry_rules.specs.Arrival.{arrival_of, arrival_output, damaged_arrival_of}
use Rattle.host_rules.specs.Numbers.{mark_of, mark_number, Called, called}
use Rattle.host_retry_rules.specs.ReceiverBytes.{receiver_in, receiver_bytes}

-- a fresh receiver with S
unfoldable pub begins_receiver : ℕ → List ℕ → Called (List ℕ)
begins_receiver size old =
    let answer = fresh_receiver_of size in
    called answer.refusal old (receiver_bytes answer.receiver)

pub record Arrives : Type 0 where
  pub receiver : List ℕ
  pub output : List ℕ
  pub delivered : ℕ
  pub channel : ℕ
  pub bad : ℕ
  pub size : ℕ
  pub nack : ℕ
  pub reply : ℕ

-- a segment arrives: what is delivered, with its channel, mark and length (else zeros), and the reply
unfoldable pub arrives : ℕ → ℕ → ℕ → List ℕ → ℕ → Arrives → Called Arrives
arrives number channel bad bytes room old =
    let r = receiver_in old.receiver in
    let answer = arrival_of r number channel (mark_of bad) (length bytes) (mark_of room) (length old.output) in
    called answer.refusal old
    (record {
      receiver = receiver_bytes answer.receiver;
      output = arrival_output r number channel bytes (mark_of room) old.output;
      delivered = mark_number answer.delivered;
      channel = answer.channel;
      bad = mark_number answer.bad;
      size = answer.length;
      nack = mark_number answer.nack;
      reply = answer.number;
    })

pub record ArrivesDamaged : Type 0 where
  pub receiver : List ℕ
  pub nack : ℕ
  pub reply : ℕ

-- a damaged segment arrives: the reply
unfoldable pub arrives_damaged : ArrivesDamaged → Called ArrivesDamaged
arrives_damaged old =
    let answer = damaged_arrival_of (receiver_in old.receiver) in
    called answer.refusal old
    (record { receiver = receiver_bytes answer.receiver; nack = mark_number answer.nack; reply = answer.number })
