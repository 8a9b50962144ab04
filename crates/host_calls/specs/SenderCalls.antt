-- What the sender's calls come to for C: the refusal's number, and what all that is lent holds afterwards, given what stood there.
use Rattle.std.specs.Prelude.{ℕ, List, length}
use Rattle.retry_rules.specs.Fresh.{fresh_sender_of, reset_of}
use Rattle.retry_rules.specs.Offer.{offer_of, offer_buffers}
use Rattle.retry_rules.specs.Send.{send_of, send_output}
use Rattle.retry_rules.specs.Reply.{reply_of, damaged_reply_of}
use Rattle.retry_rules.specs.Tick.{tick_of}
use Rattle.host_rules.specs.Numbers.{mark_of, mark_number, Called, called}
use Rattle.host_retry_rules.specs.SenderBytes.{sender_in, sender_bytes}

-- a fresh sender with T and S
unfoldable pub begins_sender : ℕ → ℕ → List ℕ → Called (List ℕ)
begins_sender columns size old =
    let answer = fresh_sender_of columns size in
    called answer.refusal old (sender_bytes answer.sender)

-- the sender again fresh
unfoldable pub resets : ℕ → ℕ → List ℕ → Called (List ℕ)
resets columns size old =
    let answer = reset_of (sender_in old) columns size in
    called answer.refusal old (sender_bytes answer.sender)

-- a reply, ACK or NACK with a number
unfoldable pub hears : ℕ → ℕ → List ℕ → Called (List ℕ)
hears nack number old =
    let answer = reply_of (sender_in old) (mark_of nack) number in
    called answer.refusal old (sender_bytes answer.sender)

-- a damaged reply
unfoldable pub hears_damaged : List ℕ → Called (List ℕ)
hears_damaged old =
    let answer = damaged_reply_of (sender_in old) in
    called answer.refusal old (sender_bytes answer.sender)

pub record Ticks : Type 0 where
  pub sender : List ℕ
  pub fell : ℕ

-- one column of the timer, and whether this call took the link down
unfoldable pub ticks : Ticks → Called Ticks
ticks old =
    let answer = tick_of (sender_in old.sender) in
    called answer.refusal old (record { sender = sender_bytes answer.sender; fell = mark_number answer.fell })

pub record Offers : Type 0 where
  pub sender : List ℕ
  pub buffers : List ℕ
  pub number : ℕ

-- a segment is stored, and has a number
unfoldable pub offers : ℕ → ℕ → List ℕ → Offers → Called Offers
offers channel bad bytes old =
    let s = sender_in old.sender in
    let answer = offer_of s (length old.buffers) channel (mark_of bad) (length bytes) in
    called answer.refusal old
    (record {
      sender = sender_bytes answer.sender;
      buffers = offer_buffers s old.buffers channel bytes;
      number = answer.number;
    })

pub record Sends : Type 0 where
  pub sender : List ℕ
  pub output : List ℕ
  pub sent : ℕ
  pub number : ℕ
  pub channel : ℕ
  pub bad : ℕ
  pub size : ℕ

-- the segment at the send point goes out; or nothing is to be sent, and the numbers are zeros
unfoldable pub sends : List ℕ → Sends → Called Sends
sends buffers old =
    let s = sender_in old.sender in
    let answer = send_of s (length buffers) (length old.output) in
    called answer.refusal old
    (record {
      sender = sender_bytes answer.sender;
      output = send_output s buffers old.output;
      sent = mark_number answer.sent;
      number = answer.number;
      channel = answer.channel;
      bad = mark_number answer.bad;
      size = answer.length;
    })
