-- Our two ends in the model: each call is read off the definitions that the contracts of the functions cite.
use Rattle.std.specs.Prelude.{ℕ, Bool, true, false, cond, List, eqb, length, take}
use Rattle.retry_rules.specs.declared.Sender.{Sender}
use Rattle.retry_rules.specs.declared.Receiver.{Receiver}
use Rattle.retry_rules.specs.Answers.{Offered, Sent, Arrived}
use Rattle.retry_rules.specs.Fresh.{fresh_sender_of, fresh_receiver_of}
use Rattle.retry_rules.specs.Offer.{offer_of, offer_buffers}
use Rattle.retry_rules.specs.Send.{send_of, send_output}
use Rattle.retry_rules.specs.Reply.{reply_of, damaged_reply_of}
use Rattle.retry_rules.specs.Tick.{tick_of}
use Rattle.retry_rules.specs.Arrival.{arrival_of, arrival_output, damaged_arrival_of}
use Rattle.retry_rules.specs.Lent.{Content}
use Rattle.delivery_rules.specs.Ends.{Item, segment, damaged, Reply, ack, nack, damaged_reply, Offering, Sending, Arriving, Ends}

-- an offer is accepted if it is not refused
abbrev pub offering_of : Offered → List ℕ → Offering Sender
offering_of a buffers = record { accepted = eqb a.refusal 0; state = a.sender; buffers = buffers }

-- a content, as an answer says it and its bytes stand in the output
abbrev pub content_of : ℕ → Bool → ℕ → List ℕ → Content
content_of channel bad n output = record { channel = channel; bad = bad; bytes = take n output }

-- what goes out is what the answer says and what stands in the output
abbrev pub sending_of : Sent → List ℕ → Sending Sender
sending_of a output =
    record {
      sent = a.sent;
      number = a.number;
      content = content_of a.channel a.bad a.length output;
      state = a.sender;
    }

-- and so is what is delivered
abbrev pub arriving_of : Arrived → List ℕ → Arriving Receiver
arriving_of a output =
    record {
      answered = eqb a.refusal 0;
      reply = cond a.nack (nack a.number) (ack a.number);
      delivered = a.delivered;
      content = content_of a.channel a.bad a.length output;
      state = a.receiver;
    }

unfoldable pub hearing : Sender → Reply → Sender
hearing s (ack k) = (reply_of s false k).sender
hearing s (nack k) = (reply_of s true k).sender
hearing s damaged_reply = (damaged_reply_of s).sender

-- a damaged arrival leaves the output as it stood
unfoldable pub arriving : Receiver → Item → Bool → List ℕ → Arriving Receiver
arriving r (segment k x) room output =
    arriving_of (arrival_of r k x.channel x.bad (length x.bytes) room (length output))
    (arrival_output r k x.channel x.bytes room output)
arriving r damaged room output = arriving_of (damaged_arrival_of r) output

abbrev pub ours : Ends
ours =
    record {
      Sender = Sender;
      Receiver = Receiver;
      make_sender = λ T S. record { refusal = (fresh_sender_of T S).refusal; state = (fresh_sender_of T S).sender };
      make_receiver = λ S. record { refusal = (fresh_receiver_of S).refusal; state = (fresh_receiver_of S).receiver };
      offer = λ s buffers x.
          offering_of (offer_of s (length buffers) x.channel x.bad (length x.bytes))
          (offer_buffers s buffers x.channel x.bytes);
      send = λ s buffers output.
          sending_of (send_of s (length buffers) (length output)) (send_output s buffers output);
      hear = hearing;
      tick = λ s. (tick_of s).sender;
      arrive = arriving;
    }
