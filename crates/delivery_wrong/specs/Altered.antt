-- Wrong ends that are ours with one call altered.
use Rattle.std.specs.Prelude.{ℕ, ◌+◌, Bool, true, false, cond, List, [], eqb}
use Rattle.retry_rules.specs.declared.Counters.{Counters}
use Rattle.retry_rules.specs.declared.Sender.{Sender}
use Rattle.retry_rules.specs.declared.Receiver.{Receiver}
use Rattle.retry_rules.specs.Send.{one_sent}
use Rattle.retry_rules.specs.Arrival.{advanced}
use Rattle.retry_rules.specs.Lent.{Content}
use Rattle.delivery_rules.specs.Ends.{Item, segment, damaged, Reply, ack, nack, Offering, Sending, Arriving, Ends}
use Rattle.delivery_rules.specs.Demand.{no_content}
use Rattle.delivery_rules.specs.Ours.{ours}

-- ours with other calls of the sender, or with another arrival
abbrev pub with_sender : (Sender → List ℕ → Content → Offering Sender) → (Sender → List ℕ → List ℕ → Sending Sender) → Ends
with_sender offer send =
    record {
      Sender = Sender;
      Receiver = Receiver;
      make_sender = ours.make_sender;
      make_receiver = ours.make_receiver;
      offer = offer;
      send = send;
      hear = ours.hear;
      tick = ours.tick;
      arrive = ours.arrive;
    }

abbrev pub with_arrival : (Receiver → Item → Bool → List ℕ → Arriving Receiver) → Ends
with_arrival arrive =
    record {
      Sender = Sender;
      Receiver = Receiver;
      make_sender = ours.make_sender;
      make_receiver = ours.make_receiver;
      offer = ours.offer;
      send = ours.send;
      hear = ours.hear;
      tick = ours.tick;
      arrive = arrive;
    }

-- nothing goes out, and a state is left
abbrev pub silent : Sender → Sending Sender
silent s = record { sent = false; number = 0; content = no_content; state = s }

-- a sender that accepts no offer
abbrev pub accepts_none : Ends
accepts_none = with_sender (λ s buffers x. record { accepted = false; state = s; buffers = buffers }) ours.send

-- a sender that never sends
abbrev pub never_sends : Ends
never_sends = with_sender ours.offer (λ s buffers output. silent s)

-- its counters say that the link is down after three expiries, and that nothing is stored or outstanding
abbrev pub lying : Counters → Counters
lying c =
    record {
      oldest = c.oldest;
      stored = 0;
      outstanding = 0;
      point = 0;
      released = c.released;
      timer = c.columns;
      expiries = 3;
      columns = c.columns;
      size = c.size;
      link = 2;
    }

-- a sender that never sends and lies about its counters
abbrev pub never_sends_and_lies : Ends
never_sends_and_lies =
    with_sender
    (λ s buffers x.
    record {
      accepted = (ours.offer s buffers x).accepted;
      state = record { counters = lying s.counters; slots = s.slots };
      buffers = buffers;
    })
    (λ s buffers output. silent s)

-- a sender that sends the first, and then only moves its counters
abbrev pub sends_the_first : Ends
sends_the_first =
    with_sender ours.offer
    (λ s buffers output.
    cond (eqb (s.counters.oldest + s.counters.point) 0) (ours.send s buffers output)
    (silent (record { counters = one_sent s.counters; slots = s.slots })))

-- a sender that stores nothing in its buffers
abbrev pub stores_nothing : Ends
stores_nothing =
    with_sender
    (λ s buffers x.
    record { accepted = (ours.offer s buffers x).accepted; state = (ours.offer s buffers x).state; buffers = buffers }) ours.send

-- a receiver whose deliveries are altered
abbrev pub delivering : (Content → Content) → Ends
delivering f =
    with_arrival
    (λ r i room output.
    let a = ours.arrive r i room output in
    record { answered = a.answered; reply = a.reply; delivered = a.delivered; content = f a.content; state = a.state })

-- the bad mark is lost, the channel is another, the bytes are not written
abbrev pub loses_the_mark : Ends
loses_the_mark = delivering (λ x. record { channel = x.channel; bad = false; bytes = x.bytes })

abbrev pub another_channel : Ends
another_channel = delivering (λ x. record { channel = 0; bad = x.bad; bytes = x.bytes })

abbrev pub writes_nothing : Ends
writes_nothing = delivering (λ x. record { channel = x.channel; bad = x.bad; bytes = [] })

-- nothing is delivered, and a reply goes back
abbrev pub only : Reply → Receiver → Arriving Receiver
only y r = record { answered = true; reply = y; delivered = false; content = no_content; state = r }

-- a receiver that only NACKs
abbrev pub only_nacks : Ends
only_nacks = with_arrival (λ r i room output. only (nack r.expected) r)

-- a receiver that sends ACK and delivers nothing
abbrev pub acks_only : Receiver → Item → Arriving Receiver
acks_only r (segment k x) = only (ack k) (advanced r)
acks_only r damaged = only (nack r.expected) r

abbrev pub acks_and_delivers_nothing : Ends
acks_and_delivers_nothing = with_arrival (λ r i room output. acks_only r i)

-- a receiver that refuses every arrival
abbrev pub refuses_arrivals : Ends
refuses_arrivals =
    with_arrival (λ r i room output. record { answered = false; reply = ack 0; delivered = false; content = no_content; state = r })
