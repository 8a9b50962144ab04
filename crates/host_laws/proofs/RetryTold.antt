-- What an answer of the retry's calls, of a capture read and of a pane says tells which answer it is, and so do the refusals in order and a packed result
-- taken apart: so no second answer fits a contract.
-- Assumes nothing.
use mathlib.Core.Path.{◌≡◌, refl, sym, ap, ◌∙◌}
use mathlib.Core.Bool.{Bool, false, cond}
use Prim.Native.Nat.{ℕ}
use lib.Dec.{eqb}
use Rattle.std.specs.Prelude.{Result, Ok, Err, Option, Some, None, List, [], ◌∷◌, map}
use Rattle.refusal.specs.declared.Refusal.{Refusal}
use Rattle.refusal.specs.declared.Refusal.TheVariants.{OutOfRange, SegmentSize, NotWritable, NoBytes, Full, ShortOutput, LinkDown, BadCapture}
use Rattle.refusal.specs.Order.{number_of, refusal_says, order_says}
use Rattle.character_rules.specs.declared.Decoded.{Decoded}
use Rattle.character_rules.specs.Answers.{decoded_says}
use Rattle.character_rules.proofs.Told.{the_refusal, refusal_told as its_refusal, one_decoded}
use Rattle.capture_rules.specs.Panes.{Move, move_says, moved_says}
use Rattle.events_rules.specs.Answers.{ReadAnswer, read_says}
use Rattle.retry_rules.specs.declared.Sender.{Sender}
use Rattle.retry_rules.specs.declared.Receiver.{Receiver}
use Rattle.retry_rules.specs.declared.Segment.{Segment}
use Rattle.retry_rules.specs.declared.Delivered.{Delivered}
use Rattle.retry_rules.specs.declared.Arrival.{Arrival}
use Rattle.retry_rules.specs.declared.Reply.{Reply}
use Rattle.retry_rules.specs.declared.Reply.TheVariants.{Ack, Nack}
use Rattle.retry_rules.specs.Answers.{Answered, Begun, OfferAnswer, SendAnswer, TickAnswer, ArrivalAnswer, offer_says, send_says, tick_says, arrival_says, damaged_says, reply_says, delivery_beside}
use Rattle.retry_rules.specs.Fresh.{fresh_says, begun_says, no_sender, no_receiver}

-- the answer of a refusal's number, 0 for none, and of what is answered beside it
abbrev of_number : {A : Type 0} → ℕ → A → Result A Refusal
of_number n x = cond (eqb n 0) (Ok x) (Err (the_refusal n))

refused : {A : Type 0} (r : Refusal) (x : A) → of_number (number_of r) x ≡ Err r
refused OutOfRange x = refl
refused SegmentSize x = refl
refused NotWritable x = refl
refused NoBytes x = refl
refused Full x = refl
refused ShortOutput x = refl
refused LinkDown x = refl
refused BadCapture x = refl

-- the refusals of a run of numbers
order_told : (rs : List Refusal) → map the_refusal (order_says rs) ≡ rs
order_told [] = refl
order_told (r ∷ rs) = λ i. its_refusal r i ∷ order_told rs i

-- where an answer is made again from what it says, two that say the same are the same
module _ {A S : Type 0} (says : A → S) (again : S → A) (told : (a : A) → again (says a) ≡ a) where
  one : (a b : A) → says a ≡ says b → a ≡ b
  one a b e = sym (told a) ∙ ap again e ∙ told b

pub one_order : (a b : List Refusal) → order_says a ≡ order_says b → a ≡ b
one_order = one order_says (map the_refusal) order_told

-- of a packed result taken apart, which is never refused: what it says tells the result
abbrev done : Decoded → Result Decoded Refusal → Decoded
done d (Ok x) = x
done d (Err r) = d

pub one_unpacked : (a b : Decoded) → decoded_says a ≡ decoded_says b → a ≡ b
one_unpacked a b e = ap (done a) (one_decoded (Ok a) (Ok b) e)

-- of a call that answers nothing but its refusal: what is answered else is of one value
module _ {A : Type 0} (x : A) (only : (y : A) → x ≡ y) where
  refusal_told : (a : Result A Refusal) → of_number (refusal_says a) x ≡ a
  refusal_told (Ok y) = ap Ok (only y)
  refusal_told (Err r) = refused r x

  pub one_refusal_said : (a b : Result A Refusal) → refusal_says a ≡ refusal_says b → a ≡ b
  one_refusal_said = one refusal_says (λ n. of_number n x) refusal_told

abbrev the_offer : OfferAnswer → Result ℕ Refusal
the_offer s = of_number s.refusal s.number

offer_told : (a : Result ℕ Refusal) → the_offer (offer_says a) ≡ a
offer_told (Ok k) = refl
offer_told (Err r) = refused r 0

pub one_offer : (a b : Result ℕ Refusal) → offer_says a ≡ offer_says b → a ≡ b
one_offer = one offer_says the_offer offer_told

abbrev the_tick : TickAnswer → Result Bool Refusal
the_tick s = of_number s.refusal s.fell

tick_told : (a : Result Bool Refusal) → the_tick (tick_says a) ≡ a
tick_told (Ok fell) = refl
tick_told (Err r) = refused r false

pub one_tick : (a b : Result Bool Refusal) → tick_says a ≡ tick_says b → a ≡ b
one_tick = one tick_says the_tick tick_told

abbrev the_segment : SendAnswer → Option Segment
the_segment s = cond s.sent (Some (record { number = s.number; channel = s.channel; bad = s.bad; length = s.length })) None

abbrev the_send : SendAnswer → Result (Option Segment) Refusal
the_send s = of_number s.refusal (the_segment s)

send_told : (a : Result (Option Segment) Refusal) → the_send (send_says a) ≡ a
send_told (Ok (Some x)) = refl
send_told (Ok None) = refl
send_told (Err r) = refused r None

pub one_send : (a b : Result (Option Segment) Refusal) → send_says a ≡ send_says b → a ≡ b
one_send = one send_says the_send send_told

abbrev the_reply : ArrivalAnswer → Reply
the_reply s = cond s.nack (Nack s.number) (Ack s.number)

-- of a reply that stands alone, as the one to a segment that is not taken
reply_told : (x : Reply) → the_reply (reply_says x) ≡ x
reply_told (Ack k) = refl
reply_told (Nack k) = refl

pub one_reply : (a b : Reply) → reply_says a ≡ reply_says b → a ≡ b
one_reply = one reply_says the_reply reply_told

abbrev the_damaged : ArrivalAnswer → Result Reply Refusal
the_damaged s = of_number s.refusal (the_reply s)

damaged_told : (a : Result Reply Refusal) → the_damaged (damaged_says a) ≡ a
damaged_told (Ok (Ack k)) = refl
damaged_told (Ok (Nack k)) = refl
damaged_told (Err r) = refused r (Ack 0)

pub one_damaged : (a b : Result Reply Refusal) → damaged_says a ≡ damaged_says b → a ≡ b
one_damaged = one damaged_says the_damaged damaged_told

abbrev the_delivered : ArrivalAnswer → Option Delivered
the_delivered s = cond s.delivered (Some (record { channel = s.channel; bad = s.bad; length = s.length })) None

abbrev the_arrival : ArrivalAnswer → Result Arrival Refusal
the_arrival s = of_number s.refusal (record { reply = the_reply s; delivered = the_delivered s })

taken_told : (x : Reply) (d : Option Delivered) → the_arrival (delivery_beside x d) ≡ Ok (record { reply = x; delivered = d })
taken_told (Ack k) (Some d) = refl
taken_told (Ack k) None = refl
taken_told (Nack k) (Some d) = refl
taken_told (Nack k) None = refl

arrival_told : (a : Result Arrival Refusal) → the_arrival (arrival_says a) ≡ a
arrival_told (Ok a) = taken_told a.reply a.delivered
arrival_told (Err r) = refused r (record { reply = Ack 0; delivered = None })

pub one_arrival : (a b : Result Arrival Refusal) → arrival_says a ≡ arrival_says b → a ≡ b
one_arrival = one arrival_says the_arrival arrival_told

fresh_told : (a : Result Sender Refusal) → of_number (fresh_says a).refusal (fresh_says a).sender ≡ a
fresh_told (Ok s) = refl
fresh_told (Err r) = refused r no_sender

pub one_fresh_sender : (a b : Result Sender Refusal) → fresh_says a ≡ fresh_says b → a ≡ b
one_fresh_sender = one fresh_says (λ (s : Answered). of_number s.refusal s.sender) fresh_told

begun_told : (a : Result Receiver Refusal) → of_number (begun_says a).refusal (begun_says a).receiver ≡ a
begun_told (Ok r) = refl
begun_told (Err r) = refused r no_receiver

pub one_begun : (a b : Result Receiver Refusal) → begun_says a ≡ begun_says b → a ≡ b
one_begun = one begun_says (λ (s : Begun). of_number s.refusal s.receiver) begun_told

read_told : (a : Result ℕ Refusal) → of_number (read_says a).refusal (read_says a).count ≡ a
read_told (Ok n) = refl
read_told (Err r) = refused r 0

pub one_read : (a b : Result ℕ Refusal) → read_says a ≡ read_says b → a ≡ b
one_read = one read_says (λ (s : ReadAnswer). of_number s.refusal s.count) read_told

module _ (place : ℕ) where
  -- of a pane's place: where a move leads to, if it moves, and whether it moved
  move_told : (a : Result (Option ℕ) Refusal) → of_number (move_says place a).refusal (cond (move_says place a).moved (Some (move_says place a).place) None) ≡ a
  move_told (Ok (Some next)) = refl
  move_told (Ok None) = refl
  move_told (Err r) = refused r None

  pub one_move : (a b : Result (Option ℕ) Refusal) → move_says place a ≡ move_says place b → a ≡ b
  one_move = one (move_says place) (λ (m : Move). of_number m.refusal (cond m.moved (Some m.place) None)) move_told

  moved_told : (a : Result Bool Refusal) → of_number (moved_says place a).refusal (moved_says place a).moved ≡ a
  moved_told (Ok moved) = refl
  moved_told (Err r) = refused r false

  pub one_moved : (a b : Result Bool Refusal) → moved_says place a ≡ moved_says place b → a ≡ b
  one_moved = one (moved_says place) (λ (m : Move). of_number m.refusal m.moved) moved_told
