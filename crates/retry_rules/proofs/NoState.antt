-- All zeros is no sender and no receiver: every call on them is refused with 1.
-- Assumes nothing.
use mathlib.Core.Path.{◌≡◌, refl, ◌∙◌}
use mathlib.Core.Bool.{true, false, or-true}
use mathlib.Core.List.{List}
use Rattle.laws.proofs.Cases.{cond_true, cond_false}
use Rattle.refusal.specs.Order.{Check, given, refusal_of}
use Rattle.segment_size.specs.Sizes.{size_allowed}
use Rattle.retry_rules.specs.States.{counters_rule, sender_rule, receiver_rule}
use Rattle.retry_rules.specs.Fresh.{no_sender, no_receiver, fresh_checks, reset_checks}
use Rattle.retry_rules.specs.Offer.{offer_checks}
use Rattle.retry_rules.specs.Send.{send_checks}
use Rattle.retry_rules.specs.Reply.{sender_checks, reply_checks}
use Rattle.retry_rules.specs.Arrival.{arrival_checks, receiver_checks}
use Rattle.retry_rules.specs.Calls.{SenderCall, offer, send, reply, damaged_reply, tick, reset, sender_tells, ReceiverCall, arrival, damaged_arrival, receiver_answer}
use Rattle.retry_rules.proofs.Refusals.{offer_number, send_number, reply_number, damaged_reply_number, tick_number, reset_number, arrival_number, damaged_arrival_number}

one : (cs : List Check) → given 7 cs ≡ false → given 8 cs ≡ false → given 1 cs ≡ true → refusal_of cs ≡ 1
one cs p q r = cond_false (given 7 cs) 7 _ p ∙ cond_false (given 8 cs) 8 _ q ∙ cond_true (given 1 cs) 1 _ r

pub no_sender_lem : (c : SenderCall) → (sender_tells no_sender c).refusal ≡ 1
unfolding size_allowed counters_rule sender_rule offer_checks send_checks sender_checks reply_checks fresh_checks reset_checks
no_sender_lem (offer lent channel bad n) = offer_number no_sender lent channel bad n ∙ one (offer_checks no_sender lent channel n) refl refl (simp or-true)
no_sender_lem (send lent output) = send_number no_sender lent output ∙ one (send_checks no_sender lent output) refl refl (simp or-true)
no_sender_lem (reply nack k) = reply_number no_sender nack k ∙ one (reply_checks no_sender k) refl refl refl
no_sender_lem damaged_reply = damaged_reply_number no_sender ∙ one (sender_checks no_sender) refl refl refl
no_sender_lem tick = tick_number no_sender ∙ one (sender_checks no_sender) refl refl refl
no_sender_lem (reset t s) = reset_number no_sender t s ∙ one (reset_checks no_sender t s) refl refl (simp or-true)

pub no_receiver_lem : (c : ReceiverCall) → (receiver_answer no_receiver c).refusal ≡ 1
unfolding size_allowed receiver_rule arrival_checks receiver_checks
no_receiver_lem (arrival k channel bad n room output) =
    arrival_number no_receiver k channel bad n room output ∙ one (arrival_checks no_receiver k channel n room output) refl refl (simp or-true)
no_receiver_lem damaged_arrival = damaged_arrival_number no_receiver ∙ one (receiver_checks no_receiver) refl refl refl
