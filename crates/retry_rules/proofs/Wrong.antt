-- Wrong ends, each ten lines over the right ones, and that the rules about the past refuse them.
-- Assumes nothing.
use mathlib.Core.Path.{◌≡◌, refl, ap}
use mathlib.Core.Bool.{Bool, true, false, cond}
use mathlib.Core.List.{List, [], ◌∷◌}
use mathlib.Core.Logic.{inr}
use Prim.Native.Nat.{ℕ, zero, suc, ◌-◌}
use native.Mathlib.Omega.{arith}
use lib.Dec.{ltb}
use Rattle.laws.proofs.Cases.{false_is_not_true}
use Rattle.retry_rules.specs.declared.Sender.{Sender}
use Rattle.retry_rules.specs.declared.Receiver.{Receiver}
use Rattle.retry_rules.specs.Numbers.{between, among_last, count_rule}
use Rattle.segment_size.specs.Sizes.{size_allowed}
use Rattle.retry_rules.specs.States.{link_rule, timer_rule, window_rule, counters_rule, slot_rule, slots_rule, sender_rule, receiver_rule}
use Rattle.retry_rules.specs.Fresh.{fresh_checks, fresh_sender_of, size_checks, fresh_receiver_of, reset_of}
use Rattle.retry_rules.specs.Offer.{offer_checks, offer_of}
use Rattle.retry_rules.specs.Send.{send_checks, send_of}
use Rattle.retry_rules.specs.Reply.{to_oldest, acked, nacked, heard, sender_checks, reply_checks, with_counters, reply_of}
use Rattle.retry_rules.specs.Tick.{ticked, tick_of}
use Rattle.retry_rules.specs.Arrival.{arrival_checks, answer_to, arrival_of}
use Rattle.retry_rules.specs.Calls.{SenderCall, offer, send, reply, damaged_reply, tick, reset, Told, only_refusal, SenderEnd, sender_tells, our_sender, ReceiverCall, arrival, damaged_arrival, Reply, ReceiverEnd, our_receiver}
use Rattle.retry_rules.specs.Ledger.{sender_after, ledger_after, receiver_after, delivered_after}
use Rattle.retry_rules.specs.History.{JudgesByHistory, CountsExpiries, TakesOffers, HearsByHistory}

-- our receiver, with other replies to a valid segment
answering : (Receiver → ℕ → Reply → Reply) → ReceiverEnd
answering f =
    record {
      State = Receiver;
      fresh = our_receiver.fresh;
      call = our_receiver.call;
      tells = λ r c. replied r c (our_receiver.tells r c);
    }
  where
    replied : Receiver → ReceiverCall → Reply → Reply
    replied r (arrival k channel bad n room output) a = f r k a
    replied r damaged_arrival a = a

-- a receiver that judges 'last eight' by remainder alone: fresh, it acknowledges segment 12
by_remainder_reply : Receiver → ℕ → Reply → Reply
by_remainder_reply r k a = cond (ltb (between k r.expected) 8) (record { refusal = 0; delivered = false; nack = false; number = k }) a

acknowledges_12 : JudgesByHistory (answering by_remainder_reply) → ⊥
unfolding answering by_remainder_reply size_allowed count_rule receiver_rule size_checks fresh_receiver_of arrival_checks arrival_of answer_to among_last receiver_after delivered_after
acknowledges_12 j =
    let a = (j.valid 8 refl [] 12 3 false 2 true 8 refl).repeats.0 (refl, refl) in
    omega (arith, a.1)

-- a receiver whose NACK carries the number of the segment that came
own_number : Receiver → ℕ → Reply → Reply
own_number r k a = record { refusal = a.refusal; delivered = a.delivered; nack = a.nack; number = k }

nacks_its_own : JudgesByHistory (answering own_number) → ⊥
unfolding answering own_number size_allowed count_rule receiver_rule size_checks fresh_receiver_of arrival_checks arrival_of answer_to among_last receiver_after delivered_after
nacks_its_own j =
    let z : ◌≡◌ {A = ℕ} 12 0 = (j.valid 8 refl [] 12 3 false 2 true 8 refl).nack_number refl in
    omega arith

-- our sender, with another way to hear a reply and other answers to an offer
hearing : (Sender → Bool → ℕ → Sender) → (Told → Told) → SenderEnd
hearing f g =
    record {
      State = Sender;
      fresh = our_sender.fresh;
      call = called;
      tells = told;
      count = our_sender.count;
    }
  where
    called : Sender → SenderCall → Sender
    called s (offer lent channel bad n) = (offer_of s lent channel bad n).sender
    called s (send lent output) = (send_of s lent output).sender
    called s (reply nack k) = f s nack k
    called s damaged_reply = s
    called s tick = (tick_of s).sender
    called s (reset t size) = (reset_of s t size).sender

    told : Sender → SenderCall → Told
    told s (offer lent channel bad n) = g (sender_tells s (offer lent channel bad n))
    told s (send lent output) = sender_tells s (send lent output)
    told s (reply nack k) = sender_tells s (reply nack k)
    told s damaged_reply = sender_tells s damaged_reply
    told s tick = sender_tells s tick
    told s (reset t size) = sender_tells s (reset t size)

-- offers and sends of segments of two bytes
stores : ℕ → List SenderCall → List SenderCall
stores zero cs = cs
stores (suc n) cs = offer 64 3 false 2 ∷ stores n cs

sends : ℕ → List SenderCall → List SenderCall
sends zero cs = cs
sends (suc n) cs = send 64 8 ∷ sends n cs

three_sent : List SenderCall
three_sent = stores 3 (sends 3 [])

-- a sender that accepts no offer
accepts_none_lem : TakesOffers (hearing (λ s nack k. s) (λ a. only_refusal 5)) → ⊥
unfolding hearing size_allowed fresh_checks fresh_sender_of sender_after ledger_after
accepts_none_lem d =
    let z : ◌≡◌ {A = ℕ} 5 0 = ((d.takes 100 8 refl refl [] 3 false 2 (omega arith) (omega arith) (omega arith) (omega arith)).0 (omega arith)).0 in
    omega arith

-- a sender that miscounts: a NACK of the oldest does not clear its expiry count
keeps_count : Sender → Bool → ℕ → Sender
keeps_count s nack k = cond nack (with_counters s (to_oldest s.counters)) (reply_of s nack k).sender

miscounts : CountsExpiries (hearing keeps_count (λ a. a)) → ⊥
unfolding hearing stores sends keeps_count size_allowed among_last count_rule link_rule timer_rule window_rule counters_rule slot_rule slots_rule sender_rule fresh_checks fresh_sender_of offer_checks offer_of send_checks send_of sender_checks reply_checks reply_of acked nacked heard ticked tick_of sender_after ledger_after
miscounts d =
    let z : ◌≡◌ {A = ℕ} 1 0 = d.counts 1 8 refl refl (stores 1 (sends 1 (tick ∷ reply true 0 ∷ []))) in
    omega arith

-- a sender that takes an ACK to cover all earlier segments
release : ℕ → Sender → Sender
release zero s = s
release (suc n) s = release n (reply_of s false s.counters.oldest).sender

covers_earlier_reply : Sender → Bool → ℕ → Sender
covers_earlier_reply s nack k = cond nack (reply_of s true k).sender (release (suc k - s.counters.oldest) s)

takes_for_all : HearsByHistory (hearing covers_earlier_reply (λ a. a)) → ⊥
unfolding hearing stores sends three_sent release covers_earlier_reply size_allowed among_last count_rule link_rule timer_rule window_rule counters_rule slot_rule slots_rule sender_rule fresh_checks fresh_sender_of offer_checks offer_of send_checks send_of sender_checks reply_checks reply_of acked nacked heard ticked tick_of sender_after ledger_after
takes_for_all d =
    let e = d.goes_back 100 8 refl refl three_sent false 2 8 (omega arith) refl (omega arith) (omega arith)
    (inr ((λ p. omega arith), (λ r. omega (arith, r.1)))) in
    false_is_not_true (ap (λ (a : Told). a.sent) e)

-- a sender that judges 'last eight' by remainder alone: with none released it ignores ACK 12
ignores_by_remainder : Sender → Bool → ℕ → Sender
ignores_by_remainder s nack k =
    cond (ltb (between k s.counters.oldest) 8) s (reply_of s nack k).sender

ignores_12 : HearsByHistory (hearing ignores_by_remainder (λ a. a)) → ⊥
unfolding hearing stores sends three_sent ignores_by_remainder size_allowed among_last count_rule link_rule timer_rule window_rule counters_rule slot_rule slots_rule sender_rule fresh_checks fresh_sender_of offer_checks offer_of send_checks send_of sender_checks reply_checks reply_of acked nacked heard ticked tick_of sender_after ledger_after
ignores_12 d =
    let e = d.goes_back 100 8 refl refl three_sent false 12 8 (omega arith) refl (omega arith) (omega arith)
    (inr ((λ p. omega arith), (λ r. omega (arith, r.1)))) in
    false_is_not_true (ap (λ (a : Told). a.sent) e)
