-- Every fresh state keeps its rule, and every call hands back a state that keeps it where it was given one.
-- Assumes nothing.
use mathlib.Core.Path.{◌≡◌, refl, ◌∙◌, ap}
use mathlib.Core.Bool.{Bool, true}
use Prim.Native.Nat.{ℕ}
use native.Mathlib.Omega.{arith}
use lib.Dec.{eqb}
use lib.ListN.{length-set}
use borrow.Author.Tests.{ltb-true}
use Rattle.laws.proofs.Cases.{by_cases, both_true, first_true, second_true}
use Rattle.retry_rules.specs.declared.Counters.{Counters}
use Rattle.retry_rules.specs.declared.Sender.{Sender}
use Rattle.retry_rules.specs.declared.Receiver.{Receiver}
use Rattle.retry_rules.specs.Answers.{Answered, Offered, Sent, Ticked, Begun, Arrived}
use Rattle.retry_rules.specs.Numbers.{count_rule, among_last}
use Rattle.segment_size.specs.Sizes.{size_allowed}
use Rattle.retry_rules.specs.States.{counters_rule, slots_rule, sender_rule, receiver_rule, Eight}
use Rattle.retry_rules.specs.Refused.{refused_sender, refused_offer, refused_send, refused_tick, refused_receiver, refused_arrival}
use Rattle.retry_rules.specs.Fresh.{no_sender, no_receiver, fresh_sender, fresh_receiver, fresh_checks, fresh_sender_of, size_checks, fresh_receiver_of, reset_checks, reset_of}
use Rattle.retry_rules.specs.Offer.{offer_checks, one_stored, stored_in, offer_of}
use Rattle.retry_rules.specs.Send.{to_send, send_checks, one_sent, send_of}
use Rattle.retry_rules.specs.Reply.{to_oldest, restarted, heard, sender_checks, reply_checks, with_counters, reply_of, damaged_reply_of}
use Rattle.retry_rules.specs.Tick.{expired, fallen, ticked, tick_of}
use Rattle.retry_rules.specs.Arrival.{arrival_checks, advanced, answer_to, arrival_of, receiver_checks, damaged_arrival_of}
use Rattle.retry_rules.specs.Calls.{SenderCall, offer, send, reply, damaged_reply, tick, reset, sender_called}
use Rattle.refusal.proofs.Outcomes.{either_way}
use Rattle.retry_rules.proofs.Rules.{counted, count_kept, Numbers, Holds, keeps}
use Rattle.retry_rules.proofs.Steps.{heard_cases, ticked_cases}
use Rattle.retry_rules.proofs.StoredSlots.{slots_kept, Later, later_kept, stored_kept}
use Rattle.retry_rules.proofs.Seen.{Sound, sender_seen, reply_seen, Offers, offer_seen, send_seen, Begins, fresh_seen, reset_seen, size_seen}

-- what the counters become keeps the rule of counters, and its stored segments are in the buffers where they were
record Moves (s : Sender) (d : Counters) : Type 0 where
  rule : Holds d
  gone : ℕ
  later : Later s d gone

same_window : (s : Sender) (d : Counters) → d.oldest ≡ s.counters.oldest → d.stored ≡ s.counters.stored
    → d.size ≡ s.counters.size → Later s d 0
same_window s d p q z = record { same_size = z; fewer = omega arith; moved = λ i. omega arith }

moves_kept : (s : Sender) (d : Counters) → Sound s → Moves s d → sender_rule (with_counters s d) ≡ true
unfolding sender_rule
moves_kept s d h m =
    both_true (counters_rule d) (slots_rule (with_counters s d)) (keeps d m.rule) (later_kept s d m.gone m.later h.slots)

-- counters that keep the window where it is
still : (s : Sender) (d : Counters) → Sound s → Numbers d → d.oldest ≡ s.counters.oldest → d.stored ≡ s.counters.stored
    → d.size ≡ s.counters.size → Moves s d
still s d h n p q z =
    record { rule = record { numbers = n; size = ap size_allowed z ∙ h.rule.size }; gone = 0; later = same_window s d p q z }

heard_moves : (s : Sender) (nack : Bool) (k : ℕ) → Sound s → Moves s (heard s.counters nack k)
heard_moves s nack k h =
    let c = s.counters in
    let n = h.rule.numbers in
    let u = h.up in
    let same : Moves s c = still s c h n refl refl refl in
    let back : Moves s (to_oldest c) = still s (to_oldest c) h (omega arith) refl refl refl in
    heard_cases (Moves s) c nack k (λ _. same) (λ _ _ _. still s (to_oldest (restarted c)) h (omega arith) refl refl refl)
    (λ _ _ _. back)
    (λ some _ _. record {
      rule = record { numbers = omega arith; size = h.rule.size };
      gone = 1;
      later = record { same_size = refl; fewer = omega arith; moved = λ i. omega arith };
    })
    (λ _ _ _ _. same) (λ _ _ _ _. back)

ticked_moves : (s : Sender) → Sound s → Moves s (ticked s.counters)
ticked_moves s h =
    let c = s.counters in
    let n = h.rule.numbers in
    let u = h.up in
    ticked_cases (Moves s) c (λ _. still s c h n refl refl refl) (λ some more. still s _ h (omega arith) refl refl refl)
    (λ some one few. still s (to_oldest (expired c)) h (omega arith) refl refl refl)
    (λ some one two. still s (fallen (expired c)) h (omega arith) refl refl refl)

sent_moves : (s : Sender) → Sound s → to_send s.counters ≡ true → Moves s (one_sent s.counters)
sent_moves s h t =
    let c = s.counters in
    let n = h.rule.numbers in
    let u = h.up in
    let lt = ltb-true c.point c.stored t in
    still s (one_sent c) h (omega arith) refl refl refl

stored_rule : (s : Sender) (lent channel : ℕ) (bad : Bool) (n : ℕ) → Eight s → Offers s lent channel n → sender_rule (stored_in s channel bad n) ≡ true
unfolding sender_rule
stored_rule s lent channel bad n e o =
    let c = s.counters in
    let h = o.sound in
    let m = h.rule.numbers in
    let free = o.free in
    both_true (counters_rule (one_stored c)) (slots_rule (stored_in s channel bad n))
    (keeps (one_stored c) (record { numbers = omega arith; size = h.rule.size }))
    (stored_kept s channel bad n e o.some o.most o.channel_lt o.free h.slots)

-- the calls of the sender
pub offer_kept :
    (s : Sender) (lent channel : ℕ) (bad : Bool) (n : ℕ) → Eight s → sender_rule s ≡ true
    → sender_rule (offer_of s lent channel bad n).sender ≡ true
unfolding offer_of
offer_kept s lent channel bad n e q =
    either_way (offer_checks s lent channel n) (λ (a : Offered). sender_rule a.sender ≡ true) (refused_offer s) _
    (λ p. stored_rule s lent channel bad n e (offer_seen s lent channel n p)) (λ _. q)

pub send_kept : (s : Sender) (lent output : ℕ) → sender_rule s ≡ true → sender_rule (send_of s lent output).sender ≡ true
unfolding send_of
send_kept s lent output q =
    let P : Sent → Type 0 = λ a. sender_rule a.sender ≡ true in
    either_way (send_checks s lent output) P (refused_send s) _
    (λ p.
    let h = (send_seen s lent output p).sound in
    by_cases P (to_send s.counters) (λ t. moves_kept s _ h (sent_moves s h t)) (λ _. q)) (λ _. q)

pub reply_kept : (s : Sender) (nack : Bool) (k : ℕ) → sender_rule s ≡ true → sender_rule (reply_of s nack k).sender ≡ true
unfolding reply_of
reply_kept s nack k q =
    either_way (reply_checks s k) (λ (a : Answered). sender_rule a.sender ≡ true) (refused_sender s) _
    (λ p.
    let h = (reply_seen s k p).sound in
    moves_kept s _ h (heard_moves s nack k h)) (λ _. q)

pub damaged_reply_kept : (s : Sender) → sender_rule s ≡ true → sender_rule (damaged_reply_of s).sender ≡ true
unfolding damaged_reply_of
damaged_reply_kept s q =
    either_way (sender_checks s) (λ (a : Answered). sender_rule a.sender ≡ true) (refused_sender s) _ (λ _. q) (λ _. q)

pub tick_kept : (s : Sender) → sender_rule s ≡ true → sender_rule (tick_of s).sender ≡ true
unfolding tick_of
tick_kept s q =
    either_way (sender_checks s) (λ (a : Ticked). sender_rule a.sender ≡ true) (refused_tick s) _
    (λ p.
    let h = sender_seen s p in
    moves_kept s _ h (ticked_moves s h)) (λ _. q)

-- a fresh sender, and a reset
fresh_rule : (t s : ℕ) → Begins t s → sender_rule (fresh_sender t s) ≡ true
unfolding sender_rule
fresh_rule t s h =
    both_true (counters_rule (fresh_sender t s).counters) (slots_rule (fresh_sender t s))
    (keeps (fresh_sender t s).counters (record { numbers = omega (arith, h.some, h.most); size = h.size }))
    (slots_kept (fresh_sender t s) (λ i l. absurd (omega arith)))

pub fresh_sender_kept :
    (t s : ℕ) → (fresh_sender_of t s).refusal ≡ 0
    → ((fresh_sender_of t s).sender ≡ fresh_sender t s) × (sender_rule (fresh_sender_of t s).sender ≡ true) × Eight (fresh_sender_of t s).sender
unfolding fresh_sender_of
fresh_sender_kept t s =
    either_way (fresh_checks t s)
    (λ (a : Answered). a.refusal ≡ 0 → (a.sender ≡ fresh_sender t s) × (sender_rule a.sender ≡ true) × Eight a.sender) (refused_sender no_sender) _
    (λ p _. (refl, fresh_rule t s (fresh_seen t s p), record { slots = refl })) (λ p q. absurd (p q))

pub reset_kept : (given : Sender) (t s : ℕ) → sender_rule given ≡ true → sender_rule (reset_of given t s).sender ≡ true
unfolding reset_of
reset_kept given t s q =
    either_way (reset_checks given t s) (λ (a : Answered). sender_rule a.sender ≡ true) (refused_sender given) _
    (λ p. fresh_rule t s (reset_seen given t s p)) (λ _. q)

-- each call leaves the arrays their eight places
pub eight_after : (s : Sender) (c : SenderCall) → Eight s → Eight (sender_called s c)
unfolding offer_of send_of reply_of damaged_reply_of tick_of reset_of
eight_after s (offer lent channel bad n) e =
    either_way (offer_checks s lent channel n) (λ (a : Offered). Eight a.sender) (refused_offer s) _
    (λ _. record { slots = length-set s.slots _ _ ∙ e.slots })
    (λ _. e)
eight_after s (send lent output) e =
    let P : Sent → Type 0 = λ a. Eight a.sender in
    either_way (send_checks s lent output) P (refused_send s) _
    (λ _. by_cases P (to_send s.counters) (λ _. record { slots = e.slots }) (λ _. e)) (λ _. e)
eight_after s (reply nack k) e =
    either_way (reply_checks s k) (λ (a : Answered). Eight a.sender) (refused_sender s) _
    (λ _. record { slots = e.slots }) (λ _. e)
eight_after s damaged_reply e =
    either_way (sender_checks s) (λ (a : Answered). Eight a.sender) (refused_sender s) _ (λ _. e) (λ _. e)
eight_after s tick e =
    either_way (sender_checks s) (λ (a : Ticked). Eight a.sender) (refused_tick s) _
    (λ _. record { slots = e.slots }) (λ _. e)
eight_after s (reset t size) e =
    either_way (reset_checks s t size) (λ (a : Answered). Eight a.sender) (refused_sender s) _
    (λ _. record { slots = refl }) (λ _. e)

-- the receiver
advanced_rule : (r : Receiver) → receiver_rule r ≡ true → receiver_rule (advanced r) ≡ true
unfolding receiver_rule
advanced_rule r q =
    let h = counted r.expected r.received (second_true (size_allowed r.size) _ q) in
    both_true (size_allowed r.size) _ (first_true (size_allowed r.size) _ q)
    (count_kept (advanced r).expected (advanced r).received (omega arith))

pub arrival_kept :
    (r : Receiver) (k channel : ℕ) (bad : Bool) (n : ℕ) (room : Bool) (output : ℕ) → receiver_rule r ≡ true
    → receiver_rule (arrival_of r k channel bad n room output).receiver ≡ true
unfolding arrival_of answer_to
arrival_kept r k channel bad n room output q =
    let P : Arrived → Type 0 = λ a. receiver_rule a.receiver ≡ true in
    either_way (arrival_checks r k channel n room output) P (refused_arrival r) _
    (λ _. by_cases P (eqb k r.expected) (λ _. by_cases P room (λ _. advanced_rule r q) (λ _. q))
    (λ _. by_cases P (among_last r.received r.expected k) (λ _. q) (λ _. q)))
    (λ _. q)

pub damaged_arrival_kept : (r : Receiver) → receiver_rule r ≡ true → receiver_rule (damaged_arrival_of r).receiver ≡ true
unfolding damaged_arrival_of
damaged_arrival_kept r q = either_way (receiver_checks r) (λ (a : Arrived). receiver_rule a.receiver ≡ true) (refused_arrival r) _ (λ _. q) (λ _. q)

pub fresh_receiver_kept :
    (s : ℕ) → (fresh_receiver_of s).refusal ≡ 0 → ((fresh_receiver_of s).receiver ≡ fresh_receiver s) × (receiver_rule (fresh_receiver_of s).receiver ≡ true)
unfolding fresh_receiver_of receiver_rule count_rule
fresh_receiver_kept s =
    either_way (size_checks s) (λ (a : Begun). a.refusal ≡ 0 → (a.receiver ≡ fresh_receiver s) × (receiver_rule a.receiver ≡ true)) (refused_receiver no_receiver) _
    (λ p _. (refl, both_true (size_allowed s) (count_rule 0 0) (size_seen s p) refl)) (λ p q. absurd (p q))
