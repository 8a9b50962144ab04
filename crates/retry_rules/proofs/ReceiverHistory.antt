-- The receiver judges each segment by what it really delivered since it was fresh.
-- Assumes nothing.
use mathlib.Core.Path.{◌≡◌, refl, sym, ◌∙◌, ap, subst}
use mathlib.Core.Bool.{Bool, true, false, cond}
use mathlib.Core.List.{List, [], ◌∷◌}
use Prim.Native.Nat.{ℕ, ◌+◌, ◌%◌, ◌<◌, min}
use native.Mathlib.Omega.{arith}
use lib.Dec.{eqb}
use borrow.Author.Tests.{eqb-true, eqb-false}
use Rattle.laws.proofs.Cases.{by_cases, both_true, false_is_not_true}
use Rattle.retry_rules.specs.declared.Receiver.{Receiver}
use Rattle.retry_rules.specs.Answers.{Arrived}
use Rattle.retry_rules.specs.Numbers.{count_rule, among_last}
use Rattle.segment_size.specs.Sizes.{size_allowed}
use Rattle.retry_rules.specs.States.{receiver_rule}
use Rattle.retry_rules.specs.Refused.{refused_arrival}
use Rattle.retry_rules.specs.Arrival.{arrival_checks, answer_to, arrival_of, receiver_checks, damaged_arrival_of}
use Rattle.retry_rules.specs.Calls.{ReceiverCall, arrival, damaged_arrival, receiver_answer, receiver_tells, our_receiver}
use Rattle.retry_rules.specs.Ledger.{receiver_after, delivered_after}
use Rattle.retry_rules.specs.History.{Recent, ByHistory, JudgesByHistory}
use Rattle.refusal.proofs.Outcomes.{either_way}
use Rattle.retry_rules.proofs.Rules.{count_kept}
use Rattle.retry_rules.proofs.Seen.{arrival_seen, arrival_passes}
use Rattle.retry_rules.proofs.Refusals.{arrival_number}
use Rattle.retry_rules.proofs.Done.{fresh_receiver_done, damaged_arrival_done}
use Rattle.retry_rules.proofs.LastEight.{last_eight, recent_not_next}

-- a receiver that has delivered e segments
pub record Delivered (s e : ℕ) (r : Receiver) : Type 0 where
  pub size : r.size ≡ s
  pub expected : r.expected ≡ e % 16
  pub received : r.received ≡ min e 8

pub delivered_rule : (s e : ℕ) (r : Receiver) → size_allowed s ≡ true → Delivered s e r → receiver_rule r ≡ true
unfolding receiver_rule
delivered_rule s e r q d =
    both_true (size_allowed r.size) (count_rule r.expected r.received) (ap size_allowed d.size ∙ q)
    (count_kept r.expected r.received (omega arith))

-- one call: an answer that delivers is one more
abbrev Counts : ℕ → ℕ → Arrived → Type 0
Counts s e a = Delivered s (cond a.delivered (e + 1) e) a.receiver

after_answer :
    (s e : ℕ) (r : Receiver) (k channel : ℕ) (bad : Bool) (n : ℕ) (room : Bool) → Delivered s e r
    → Counts s e (answer_to r k channel bad n room)
unfolding answer_to
after_answer s e r k channel bad n room d =
    let P = Counts s e in
    by_cases P (eqb k r.expected)
    (λ _. by_cases P room (λ _. record { size = d.size; expected = omega (arith, d.expected); received = omega (arith, d.received) })
    (λ _. d))
    (λ _. by_cases P (among_last r.received r.expected k) (λ _. d) (λ _. d))

pub after_call :
    (s e : ℕ) (r : Receiver) (c : ReceiverCall) → Delivered s e r
    → Counts s e (receiver_answer r c)
unfolding arrival_of damaged_arrival_of
after_call s e r (arrival k channel bad n room output) d =
    either_way (arrival_checks r k channel n room output) (Counts s e) (refused_arrival r) _ (λ _. after_answer s e r k channel bad n room d) (λ _. d)
after_call s e r damaged_arrival d =
    either_way (receiver_checks r) (Counts s e) (refused_arrival r) _
    (λ _. d) (λ _. d)

-- all of a list
pub after_calls :
    (s e : ℕ) (r : Receiver) (cs : List ReceiverCall) → Delivered s e r
    → Delivered s (delivered_after our_receiver r e cs) (receiver_after our_receiver r cs)
unfolding delivered_after receiver_after
after_calls s e r [] d = d
after_calls s e r (c ∷ cs) d =
    after_calls s (cond (receiver_answer r c).delivered (e + 1) e) (receiver_answer r c).receiver cs (after_call s e r c d)

from_fresh :
    (s : ℕ) → size_allowed s ≡ true → (cs : List ReceiverCall)
    → Delivered s (delivered_after our_receiver (our_receiver.fresh s) 0 cs) (receiver_after our_receiver (our_receiver.fresh s) cs)
from_fresh s q cs =
    after_calls s 0 (our_receiver.fresh s) cs
    (subst (Delivered s 0) (sym (ap (λ a. a.receiver) (fresh_receiver_done s q))) (record { size = refl; expected = refl; received = refl }))

judged :
    (s e : ℕ) (r : Receiver) (k channel : ℕ) (bad : Bool) (n : ℕ) (room : Bool) → k < 16 → Delivered s e r
    → ByHistory e k room (receiver_tells (answer_to r k channel bad n room))
unfolding answer_to
judged s e r k channel bad n room h d =
    let P : Arrived → Type 0 = λ a. ByHistory e k room (receiver_tells a) in
    let eight : (among_last r.received r.expected k ≡ true → Recent e k) × (Recent e k → among_last r.received r.expected k ≡ true) =
    rw (d.received, d.expected) (last_eight e k h) in
    by_cases P (eqb k r.expected)
    (λ t.
    let is : k ≡ e % 16 = eqb-true k r.expected t ∙ d.expected in
    by_cases P room
    (λ u. record {
      delivers = (λ _. (is, u), λ _. refl);
      repeats = (λ p. absurd (false_is_not_true (sym p.0)), λ p. absurd (recent_not_next e k p is));
      ack_number = λ _. refl;
      delivers_acks = λ _. refl;
      nack_number = λ p. absurd (false_is_not_true p);
    })
    (λ u. record {
      delivers = (λ p. absurd (false_is_not_true p), λ p. absurd (false_is_not_true (sym u ∙ p.1)));
      repeats = (λ p. absurd (false_is_not_true (sym p.1)), λ p. absurd (recent_not_next e k p is));
      ack_number = λ p. absurd (false_is_not_true (sym p));
      delivers_acks = λ p. absurd (false_is_not_true p);
      nack_number = λ _. d.expected;
    }))
    (λ t.
    let not_next : k ≡ e % 16 → ⊥ = λ p. eqb-false k r.expected t (p ∙ sym d.expected) in
    by_cases P (among_last r.received r.expected k)
    (λ u. record {
      delivers = (λ p. absurd (false_is_not_true p), λ p. absurd (not_next p.0));
      repeats = (λ _. eight.0 u, λ _. (refl, refl));
      ack_number = λ _. refl;
      delivers_acks = λ p. absurd (false_is_not_true p);
      nack_number = λ p. absurd (false_is_not_true p);
    })
    (λ u. record {
      delivers = (λ p. absurd (false_is_not_true p), λ p. absurd (not_next p.0));
      repeats = (λ p. absurd (false_is_not_true (sym p.1)), λ p. absurd (false_is_not_true (sym u ∙ eight.1 p)));
      ack_number = λ p. absurd (false_is_not_true (sym p));
      delivers_acks = λ p. absurd (false_is_not_true p);
      nack_number = λ _. d.expected;
    }))

pub receiver_judges : JudgesByHistory our_receiver
unfolding arrival_of
receiver_judges =
    record {
      valid = λ s q cs k channel bad n room output.
          let r = receiver_after our_receiver (our_receiver.fresh s) cs in
          let e = delivered_after our_receiver (our_receiver.fresh s) 0 cs in
          let d = from_fresh s q cs in
          either_way (arrival_checks r k channel n room output)
          (λ (a : Arrived). a.refusal ≡ 0 → ByHistory e k room (receiver_tells a)) (refused_arrival r) _
          (λ p _. judged s e r k channel bad n room (arrival_seen r k channel n room output p).number_lt d)
          (λ p z. absurd (p z));
      takes = λ s q cs k channel bad n room output h₁ h₂ h₃ h₄ h₅.
          let r = receiver_after our_receiver (our_receiver.fresh s) cs in
          let d = from_fresh s q cs in
          arrival_number r k channel bad n room output ∙ arrival_passes r k channel n room output (record {
            rule = delivered_rule s _ r q d;
            number_lt = h₁;
            channel_lt = h₂;
            most = omega (arith, d.size);
            some = h₃;
            long = λ _. h₅;
          });
      damaged = λ s q cs.
          let r = receiver_after our_receiver (our_receiver.fresh s) cs in
          let d = from_fresh s q cs in
          ap receiver_tells (damaged_arrival_done r (delivered_rule s _ r q d))
          ∙ ap (λ (n : ℕ). record { refusal = 0; delivered = false; nack = true; number = n }) d.expected;
    }
