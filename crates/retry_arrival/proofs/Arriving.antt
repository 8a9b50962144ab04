-- The ways out of an arrival: what it answers, the receiver after it and what stands in the output are what the rules say.
-- Assumes nothing.
use Rattle.std.specs.Prelude.{Result, IsErrAnd}
use mathlib.Core.Path.{◌≡◌, sym, ◌∙◌, ap}
use mathlib.Core.Bool.{Bool, true, false, cond, ◌&&◌}
use mathlib.Core.List.{List}
use Prim.Native.Nat.{ℕ, ◌≤◌, ◌<◌}
use native.Mathlib.Omega.{arith}
use lib.Dec.{eqb}
use lib.ListN.{length}
use Rattle.laws.proofs.Cases.{by_test, first_true, second_true}
use Rattle.refusal.specs.declared.Refusal.{Refusal}
use Rattle.refusal.specs.Order.{Check, refusal_of, number_of}
use Rattle.refusal.proofs.Answers.{if_err}
use Rattle.retry_rules.specs.declared.Receiver.{Receiver}
use Rattle.retry_rules.specs.declared.Arrival.{Arrival}
use Rattle.retry_rules.specs.Answers.{Arrived, ArrivalAnswer, arrival_beside, arrival_says}
use Rattle.retry_rules.specs.Numbers.{count_rule, among_last}
use Rattle.segment_size.specs.Sizes.{size_allowed}
use Rattle.retry_rules.specs.States.{receiver_rule}
use Rattle.retry_rules.specs.Refused.{refused_arrival}
use Rattle.retry_rules.specs.Lent.{laid}
use Rattle.retry_rules.specs.Arrival.{wanted, arrival_checks, advanced, delivery, answer_to, arrival_of, arrival_output}
use Rattle.segment_size.proofs.Ranges.{size_range}
use Rattle.retry_rules.proofs.Seen.{Arrives, arrival_seen}
use Rattle.retry_rules.proofs.Done.{arrival_done, arrival_lays}
use Rattle.retry_parts.proofs.Calls.{handed_back}

-- what is handed to the call
pub record Given : Type 0 where
  pub receiver : Receiver
  pub number : ℕ
  pub channel : ℕ
  pub bad : Bool
  pub bytes : List ℕ
  pub room : Bool
  pub output : List ℕ

module _ (v : Given) where
  abbrev checks : List Check
  checks = arrival_checks v.receiver v.number v.channel (length v.bytes) v.room (length v.output)

  abbrev pub Passed : Type 0
  Passed = Arrives v.receiver v.number v.channel (length v.bytes) v.room (length v.output)

  abbrev work : Arrived
  work = answer_to v.receiver v.number v.channel v.bad (length v.bytes) v.room

  abbrev answer : Arrived
  answer = arrival_of v.receiver v.number v.channel v.bad (length v.bytes) v.room (length v.output)

  -- the answer, the receiver and the output, as the contract has them
  abbrev pub Ruled : ArrivalAnswer → Receiver → List ℕ → Type 0
  Ruled a r left =
      (a ≡ arrival_beside answer) × (r ≡ answer.receiver)
      × (left ≡ arrival_output v.receiver v.number v.channel v.bytes v.room v.output)

  pub passed : 0 ≡ refusal_of checks → Passed
  passed e = arrival_seen v.receiver v.number v.channel (length v.bytes) v.room (length v.output) (sym e)

  pub refuses :
      (r : Refusal) → number_of r ≡ refusal_of checks → (back : Result Arrival Refusal) → IsErrAnd back (λ s. s ≡ r)
      → Ruled (arrival_says back) v.receiver v.output
  unfolding arrival_of arrival_output
  refuses r e back f =
      let is = if_err checks (refused_arrival v.receiver) work r e in (
        ap arrival_says (handed_back back r f) ∙ sym (ap arrival_beside is),
        sym (ap (λ (a : Arrived). a.receiver) is),
        sym (if_err checks (λ _. v.output) _ r e),
      )

  module _ (p : Passed) where
    abbrev expects : Bool
    expects = eqb v.number v.receiver.expected

    -- what is delivered fits the output, and its length a number of sixteen bits
    pub fits_output : wanted v.receiver v.number v.room ≡ true → length v.bytes ≤ length v.output
    fits_output t = p.long t

    pub fits_length : length v.bytes < 65536
    unfolding receiver_rule
    fits_length =
        let r = v.receiver in
        omega (arith, size_range r.size (first_true (size_allowed r.size) (count_rule r.expected r.received) p.rule), p.most)

    is_done : answer ≡ work
    is_done = arrival_done v.receiver v.number v.channel v.bad (length v.bytes) v.room (length v.output) p

    abbrev cond_of : Bool → List ℕ
    cond_of t = cond t (laid v.output 0 v.bytes) v.output

    lays : (t : Bool) → wanted v.receiver v.number v.room ≡ t → arrival_output v.receiver v.number v.channel v.bytes v.room v.output ≡ cond_of t
    lays t e = arrival_lays v.receiver v.number v.channel v.bytes v.room v.output p ∙ ap cond_of e

    -- the expected number, and room
    delivered : wanted v.receiver v.number v.room ≡ true → work ≡ delivery v.receiver v.number v.channel v.bad (length v.bytes)
    unfolding answer_to
    delivered t = simp (first_true expects v.room t, second_true expects v.room t)

    pub delivers :
        (left : List ℕ) → wanted v.receiver v.number v.room ≡ true → left ≡ laid v.output 0 v.bytes
        → Ruled (arrival_beside (delivery v.receiver v.number v.channel v.bad (length v.bytes))) (advanced v.receiver) left
    delivers left t f =
        let is = is_done ∙ delivered t in
        (sym (ap arrival_beside is), sym (ap (λ (a : Arrived). a.receiver) is), f ∙ sym (lays true t))

    -- any other: only a reply
    record Keeps (a : Arrived) : Type 0 where
      same : arrival_beside a ≡ arrival_beside (answer_to v.receiver v.number 0 false 0 false)
      receiver : a.receiver ≡ v.receiver

    no_room : expects ≡ true → v.room ≡ false → Keeps work
    unfolding answer_to
    no_room e t = record { same = simp (e, t); receiver = simp (e, t) }

    unexpected : expects ≡ false → Keeps work
    unfolding answer_to
    unexpected e =
        by_test (among_last v.receiver.received v.receiver.expected v.number) (λ t. record { same = simp (e, t); receiver = simp (e, t) })
        (λ t. record { same = simp (e, t); receiver = simp (e, t) })

    other : wanted v.receiver v.number v.room ≡ false → Keeps work
    other t =
        by_test expects (λ e. no_room e (ap (λ (b : Bool). b && v.room) (sym e) ∙ t)) unexpected

    pub keeps :
        (a : ArrivalAnswer) → wanted v.receiver v.number v.room ≡ false
        → a ≡ arrival_beside (answer_to v.receiver v.number 0 false 0 false) → Ruled a v.receiver v.output
    keeps a t e =
        let k = other t in (
          e ∙ sym k.same ∙ sym (ap arrival_beside is_done),
          sym k.receiver ∙ sym (ap (λ (x : Arrived). x.receiver) is_done),
          sym (lays false t),
        )
