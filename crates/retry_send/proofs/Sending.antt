-- The ways out of a send: what it answers, the sender after it and what stands in the output are what the rules say.
-- Assumes nothing.
use Rattle.std.specs.Prelude.{Result, Option, IsErrAnd}
use mathlib.Core.Path.{◌≡◌, sym, ◌∙◌, ap}
use mathlib.Core.Bool.{true, false}
use mathlib.Core.List.{List}
use Prim.Native.Nat.{ℕ, ◌+◌, ◌-◌, ◌≤◌, ◌<◌}
use native.Mathlib.Omega.{arith}
use lib.ListN.{length, take, drop, length-take, length-drop}
use borrow.Author.Tests.{lt-ltb, le-ltb}
use Rattle.refusal.specs.declared.Refusal.{Refusal}
use Rattle.refusal.specs.Order.{Check, refusal_of, number_of}
use Rattle.refusal.proofs.Laws.{done}
use Rattle.refusal.proofs.Answers.{if_err}
use Rattle.retry_rules.specs.declared.Sender.{Sender}
use Rattle.retry_rules.specs.declared.Segment.{Segment}
use Rattle.retry_rules.specs.Answers.{Sent, SendAnswer, send_beside, send_says}
use Rattle.retry_rules.specs.Refused.{refused_send}
use Rattle.retry_rules.specs.Lent.{laid, buffer_at, held_length, held_bytes}
use Rattle.retry_rules.specs.Send.{to_send, due_slot, send_checks, due_sent, nothing_sent, send_of, send_output}
use Rattle.segment_size.proofs.Ranges.{size_range}
use Rattle.retry_rules.proofs.StoredSlots.{Slot, stored_slot}
use Rattle.retry_rules.proofs.Seen.{Sends, send_seen, send_passes}
use Rattle.retry_rules.proofs.Done.{send_done, send_lays, send_nothing}
use Rattle.retry_parts.proofs.Calls.{handed_back}
use Rattle.retry_slots.proofs.Below.{within as buffer_within}

-- what is handed to the call
pub record Given : Type 0 where
  pub sender : Sender
  pub buffers : List ℕ
  pub output : List ℕ

module _ (v : Given) where
  abbrev checks : List Check
  checks = send_checks v.sender (length v.buffers) (length v.output)

  abbrev pub Passed : Type 0
  Passed = Sends v.sender (length v.buffers) (length v.output)

  abbrev answer : Sent
  answer = send_of v.sender (length v.buffers) (length v.output)

  -- the answer, the sender and the output, as the contract has them
  abbrev pub Ruled : SendAnswer → Sender → List ℕ → Type 0
  Ruled a s left = (a ≡ send_beside answer) × (s ≡ answer.sender) × (left ≡ send_output v.sender v.buffers v.output)

  pub passed : 0 ≡ refusal_of checks → Passed
  passed e = send_seen v.sender (length v.buffers) (length v.output) (sym e)

  pub refuses :
      (r : Refusal) → number_of r ≡ refusal_of checks → (back : Result (Option Segment) Refusal) → IsErrAnd back (λ s. s ≡ r)
      → Ruled (send_says back) v.sender v.output
  unfolding send_of send_output
  refuses r e back f =
      let is = if_err checks (refused_send v.sender) _ r e in (
        ap send_says (handed_back back r f) ∙ sym (ap send_beside is),
        sym (ap (λ (a : Sent). a.sender) is),
        sym (if_err checks (λ _. v.output) _ r e),
      )

  module _ (p : Passed) where
    abbrev due : ℕ
    due = due_slot v.sender.counters

    -- the send point is past the last stored segment
    pub sends_nothing : v.sender.counters.stored ≤ v.sender.counters.point → Ruled (send_beside (nothing_sent v.sender)) v.sender v.output
    unfolding send_output
    sends_nothing h =
        let none : to_send v.sender.counters ≡ false = le-ltb v.sender.counters.point v.sender.counters.stored h in
        let is = send_nothing v.sender (length v.buffers) (length v.output) p none in (
          sym (ap send_beside is),
          sym (ap (λ (a : Sent). a.sender) is),
          sym (done checks (λ _. v.output) _ (send_passes v.sender (length v.buffers) (length v.output) p) ∙ simp none),
        )

    module _ (more : v.sender.counters.point < v.sender.counters.stored) where
      some : to_send v.sender.counters ≡ true
      some = lt-ltb v.sender.counters.point v.sender.counters.stored more

      pub few : v.sender.counters.point < 8
      few = omega (arith, more, p.sound.rule.numbers.stored_le)

      -- the segment lies within its buffer, and is not longer than the output
      held : Slot v.sender due
      held = stored_slot v.sender v.sender.counters.point p.sound.slots more

      pub record Within (from n : ℕ) : Type 0 where
        pub small : n ≤ 1024
        pub ends : from + n ≤ length v.buffers
        pub below : from + n < 65536
        pub fits : n ≤ length v.output

      pub within : (from n : ℕ) → from ≡ buffer_at v.sender due → n ≡ held_length v.sender due → Within from n
      within from n at is =
          let h = buffer_within v.sender.counters v.sender.counters.point from at in
          let long = p.long some in
          let most = held.most in
          let range = size_range v.sender.counters.size p.sound.rule.size in
          let all = p.buffers in
          record { small = omega arith; ends = omega arith; below = omega arith; fits = omega arith }

      pub part_length : (from n : ℕ) → Within from n → length (take (from + n - from) (drop from v.buffers)) ≤ length v.output
      part_length from n w = simp (length-take, length-drop) (omega (arith, w.ends, w.fits))

      pub sends :
          (a : SendAnswer) (s : Sender) (left : List ℕ) (from n : ℕ) → a ≡ send_beside (due_sent v.sender) → s ≡ (due_sent v.sender).sender
          → from ≡ buffer_at v.sender due → n ≡ held_length v.sender due
          → left ≡ laid v.output 0 (take (from + n - from) (drop from v.buffers)) → Ruled a s left
      unfolding held_bytes
      sends a s left from n e g at is f =
          let same : from + n - from ≡ held_length v.sender due = omega arith in
          let made = send_done v.sender (length v.buffers) (length v.output) p some in (
            e ∙ sym (ap send_beside made),
            g ∙ sym (ap (λ (x : Sent). x.sender) made),
            f ∙ ap (λ (k : ℕ). laid v.output 0 (take k (drop from v.buffers))) same
                ∙ ap (λ (k : ℕ). laid v.output 0 (take (held_length v.sender due) (drop k v.buffers))) at
                ∙ sym (send_lays v.sender v.buffers v.output p some),
          )
