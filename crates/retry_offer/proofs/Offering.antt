-- The ways out of an offer: what it answers, the sender after it and what stands in the buffers are what the rules say.
-- Assumes nothing.
use Rattle.std.specs.Prelude.{Result, IsErrAnd}
use mathlib.Core.Path.{◌≡◌, sym, ◌∙◌, ap}
use mathlib.Core.Bool.{Bool}
use mathlib.Core.List.{List}
use Prim.Native.Nat.{ℕ, ◌+◌, ◌≤◌, ◌<◌}
use native.Mathlib.Omega.{arith}
use lib.ListN.{length}
use Rattle.refusal.specs.declared.Refusal.{Refusal}
use Rattle.refusal.specs.Order.{Check, refusal_of, number_of}
use Rattle.refusal.proofs.Answers.{if_err}
use Rattle.retry_rules.specs.declared.Sender.{Sender}
use Rattle.retry_rules.specs.Answers.{Offered, OfferAnswer, offer_beside, offer_says}
use Rattle.retry_rules.specs.Refused.{refused_offer}
use Rattle.retry_rules.specs.Lent.{laid, buffer_at}
use Rattle.retry_rules.specs.Offer.{offer_checks, free_slot, next_number, stored_in, offer_of, offer_buffers}
use Rattle.segment_size.proofs.Ranges.{size_range}
use Rattle.retry_rules.proofs.Seen.{Offers, offer_seen}
use Rattle.retry_rules.proofs.Done.{offer_done, offer_lays}
use Rattle.retry_parts.proofs.Calls.{handed_back}
use Rattle.retry_slots.proofs.Below.{within}

-- what is handed to the call
pub record Given : Type 0 where
  pub sender : Sender
  pub buffers : List ℕ
  pub channel : ℕ
  pub bad : Bool
  pub bytes : List ℕ

module _ (v : Given) where
  abbrev checks : List Check
  checks = offer_checks v.sender (length v.buffers) v.channel (length v.bytes)

  abbrev pub Passed : Type 0
  Passed = Offers v.sender (length v.buffers) v.channel (length v.bytes)

  abbrev work : Offered
  work = record { refusal = 0; number = next_number v.sender.counters; sender = stored_in v.sender v.channel v.bad (length v.bytes) }

  abbrev answer : Offered
  answer = offer_of v.sender (length v.buffers) v.channel v.bad (length v.bytes)

  -- the answer, the sender and the buffers, as the contract has them
  abbrev pub Ruled : OfferAnswer → Sender → List ℕ → Type 0
  Ruled a s left =
      (a ≡ offer_beside answer) × (s ≡ answer.sender) × (left ≡ offer_buffers v.sender v.buffers v.channel v.bytes)

  pub passed : 0 ≡ refusal_of checks → Passed
  passed e = offer_seen v.sender (length v.buffers) v.channel (length v.bytes) (sym e)

  pub refuses :
      (r : Refusal) → number_of r ≡ refusal_of checks → (back : Result ℕ Refusal) → IsErrAnd back (λ s. s ≡ r)
      → Ruled (offer_says back) v.sender v.buffers
  unfolding offer_of offer_buffers
  refuses r e back f =
      let is = if_err checks (refused_offer v.sender) work r e in (
        ap offer_says (handed_back back r f) ∙ sym (ap offer_beside is),
        sym (ap (λ (a : Offered). a.sender) is),
        sym (if_err checks (λ _. v.buffers) _ r e),
      )

  module _ (p : Passed) where
    -- the bytes fit the free buffer, and their length a number of sixteen bits
    pub fits_buffer : (at : ℕ) → at ≡ buffer_at v.sender (free_slot v.sender.counters) → at + length v.bytes ≤ length v.buffers
    fits_buffer at is = omega (arith, p.most, p.buffers, within v.sender.counters v.sender.counters.stored at is)

    pub fits_length : length v.bytes < 65536
    fits_length = omega (arith, p.most, size_range v.sender.counters.size p.sound.rule.size)

    pub stores :
        (s : Sender) (left : List ℕ) → s ≡ stored_in v.sender v.channel v.bad (length v.bytes)
        → left ≡ laid v.buffers (buffer_at v.sender (free_slot v.sender.counters)) v.bytes → Ruled (offer_beside work) s left
    stores s left e f =
        let is = offer_done v.sender (length v.buffers) v.channel v.bad (length v.bytes) p in (
          sym (ap offer_beside is),
          e ∙ sym (ap (λ (a : Offered). a.sender) is),
          f ∙ sym (offer_lays v.sender v.buffers v.channel v.bytes p),
        )
