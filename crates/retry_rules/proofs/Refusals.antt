-- A refusal returns its number and the given state, and leaves lent bytes as they stood: one law, cited for each call.
-- Assumes nothing.
use mathlib.Core.Path.{◌≡◌, refl, ◌∙◌}
use mathlib.Core.Bool.{Bool}
use mathlib.Core.List.{List}
use Prim.Native.Nat.{ℕ}
use lib.ListN.{length}
use lib.Dec.{eqb}
use Rattle.laws.proofs.Cases.{by_cases}
use Rattle.refusal.specs.Order.{refusal_of}
use Rattle.refusal.proofs.Laws.{hands_back}
use Rattle.retry_rules.specs.declared.Sender.{Sender}
use Rattle.retry_rules.specs.declared.Receiver.{Receiver}
use Rattle.retry_rules.specs.Answers.{Answered, Offered, Sent, Ticked, Begun, Arrived}
use Rattle.retry_rules.specs.Numbers.{among_last}
use Rattle.retry_rules.specs.Refused.{refused_sender, refused_offer, refused_send, refused_tick, refused_receiver, refused_arrival}
use Rattle.retry_rules.specs.Fresh.{no_sender, no_receiver, fresh_checks, fresh_sender_of, size_checks, fresh_receiver_of, reset_checks, reset_of}
use Rattle.retry_rules.specs.Offer.{offer_checks, offer_of, offer_buffers}
use Rattle.retry_rules.specs.Send.{to_send, send_checks, send_of, send_output}
use Rattle.retry_rules.specs.Reply.{sender_checks, reply_checks, reply_of, damaged_reply_of}
use Rattle.retry_rules.specs.Tick.{tick_of}
use Rattle.retry_rules.specs.Arrival.{arrival_checks, answer_to, arrival_of, arrival_output, receiver_checks, damaged_arrival_of}
use Rattle.refusal.proofs.Outcomes.{number_is, leaves_answer}

-- the number that each call answers with is that of its checks
module _ (s : Sender) where
  pub offer_number : (lent channel : ℕ) (bad : Bool) (n : ℕ) → (offer_of s lent channel bad n).refusal ≡ refusal_of (offer_checks s lent channel n)
  unfolding offer_of
  offer_number lent channel bad n =
      number_is (offer_checks s lent channel n) (λ (a : Offered). a.refusal) (refused_offer s) _ (λ _. refl) refl

  pub send_number : (lent output : ℕ) → (send_of s lent output).refusal ≡ refusal_of (send_checks s lent output)
  unfolding send_of
  send_number lent output =
      number_is (send_checks s lent output) (λ (a : Sent). a.refusal) (refused_send s) _ (λ _. refl)
      (by_cases (λ (a : Sent). a.refusal ≡ 0) (to_send s.counters) (λ _. refl) (λ _. refl))

  pub reply_number : (nack : Bool) (k : ℕ) → (reply_of s nack k).refusal ≡ refusal_of (reply_checks s k)
  unfolding reply_of
  reply_number nack k =
      number_is (reply_checks s k) (λ (a : Answered). a.refusal) (refused_sender s) _ (λ _. refl) refl

  pub damaged_reply_number : (damaged_reply_of s).refusal ≡ refusal_of (sender_checks s)
  unfolding damaged_reply_of
  damaged_reply_number =
      number_is (sender_checks s) (λ (a : Answered). a.refusal) (refused_sender s) _ (λ _. refl) refl

  pub tick_number : (tick_of s).refusal ≡ refusal_of (sender_checks s)
  unfolding tick_of
  tick_number =
      number_is (sender_checks s) (λ (a : Ticked). a.refusal) (refused_tick s) _ (λ _. refl) refl

  pub reset_number : (t size : ℕ) → (reset_of s t size).refusal ≡ refusal_of (reset_checks s t size)
  unfolding reset_of
  reset_number t size =
      number_is (reset_checks s t size) (λ (a : Answered). a.refusal) (refused_sender s) _ (λ _. refl) refl

module _ (r : Receiver) where
  answered : (k channel : ℕ) (bad : Bool) (n : ℕ) (room : Bool) → (answer_to r k channel bad n room).refusal ≡ 0
  unfolding answer_to
  answered k channel bad n room =
      let P : Arrived → Type 0 = λ a. a.refusal ≡ 0 in
      by_cases P (eqb k r.expected) (λ _. by_cases P room (λ _. refl) (λ _. refl))
      (λ _. by_cases P (among_last r.received r.expected k) (λ _. refl) (λ _. refl))

  pub arrival_number : (k channel : ℕ) (bad : Bool) (n : ℕ) (room : Bool) (output : ℕ)
      → (arrival_of r k channel bad n room output).refusal ≡ refusal_of (arrival_checks r k channel n room output)
  unfolding arrival_of answer_to
  arrival_number k channel bad n room output =
      number_is (arrival_checks r k channel n room output) (λ (a : Arrived). a.refusal) (refused_arrival r) _ (λ _. refl) (answered k channel bad n room)

  pub damaged_arrival_number : (damaged_arrival_of r).refusal ≡ refusal_of (receiver_checks r)
  unfolding damaged_arrival_of
  damaged_arrival_number =
      number_is (receiver_checks r) (λ (a : Arrived). a.refusal) (refused_arrival r) _ (λ _. refl) refl

-- and a refused call answers with that number, zeros and the state it was given
module _ (s : Sender) where
  pub offer_refused : (lent channel : ℕ) (bad : Bool) (n : ℕ) → ((offer_of s lent channel bad n).refusal ≡ 0 → ⊥)
      → offer_of s lent channel bad n ≡ refused_offer s (offer_of s lent channel bad n).refusal
  unfolding offer_of
  offer_refused lent channel bad n =
      leaves_answer (offer_checks s lent channel n) (λ (a : Offered). a.refusal) (refused_offer s) _ (λ _. refl) refl

  pub send_refused : (lent output : ℕ) → ((send_of s lent output).refusal ≡ 0 → ⊥) → send_of s lent output ≡ refused_send s (send_of s lent output).refusal
  unfolding send_of
  send_refused lent output =
      leaves_answer (send_checks s lent output) (λ (a : Sent). a.refusal) (refused_send s) _ (λ _. refl)
      (by_cases (λ (a : Sent). a.refusal ≡ 0) (to_send s.counters) (λ _. refl) (λ _. refl))

  pub reply_refused : (nack : Bool) (k : ℕ) → ((reply_of s nack k).refusal ≡ 0 → ⊥) → reply_of s nack k ≡ refused_sender s (reply_of s nack k).refusal
  unfolding reply_of
  reply_refused nack k =
      leaves_answer (reply_checks s k) (λ (a : Answered). a.refusal) (refused_sender s) _ (λ _. refl) refl

  pub damaged_reply_refused : ((damaged_reply_of s).refusal ≡ 0 → ⊥) → damaged_reply_of s ≡ refused_sender s (damaged_reply_of s).refusal
  unfolding damaged_reply_of
  damaged_reply_refused =
      leaves_answer (sender_checks s) (λ (a : Answered). a.refusal) (refused_sender s) _ (λ _. refl) refl

  pub tick_refused : ((tick_of s).refusal ≡ 0 → ⊥) → tick_of s ≡ refused_tick s (tick_of s).refusal
  unfolding tick_of
  tick_refused =
      leaves_answer (sender_checks s) (λ (a : Ticked). a.refusal) (refused_tick s) _ (λ _. refl) refl

  pub reset_refused : (t size : ℕ) → ((reset_of s t size).refusal ≡ 0 → ⊥) → reset_of s t size ≡ refused_sender s (reset_of s t size).refusal
  unfolding reset_of
  reset_refused t size =
      leaves_answer (reset_checks s t size) (λ (a : Answered). a.refusal) (refused_sender s) _ (λ _. refl) refl

module _ (r : Receiver) where
  pub arrival_refused : (k channel : ℕ) (bad : Bool) (n : ℕ) (room : Bool) (output : ℕ) → ((arrival_of r k channel bad n room output).refusal ≡ 0 → ⊥)
      → arrival_of r k channel bad n room output ≡ refused_arrival r (arrival_of r k channel bad n room output).refusal
  unfolding arrival_of answer_to
  arrival_refused k channel bad n room output =
      leaves_answer (arrival_checks r k channel n room output) (λ (a : Arrived). a.refusal) (refused_arrival r) _ (λ _. refl) (answered r k channel bad n room)

  pub damaged_arrival_refused : ((damaged_arrival_of r).refusal ≡ 0 → ⊥) → damaged_arrival_of r ≡ refused_arrival r (damaged_arrival_of r).refusal
  unfolding damaged_arrival_of
  damaged_arrival_refused =
      leaves_answer (receiver_checks r) (λ (a : Arrived). a.refusal) (refused_arrival r) _ (λ _. refl) refl

-- a fresh end that is refused is none
pub fresh_sender_number : (t s : ℕ) → (fresh_sender_of t s).refusal ≡ refusal_of (fresh_checks t s)
unfolding fresh_sender_of
fresh_sender_number t s =
    number_is (fresh_checks t s) (λ (a : Answered). a.refusal) (refused_sender no_sender) _ (λ _. refl) refl

pub fresh_sender_refused : (t s : ℕ) → ((fresh_sender_of t s).refusal ≡ 0 → ⊥) → fresh_sender_of t s ≡ refused_sender no_sender (fresh_sender_of t s).refusal
unfolding fresh_sender_of
fresh_sender_refused t s =
    leaves_answer (fresh_checks t s) (λ (a : Answered). a.refusal) (refused_sender no_sender) _ (λ _. refl) refl

pub fresh_receiver_number : (s : ℕ) → (fresh_receiver_of s).refusal ≡ refusal_of (size_checks s)
unfolding fresh_receiver_of
fresh_receiver_number s =
    number_is (size_checks s) (λ (a : Begun). a.refusal) (refused_receiver no_receiver) _ (λ _. refl) refl

pub fresh_receiver_refused : (s : ℕ) → ((fresh_receiver_of s).refusal ≡ 0 → ⊥) → fresh_receiver_of s ≡ refused_receiver no_receiver (fresh_receiver_of s).refusal
unfolding fresh_receiver_of
fresh_receiver_refused s =
    leaves_answer (size_checks s) (λ (a : Begun). a.refusal) (refused_receiver no_receiver) _ (λ _. refl) refl

-- a refused call leaves what it was lent
pub offer_leaves :
    (s : Sender) (buffers : List ℕ) (channel : ℕ) (bad : Bool) (bytes : List ℕ)
    → ((offer_of s (length buffers) channel bad (length bytes)).refusal ≡ 0 → ⊥) → offer_buffers s buffers channel bytes ≡ buffers
unfolding offer_buffers
offer_leaves s buffers channel bad bytes h =
    hands_back (offer_checks s (length buffers) channel (length bytes)) buffers _
    (λ e. h (offer_number s (length buffers) channel bad (length bytes) ∙ e))

pub send_leaves :
    (s : Sender) (buffers output : List ℕ) → ((send_of s (length buffers) (length output)).refusal ≡ 0 → ⊥)
    → send_output s buffers output ≡ output
unfolding send_output
send_leaves s buffers output h =
    hands_back (send_checks s (length buffers) (length output)) output _
    (λ e. h (send_number s (length buffers) (length output) ∙ e))

pub arrival_leaves :
    (r : Receiver) (k channel : ℕ) (bad : Bool) (bytes : List ℕ) (room : Bool) (output : List ℕ)
    → ((arrival_of r k channel bad (length bytes) room (length output)).refusal ≡ 0 → ⊥)
    → arrival_output r k channel bytes room output ≡ output
unfolding arrival_output
arrival_leaves r k channel bad bytes room output h =
    hands_back (arrival_checks r k channel (length bytes) room (length output)) output _
    (λ e. h (arrival_number r k channel bad (length bytes) room (length output) ∙ e))
