-- What a call that its checks refuse comes to, by the refusal: its number with zeros and the given state, and lent bytes as they stood.
-- Assumes nothing.
use mathlib.Core.Path.{◌≡◌, refl}
use mathlib.Core.Bool.{Bool}
use mathlib.Core.List.{List}
use Prim.Native.Nat.{ℕ}
use lib.ListN.{length}
use Rattle.refusal.specs.declared.Refusal.{Refusal}
use Rattle.refusal.specs.Order.{number_of, refusal_of}
use Rattle.refusal.proofs.Answers.{if_err}
use Rattle.refusal.proofs.Outcomes.{either_way}
use Rattle.retry_rules.specs.Answers.{Answered}
use Rattle.retry_rules.specs.declared.Sender.{Sender}
use Rattle.retry_rules.specs.declared.Receiver.{Receiver}
use Rattle.retry_rules.specs.Refused.{refused_sender, refused_offer, refused_send, refused_tick, refused_receiver, refused_arrival}
use Rattle.retry_rules.specs.Fresh.{no_sender, no_receiver, fresh_checks, fresh_sender_of, size_checks, fresh_receiver_of, reset_checks, reset_of}
use Rattle.retry_rules.specs.Offer.{offer_checks, offer_of, offer_buffers}
use Rattle.retry_rules.specs.Send.{send_checks, send_of, send_output}
use Rattle.retry_rules.specs.Reply.{sender_checks, reply_checks, reply_of, damaged_reply_of}
use Rattle.retry_rules.specs.Tick.{tick_of}
use Rattle.retry_rules.specs.Arrival.{arrival_checks, arrival_of, arrival_output, receiver_checks, damaged_arrival_of}

module _ (x : Refusal) where
  pub fresh_sender_err : (t s : ℕ) → number_of x ≡ refusal_of (fresh_checks t s) → fresh_sender_of t s ≡ refused_sender no_sender (number_of x)
  unfolding fresh_sender_of
  fresh_sender_err t s = if_err (fresh_checks t s) (refused_sender no_sender) _ x

  pub fresh_receiver_err : (s : ℕ) → number_of x ≡ refusal_of (size_checks s) → fresh_receiver_of s ≡ refused_receiver no_receiver (number_of x)
  unfolding fresh_receiver_of
  fresh_receiver_err s = if_err (size_checks s) (refused_receiver no_receiver) _ x

  pub reset_err : (s : Sender) (t size : ℕ) → number_of x ≡ refusal_of (reset_checks s t size) → reset_of s t size ≡ refused_sender s (number_of x)
  unfolding reset_of
  reset_err s t size = if_err (reset_checks s t size) (refused_sender s) _ x

  pub reply_err : (s : Sender) (nack : Bool) (k : ℕ) → number_of x ≡ refusal_of (reply_checks s k) → reply_of s nack k ≡ refused_sender s (number_of x)
  unfolding reply_of
  reply_err s nack k = if_err (reply_checks s k) (refused_sender s) _ x

  pub tick_err : (s : Sender) → number_of x ≡ refusal_of (sender_checks s) → tick_of s ≡ refused_tick s (number_of x)
  unfolding tick_of
  tick_err s = if_err (sender_checks s) (refused_tick s) _ x

  pub offer_err :
      (s : Sender) (lent channel : ℕ) (bad : Bool) (n : ℕ) → number_of x ≡ refusal_of (offer_checks s lent channel n)
      → offer_of s lent channel bad n ≡ refused_offer s (number_of x)
  unfolding offer_of
  offer_err s lent channel bad n = if_err (offer_checks s lent channel n) (refused_offer s) _ x

  pub offer_err_leaves :
      (s : Sender) (buffers : List ℕ) (channel : ℕ) (bytes : List ℕ) → number_of x ≡ refusal_of (offer_checks s (length buffers) channel (length bytes))
      → offer_buffers s buffers channel bytes ≡ buffers
  unfolding offer_buffers
  offer_err_leaves s buffers channel bytes = if_err (offer_checks s (length buffers) channel (length bytes)) (λ _. buffers) _ x

  pub send_err : (s : Sender) (lent output : ℕ) → number_of x ≡ refusal_of (send_checks s lent output) → send_of s lent output ≡ refused_send s (number_of x)
  unfolding send_of
  send_err s lent output = if_err (send_checks s lent output) (refused_send s) _ x

  pub send_err_leaves :
      (s : Sender) (buffers output : List ℕ) → number_of x ≡ refusal_of (send_checks s (length buffers) (length output))
      → send_output s buffers output ≡ output
  unfolding send_output
  send_err_leaves s buffers output = if_err (send_checks s (length buffers) (length output)) (λ _. output) _ x

  pub arrival_err :
      (r : Receiver) (k channel : ℕ) (bad : Bool) (n : ℕ) (room : Bool) (output : ℕ) → number_of x ≡ refusal_of (arrival_checks r k channel n room output)
      → arrival_of r k channel bad n room output ≡ refused_arrival r (number_of x)
  unfolding arrival_of
  arrival_err r k channel bad n room output = if_err (arrival_checks r k channel n room output) (refused_arrival r) _ x

  pub arrival_err_leaves :
      (r : Receiver) (k channel : ℕ) (bytes : List ℕ) (room : Bool) (output : List ℕ)
      → number_of x ≡ refusal_of (arrival_checks r k channel (length bytes) room (length output)) → arrival_output r k channel bytes room output ≡ output
  unfolding arrival_output
  arrival_err_leaves r k channel bytes room output =
      if_err (arrival_checks r k channel (length bytes) room (length output)) (λ _. output) _ x

  pub damaged_arrival_err : (r : Receiver) → number_of x ≡ refusal_of (receiver_checks r) → damaged_arrival_of r ≡ refused_arrival r (number_of x)
  unfolding damaged_arrival_of
  damaged_arrival_err r = if_err (receiver_checks r) (refused_arrival r) _ x

-- and a call that is ignored leaves the sender, refused or not
pub damaged_reply_leaves : (s : Sender) → (damaged_reply_of s).sender ≡ s
unfolding damaged_reply_of
damaged_reply_leaves s = either_way (sender_checks s) (λ (a : Answered). a.sender ≡ s) (refused_sender s) _ (λ _. refl) (λ _. refl)
