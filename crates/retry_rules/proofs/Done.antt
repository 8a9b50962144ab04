-- What each call answers and leaves where it is not refused.
-- Assumes nothing.
use mathlib.Core.Path.{◌≡◌, ◌∙◌}
use mathlib.Core.Bool.{Bool, true, false, cond}
use mathlib.Core.List.{List}
use Prim.Native.Nat.{ℕ}
use lib.ListN.{length}
use Rattle.laws.proofs.Cases.{cond_true, cond_false}
use Rattle.refusal.proofs.Laws.{done}
use Rattle.retry_rules.specs.declared.Sender.{Sender}
use Rattle.retry_rules.specs.declared.Receiver.{Receiver}
use Rattle.segment_size.specs.Sizes.{size_allowed}
use Rattle.retry_rules.specs.States.{sender_rule, receiver_rule}
use Rattle.retry_rules.specs.Refused.{refused_sender, refused_offer, refused_send, refused_tick, refused_receiver, refused_arrival}
use Rattle.retry_rules.specs.Fresh.{fresh_sender, fresh_receiver, no_sender, no_receiver, fresh_checks, fresh_sender_of, size_checks, fresh_receiver_of, reset_checks, reset_of}
use Rattle.retry_rules.specs.Lent.{laid, buffer_at, held_bytes}
use Rattle.retry_rules.specs.Offer.{offer_checks, free_slot, next_number, stored_in, offer_of, offer_buffers}
use Rattle.retry_rules.specs.Send.{to_send, due_slot, send_checks, due_sent, nothing_sent, send_of, send_output}
use Rattle.retry_rules.specs.Reply.{heard, sender_checks, reply_checks, with_counters, reply_of, damaged_reply_of}
use Rattle.retry_rules.specs.Tick.{ticked, tick_of}
use Rattle.retry_rules.specs.States.{is_down}
use Rattle.retry_rules.specs.Arrival.{wanted, arrival_checks, answer_to, nack_of, arrival_of, arrival_output, receiver_checks, damaged_arrival_of}
use Rattle.retry_rules.proofs.Seen.{Sound, sender_passes, Hears, reply_passes, Offers, offer_passes, Sends, send_passes, Arrives, arrival_passes, Begins, fresh_passes, reset_passes, size_passes, receiver_passes}

pub offer_done :
    (s : Sender) (lent channel : ℕ) (bad : Bool) (n : ℕ) → Offers s lent channel n
    → offer_of s lent channel bad n ≡ record { refusal = 0; number = next_number s.counters; sender = stored_in s channel bad n }
unfolding offer_of
offer_done s lent channel bad n o = done (offer_checks s lent channel n) (refused_offer s) _ (offer_passes s lent channel n o)

pub offer_lays :
    (s : Sender) (buffers : List ℕ) (channel : ℕ) (bytes : List ℕ) → Offers s (length buffers) channel (length bytes)
    → offer_buffers s buffers channel bytes ≡ laid buffers (buffer_at s (free_slot s.counters)) bytes
unfolding offer_buffers
offer_lays s buffers channel bytes o =
    done (offer_checks s (length buffers) channel (length bytes)) (λ _. buffers) _ (offer_passes s (length buffers) channel (length bytes) o)

-- a send with something to send, and with nothing
pub send_done : (s : Sender) (lent output : ℕ) → Sends s lent output → to_send s.counters ≡ true → send_of s lent output ≡ due_sent s
unfolding send_of
send_done s lent output o t =
    done (send_checks s lent output) (refused_send s) _ (send_passes s lent output o)
    ∙ cond_true (to_send s.counters) (due_sent s) (nothing_sent s) t

pub send_lays :
    (s : Sender) (buffers output : List ℕ) → Sends s (length buffers) (length output) → to_send s.counters ≡ true
    → send_output s buffers output ≡ laid output 0 (held_bytes s buffers (due_slot s.counters))
unfolding send_output
send_lays s buffers output o t =
    done (send_checks s (length buffers) (length output)) (λ _. output) _ (send_passes s (length buffers) (length output) o)
    ∙ cond_true (to_send s.counters) (laid output 0 (held_bytes s buffers (due_slot s.counters))) output t

pub send_nothing :
    (s : Sender) (lent output : ℕ) → Sends s lent output → to_send s.counters ≡ false → send_of s lent output ≡ nothing_sent s
unfolding send_of
send_nothing s lent output o t =
    done (send_checks s lent output) (refused_send s) _ (send_passes s lent output o)
    ∙ cond_false (to_send s.counters) (due_sent s) (nothing_sent s) t

pub reply_done :
    (s : Sender) (nack : Bool) (k : ℕ) → Hears s k
    → reply_of s nack k ≡ record { refusal = 0; sender = with_counters s (heard s.counters nack k) }
unfolding reply_of
reply_done s nack k h = done (reply_checks s k) (refused_sender s) _ (reply_passes s k h)

pub damaged_reply_done : (s : Sender) → Sound s → damaged_reply_of s ≡ record { refusal = 0; sender = s }
unfolding damaged_reply_of
damaged_reply_done s h = done (sender_checks s) (refused_sender s) _ (sender_passes s h)

pub tick_done :
    (s : Sender) → Sound s
    → tick_of s ≡ record { refusal = 0; fell = is_down (ticked s.counters); sender = with_counters s (ticked s.counters) }
unfolding tick_of
tick_done s h = done (sender_checks s) (refused_tick s) _ (sender_passes s h)

pub reset_done :
    (given : Sender) (t s : ℕ) → sender_rule given ≡ true → Begins t s → reset_of given t s ≡ record { refusal = 0; sender = fresh_sender t s }
unfolding reset_of
reset_done given t s q h = done (reset_checks given t s) (refused_sender given) _ (reset_passes given t s q h)

pub fresh_sender_done : (t s : ℕ) → Begins t s → fresh_sender_of t s ≡ record { refusal = 0; sender = fresh_sender t s }
unfolding fresh_sender_of
fresh_sender_done t s h = done (fresh_checks t s) (refused_sender no_sender) _ (fresh_passes t s h)

pub fresh_receiver_done : (s : ℕ) → size_allowed s ≡ true → fresh_receiver_of s ≡ record { refusal = 0; receiver = fresh_receiver s }
unfolding fresh_receiver_of
fresh_receiver_done s q = done (size_checks s) (refused_receiver no_receiver) _ (size_passes s q)

pub arrival_done :
    (r : Receiver) (k channel : ℕ) (bad : Bool) (n : ℕ) (room : Bool) (output : ℕ) → Arrives r k channel n room output
    → arrival_of r k channel bad n room output ≡ answer_to r k channel bad n room
unfolding arrival_of
arrival_done r k channel bad n room output a =
    done (arrival_checks r k channel n room output) (refused_arrival r) _ (arrival_passes r k channel n room output a)

pub arrival_lays :
    (r : Receiver) (k channel : ℕ) (bytes : List ℕ) (room : Bool) (output : List ℕ)
    → Arrives r k channel (length bytes) room (length output)
    → arrival_output r k channel bytes room output ≡ cond (wanted r k room) (laid output 0 bytes) output
unfolding arrival_output
arrival_lays r k channel bytes room output a =
    done (arrival_checks r k channel (length bytes) room (length output)) (λ _. output) _
    (arrival_passes r k channel (length bytes) room (length output) a)

pub damaged_arrival_done : (r : Receiver) → receiver_rule r ≡ true → damaged_arrival_of r ≡ nack_of r
unfolding damaged_arrival_of
damaged_arrival_done r q = done (receiver_checks r) (refused_arrival r) _ (receiver_passes r q)
