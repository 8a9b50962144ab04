-- What the lent bytes hold: an accepted offer stores its content in the free buffer and leaves that of every stored segment; a send hands out the
-- content at the send point; what is delivered is what came.
-- Assumes nothing.
use mathlib.Core.Path.{◌≡◌, refl, ◌∙◌, ap}
use mathlib.Core.Bool.{Bool, true}
use mathlib.Core.List.{List}
use mathlib.Core.Logic.{◌≢◌}
use Prim.Native.Nat.{ℕ, ◌+◌, ◌*◌, ◌≤◌, ◌<◌}
use native.Mathlib.Omega.{arith}
use native.Mathlib.Decide.{dec_lt}
use lib.ListN.{length, take, drop, length-drop}
use lib.Seq.{get_or-set_same, get_or-set_other, length-take-le, take_at}
use borrow.Author.Tests.{ltb-true}
use Rattle.laws.proofs.Cases.{cond_true}
use Rattle.retry_rules.specs.declared.Sender.{Sender}
use Rattle.retry_rules.specs.declared.Receiver.{Receiver}
use Rattle.retry_rules.specs.States.{slot_of, no_slot, slot_in, Eight}
use Rattle.retry_rules.specs.Lent.{laid, buffer_at, held_length, held_bytes, held_content}
use Rattle.retry_rules.specs.Offer.{free_slot, stored_in, offer_of, offer_buffers}
use Rattle.retry_rules.specs.Send.{to_send, due_slot, send_of, send_output}
use Rattle.retry_rules.specs.Arrival.{wanted, arrival_output}
use Rattle.retry_rules.proofs.Laid.{laid_first, laid_same, laid_before, laid_after, buffers_apart}
use Rattle.retry_rules.proofs.StoredSlots.{stored_slot}
use Rattle.retry_rules.proofs.Seen.{Offers, Sends, Arrives}
use Rattle.retry_rules.proofs.Done.{offer_done, offer_lays, send_done, send_lays, arrival_lays}

module _ (s : Sender) (buffers : List ℕ) (channel : ℕ) (bad : Bool) (bytes : List ℕ) (e : Eight s)
    (o : Offers s (length buffers) channel (length bytes)) where
  pub free_lt : free_slot s.counters < 8
  free_lt = omega arith

  in_run : buffer_at s (free_slot s.counters) + length bytes ≤ length buffers
  in_run = omega (arith, buffers_apart s.counters.size (free_slot s.counters) 8 free_lt, o.buffers, o.most)

  -- the free buffer holds what was offered
  pub stores :
      held_content (stored_in s channel bad (length bytes)) (laid buffers (buffer_at s (free_slot s.counters)) bytes) (free_slot s.counters)
      ≡ record { channel = channel; bad = bad; bytes = bytes }
  unfolding held_content held_bytes
  stores =
      let free = free_slot s.counters in
      let new =
      get_or-set_same s.slots free (record { length = length bytes; channel = channel; bad = bad }) no_slot (omega (arith, e.slots, free_lt)) in
      let p = ap (λ x. x.channel) new in
      let q = ap (λ x. x.bad) new in
      let l = ap (λ x. x.length) new in
      let r = ap (λ (k : ℕ). take k (drop (buffer_at s free) (laid buffers (buffer_at s free) bytes))) l
      ∙ laid_same buffers (buffer_at s free) bytes in_run in
      λ t. record { channel = p t; bad = q t; bytes = r t }

  -- a stored segment's buffer is not touched
  pub keeps_stored :
      (i : ℕ) → i < s.counters.stored
      → held_content (stored_in s channel bad (length bytes)) (laid buffers (buffer_at s (free_slot s.counters)) bytes) (slot_of s.counters i)
      ≡ held_content s buffers (slot_of s.counters i)
  unfolding held_content held_bytes
  keeps_stored i h =
      let free = free_slot s.counters in
      let j = slot_of s.counters i in
      let room = o.free in
      let ne : j ≢ free = λ p. omega arith in
      let held = stored_slot s i o.sound.slots h in
      let kept =
      get_or-set_other s.slots free j (record { length = length bytes; channel = channel; bad = bad }) no_slot ne in
      let p = ap (λ x. x.channel) kept in
      let q = ap (λ x. x.bad) kept in
      let l = ap (λ x. x.length) kept in
      let k = held_length s j in
      let most = held.most in
      let run = laid buffers (buffer_at s free) bytes in
      let r₀ : take k (drop (buffer_at s j) run) ≡ take k (drop (buffer_at s j) buffers) =
      elim (dec_lt j free) [
        | yes lt ↦
            laid_before buffers (buffer_at s free) bytes in_run (buffer_at s j) k
            (omega (arith, buffers_apart s.counters.size j free lt))
        | no ge ↦
            ap (take k)
            (laid_after buffers (buffer_at s free) bytes in_run (buffer_at s j)
            (omega (arith, buffers_apart s.counters.size free j (omega arith), o.most)))
      ] in
      let r = ap (λ (n : ℕ). take n (drop (buffer_at s j) run)) l ∙ r₀ in
      λ t. record { channel = p t; bad = q t; bytes = r t }

-- the same of what an accepted offer answers and leaves in the lent run
pub offer_holds :
    (s : Sender) (buffers : List ℕ) (channel : ℕ) (bad : Bool) (bytes : List ℕ) → Eight s
    → Offers s (length buffers) channel (length bytes)
    → let t = (offer_of s (length buffers) channel bad (length bytes)).sender in
    let run = offer_buffers s buffers channel bytes in
    (held_content t run (free_slot s.counters) ≡ record { channel = channel; bad = bad; bytes = bytes })
    × ((i : ℕ) → i < s.counters.stored → held_content t run (slot_of s.counters i) ≡ held_content s buffers (slot_of s.counters i))
offer_holds s buffers channel bad bytes e o =
    simp (offer_done s (length buffers) channel bad (length bytes) o, offer_lays s buffers channel bytes o)
    (stores s buffers channel bad bytes e o, keeps_stored s buffers channel bad bytes e o)

-- a stored segment's bytes are as many as its slot says
pub held_length_lem :
    (s : Sender) (buffers : List ℕ) (i : ℕ) → length buffers ≡ 8 * s.counters.size → i < 8 → held_length s i ≤ s.counters.size
    → length (held_bytes s buffers i) ≡ held_length s i
unfolding held_bytes
held_length_lem s buffers i run h most =
    length-take-le (held_length s i) (drop (buffer_at s i) buffers)
    (simp length-drop (omega (arith, buffers_apart s.counters.size i 8 h)))

-- what a send answers and leaves in the output is the content at the send point
pub send_holds :
    (s : Sender) (buffers output : List ℕ) → Sends s (length buffers) (length output) → to_send s.counters ≡ true
    → let a = send_of s (length buffers) (length output) in
    record { channel = a.channel; bad = a.bad; bytes = take a.length (send_output s buffers output) }
    ≡ held_content s buffers (due_slot s.counters)
unfolding held_content
send_holds s buffers output o t =
    let c = s.counters in
    let i = due_slot c in
    let held = stored_slot s c.point o.sound.slots (ltb-true c.point c.stored t) in
    let bytes = held_bytes s buffers i in
    let size = held_length_lem s buffers i o.buffers (omega arith) held.most in
    let front : take (held_length s i) (send_output s buffers output) ≡ bytes =
    ap (take (held_length s i)) (send_lays s buffers output o t ∙ laid_first output bytes)
    ∙ take_at bytes (drop (length bytes) output) (held_length s i) size in
    simp (send_done s (length buffers) (length output) o t)
    (ap (λ (b : List ℕ). record { channel = (slot_in s i).channel; bad = (slot_in s i).bad; bytes = b }) front)

-- what is delivered is what came
pub arrival_holds :
    (r : Receiver) (k channel : ℕ) (bytes : List ℕ) (room : Bool) (output : List ℕ)
    → Arrives r k channel (length bytes) room (length output) → wanted r k room ≡ true
    → take (length bytes) (arrival_output r k channel bytes room output) ≡ bytes
arrival_holds r k channel bytes room output a w =
    ap (take (length bytes))
    (arrival_lays r k channel bytes room output a ∙ cond_true (wanted r k room) (laid output 0 bytes) output w ∙ laid_first output bytes)
    ∙ take_at bytes (drop (length bytes) output) (length bytes) refl
