-- Reading a capture into events by what its answer says: a refusal leaves all as it stood.
-- Assumes nothing.
use Prim.Native.Nat.{ℕ}
use mathlib.Core.Path.{◌≡◌, refl, sym, ap, ◌∙◌}
use mathlib.Core.Bool.{true, false}
use mathlib.Core.List.{List}
use lib.IntN.{ℤ}
use lib.ListN.{length}
use native.Mathlib.Omega.{arith}
use Rattle.std.specs.Prelude.{Ok, Err}
use Rattle.refusal.specs.declared.Refusal.{Refusal}
use Rattle.refusal.specs.Order.{number_of, refusal_of}
use Rattle.refusal.proofs.Answers.{has_number}
use Rattle.refusal.proofs.Laws.{hands_back}
use Rattle.refusal.proofs.Outcomes.{number_is, leaves_answer}
use Rattle.packet_rules.specs.declared.Reader.{Reader}
use Rattle.capture_rules.specs.Capture.{legal}
use Rattle.events_rules.specs.Answers.{CaptureRead, ReadAnswer, read_beside, read_says}
use Rattle.events_rules.specs.Events.{not_read_capture, capture_checks, capture_read, events_left}
use Rattle.packet_rules.specs.Answers.{made, not_made}
use Rattle.host_rules.specs.ReaderBytes.{reader_bytes, loaded}
use Rattle.host_rules.proofs.Stepping.{loads, loads_none}
use Rattle.host_calls.specs.EventCalls.{capture_numbers, events_numbers, ReadsCapture, reads_capture}
use Rattle.host_calls.proofs.Same.{call_done, call_refused}

-- ---- a refused reading hands back what it was given

module _ (capture : List ℕ) (r : Reader) (d : ℤ) (events : List ℕ) where
  abbrev read : CaptureRead
  read = capture_read capture r d (length events)

  read_number : read.refusal ≡ refusal_of (capture_checks capture r d (length events))
  unfolding capture_read
  read_number =
      number_is (capture_checks capture r d (length events)) (λ (a : CaptureRead). a.refusal) (not_read_capture r d) _ (λ _. refl) refl

  module _ (refused : read.refusal ≡ 0 → ⊥) where
    disparity_stands : read.disparity ≡ d
    unfolding capture_read
    disparity_stands =
        ap (λ (a : CaptureRead). a.disparity)
        (leaves_answer (capture_checks capture r d (length events)) (λ (a : CaptureRead). a.refusal) (not_read_capture r d) _ (λ _. refl) refl refused)

    events_stand : events_left capture r d events ≡ events
    unfolding events_left
    events_stand = hands_back (capture_checks capture r d (length events)) events _ (λ z. refused (read_number ∙ z))

-- ---- the call

module _ (capture : List ℕ) (old : ReadsCapture) where
  pub capture_illegal : legal capture ≡ false → reads_capture capture old ≡ record { refusal = 8; lent = old }
  unfolding reads_capture capture_numbers
  capture_illegal l = call_refused _ 8 _ _ (simp l) (λ z. omega (arith, z))

  module _ (l : legal capture ≡ true) where
    pub capture_stateless : (n : ℕ) → not_made n ≡ loaded old.reader → reads_capture capture old ≡ record { refusal = n; lent = old }
    unfolding reads_capture capture_numbers
    capture_stateless n e =
        let none = loads_none old.reader n e in
        let one : 1 ≡ n = sym none.1 in
        call_refused _ n _ _ (simp (l, none.0) one) (λ z. omega (arith, one, z))

    module _ (given : Reader) (e : made given ≡ loaded old.reader) where
      -- the answer, and the places as the rule says: on a refusal the disparity and they are as they stood
      abbrev pub answer : CaptureRead
      answer = read capture given old.disparity old.events

      abbrev pub places : List ℕ
      places = events_left capture given old.disparity old.events

      its_answer : capture_numbers capture old.reader old.disparity (length old.events) ≡ answer
      unfolding capture_numbers
      its_answer =
          let state = loads old.reader given e in
          simp (l, state.0) (sym (ap (λ (r : Reader). read capture r old.disparity old.events) state.1))

      its_places : events_numbers capture old.reader old.disparity old.events ≡ places
      unfolding events_numbers
      its_places =
          let state = loads old.reader given e in
          simp (l, state.0) (sym (ap (λ (r : Reader). events_left capture r old.disparity old.events) state.1))

      pub capture_refused :
          (r : Refusal) → read_says (Err r) ≡ read_beside answer
          → reads_capture capture old
          ≡ record { refusal = number_of r; lent = record { reader = old.reader; disparity = answer.disparity; events = places; count = old.count } }
      unfolding reads_capture
      capture_refused r f =
          let number : number_of r ≡ answer.refusal = ap (λ (a : ReadAnswer). a.refusal) f in
          let refused : answer.refusal ≡ 0 → ⊥ = λ z. omega (arith, has_number r, number, z) in
          rw (disparity_stands capture given old.disparity old.events refused, events_stand capture given old.disparity old.events refused)
          (call_refused _ (number_of r) _ _ (ap (λ (a : CaptureRead). a.refusal) its_answer ∙ sym number)
          (λ z. omega (arith, has_number r, z)))

      pub capture_done :
          (n : ℕ) → read_says (Ok n) ≡ read_beside answer
          → reads_capture capture old
          ≡ record { refusal = 0; lent = record { reader = reader_bytes answer.reader; disparity = answer.disparity; events = places; count = n } }
      unfolding reads_capture
      capture_done n f =
          let count : n ≡ answer.count = ap (λ (a : ReadAnswer). a.count) f in
          let z : 0 ≡ answer.refusal = ap (λ (a : ReadAnswer). a.refusal) f in
          rw (its_answer, its_places, count) (call_done _ _ _ (sym z))
