-- A step's call by what is told of it: a refusal leaves all as it stood.
-- Assumes nothing.
use Prim.Native.Nat.{ℕ}
use mathlib.Core.Path.{◌≡◌, refl, sym, ap, ◌∙◌}
use mathlib.Core.List.{List}
use native.Mathlib.Omega.{arith}
use Rattle.std.specs.Prelude.{Result, Ok, Err}
use Rattle.refusal.specs.declared.Refusal.{Refusal}
use Rattle.refusal.specs.Order.{number_of}
use Rattle.refusal.proofs.Answers.{has_number}
use Rattle.packet_rules.specs.declared.Event.{Event}
use Rattle.packet_rules.specs.Answers.{answer_says, event_says}
use Rattle.host_rules.specs.Answers.{Told, told_says}
use Rattle.host_rules.specs.declared.EventNumbers.{EventNumbers}
use Rattle.host_rules.specs.Stepping.{step_numbers, told_of}
use Rattle.host_rules.proofs.Stepping.{refuses_nothing}
use Rattle.host_steps.specs.Told.{answer_told_says}
use Rattle.host_calls.specs.PacketCalls.{Steps, steps}
use Rattle.host_calls.proofs.PacketLaws.{state, step_refused, step_done}

-- the refusal's number that is told
told_refused : (r : Refusal) → (told_of (answer_says (Err r))).refusal ≡ number_of r
unfolding told_of
told_refused r = refl

told_no_refusal : (e : Event) → (told_of (event_says e)).refusal ≡ 0
unfolding told_of
told_no_refusal e = refuses_nothing e

module _ (violation byte control : ℕ) (old : Steps) where
  abbrev bytes : List ℕ
  bytes = state violation byte control old

  pub told_done :
      (a : Result Event Refusal) (t : EventNumbers) → told_says t ≡ told_of (answer_says a)
      → answer_says a ≡ (step_numbers old.reader violation byte control).said
      → steps violation byte control old
      ≡ record { refusal = 0; lent = record { reader = bytes; event = t.event; value = t.value; number = t.number } }
  told_done (Ok e) t g h =
      step_done violation byte control old e h
      ∙ ap (λ (t : Told). record {
        refusal = 0;
        lent = record { reader = bytes; event = t.event; value = t.value; number = t.number };
      }) (sym g)
  told_done (Err r) t g h =
      let z = ap (λ (t : Told). t.refusal) g ∙ told_refused r in
      let p = has_number r in
      absurd (omega (arith, z, p))

  pub told_refusal :
      (a : Result Event Refusal) (r : Refusal) → answer_told_says (Err r) ≡ told_of (answer_says a)
      → answer_says a ≡ (step_numbers old.reader violation byte control).said
      → steps violation byte control old
      ≡ record { refusal = number_of r; lent = record { reader = bytes; event = old.event; value = old.value; number = old.number } }
  told_refusal (Ok e) r g h =
      let z = ap (λ (t : Told). t.refusal) g ∙ told_no_refusal e in
      let p = has_number r in
      absurd (omega (arith, z, p))
  told_refusal (Err s) r g h =
      step_refused violation byte control old s h
      ∙ ap (λ (n : ℕ). record {
        refusal = n;
        lent = record { reader = bytes; event = old.event; value = old.value; number = old.number };
      }) (sym (ap (λ (t : Told). t.refusal) g ∙ told_refused s))
