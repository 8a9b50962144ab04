-- What is told of a step is what the rules tell of what it says.
-- Assumes nothing.
use Prim.Native.Nat.{ℕ}
use mathlib.Core.Path.{◌≡◌, refl, sym}
use Rattle.std.specs.Prelude.{Result, Ok, Err}
use Rattle.refusal.specs.declared.Refusal.{Refusal}
use Rattle.refusal.specs.Order.{number_of}
use Rattle.packet_rules.specs.declared.Event.{Event}
use Rattle.packet_rules.specs.declared.Event.TheVariants.{Nothing, StartData, StartPriority, Byte, End, Lmp, Violation as Violates}
use Rattle.packet_rules.specs.Answers.{refused, event_says, answer_says}
use Rattle.host_rules.specs.Answers.{told_says}
use Rattle.host_rules.specs.Stepping.{told_of}
use Rattle.host_steps.specs.Told.{numbers_of, answer_numbers, answer_told_says}

pub told_event : (e : Event) → told_says (numbers_of (told_of (event_says e))) ≡ told_of (event_says e)
unfolding told_of
told_event Nothing = refl
told_event (StartData c) = refl
told_event (StartPriority c n) = refl
told_event (Byte b) = refl
told_event (End bad) = refl
told_event (Lmp nack n) = refl
told_event (Violates n) = refl

-- of a refusal, under any number: that number, and zeros
pub told_refused : (n : ℕ) → told_of (refused n) ≡ record { refusal = n; event = 0; value = 0; number = 0 }
unfolding told_of
told_refused n = refl

pub told_answer : (a : Result Event Refusal) → answer_told_says (answer_numbers a) ≡ told_of (answer_says a)
told_answer (Ok e) = told_event e
told_answer (Err r) = sym (told_refused (number_of r))
