-- The numbers that C gets tell all answers of a step apart: from them the event, or the refusal, is had again. So they do of all that a step may say.
-- Assumes nothing.
use Prim.Native.Nat.{ℕ, ◌<◌}
use mathlib.Core.Path.{◌≡◌, refl, ap, sym, ◌∙◌}
use mathlib.Core.Bool.{Bool, true, false, cond}
use native.Mathlib.Omega.{arith}
use lib.Dec.{eqb}
use borrow.Author.Tests.{ne_eqb}
use Rattle.std.specs.Prelude.{Result, Ok, Err}
use Rattle.std.proofs.Math.Option.{none, some}
use Rattle.refusal.specs.declared.Refusal.{Refusal}
use Rattle.refusal.specs.declared.Refusal.TheVariants.{OutOfRange, SegmentSize, NotWritable, NoBytes, Full, ShortOutput, LinkDown, BadCapture}
use Rattle.refusal.specs.Order.{number_of}
use Rattle.refusal.proofs.Answers.{has_number}
use Rattle.packet_rules.specs.declared.Violation.{Violation}
use Rattle.packet_rules.specs.declared.Violation.TheVariants.{Invalid, WrongDisparity, Unsupported, OutOfPlace, Channel, Crc, LmpCheck, NoByte, Outside, TooLong}
use Rattle.packet_rules.specs.declared.Event.{Event}
use Rattle.packet_rules.specs.declared.Event.TheVariants.{Nothing, StartData, StartPriority, Byte, End, Lmp, Violation as Violates}
use Rattle.packet_rules.specs.Answers.{Said, nothing, started, gave_byte, ended, replied, violated, refused, answer_says, violation_number, OneOfTen}
use Rattle.packet_rules.proofs.Told.{the_refusal}
use Rattle.host_rules.specs.Answers.{Told}
use Rattle.host_rules.specs.Numbers.{mark_of}
use Rattle.host_rules.specs.Stepping.{told_of}

abbrev pub event_of : ℕ → ℕ → ℕ → Event
event_of event value number =
    cond (eqb event 1) (Violates value)
    (cond (eqb event 2) (StartData value)
    (cond (eqb event 3) (StartPriority value number)
    (cond (eqb event 4) (Byte value) (cond (eqb event 5) (End (mark_of value)) (cond (eqb event 6) (Lmp (mark_of value) number) Nothing)))))

abbrev pub the_event : Told → Result Event Refusal
the_event t = cond (eqb t.refusal 0) (Ok (event_of t.event t.value t.number)) (Err (the_refusal t.refusal))

pub event_again : (a : Result Event Refusal) → the_event (told_of (answer_says a)) ≡ a
unfolding told_of
event_again (Ok Nothing) = refl
event_again (Ok (StartData c)) = refl
event_again (Ok (StartPriority c n)) = refl
event_again (Ok (Byte b)) = refl
event_again (Ok (End true)) = refl
event_again (Ok (End false)) = refl
event_again (Ok (Lmp true n)) = refl
event_again (Ok (Lmp false n)) = refl
event_again (Ok (Violates n)) = refl
event_again (Err OutOfRange) = refl
event_again (Err SegmentSize) = refl
event_again (Err NotWritable) = refl
event_again (Err NoBytes) = refl
event_again (Err Full) = refl
event_again (Err ShortOutput) = refl
event_again (Err LinkDown) = refl
event_again (Err BadCapture) = refl

pub one_event : (a b : Result Event Refusal) → told_of (answer_says a) ≡ told_of (answer_says b) → a ≡ b
one_event a b same = sym (event_again a) ∙ ap the_event same ∙ event_again b

-- ---- of what a step may say: any violation's number, and any refusal's that is not 0, which is none's

pub data One : Said → Type 0 where
  of_nothing : One nothing
  of_data : (channel : ℕ) → One (started channel none)
  of_priority : (channel segment : ℕ) → One (started channel (some segment))
  of_byte : (b : ℕ) → One (gave_byte b)
  of_end : (bad : Bool) → One (ended bad)
  of_lmp : (nack : Bool) (number : ℕ) → One (replied nack number)
  of_violation : (n : ℕ) → One (violated n)
  of_refusal : (n : ℕ) → (n ≡ 0 → ⊥) → One (refused n)

abbrev pub said_of : ℕ → ℕ → ℕ → Said
said_of event value number =
    cond (eqb event 1) (violated value)
    (cond (eqb event 2) (started value none)
    (cond (eqb event 3) (started value (some number))
    (cond (eqb event 4) (gave_byte value)
    (cond (eqb event 5) (ended (mark_of value)) (cond (eqb event 6) (replied (mark_of value) number) nothing)))))

abbrev pub the_said : Told → Said
the_said t = cond (eqb t.refusal 0) (said_of t.event t.value t.number) (refused t.refusal)

pub said_again : (s : Said) → One s → the_said (told_of s) ≡ s
unfolding told_of
said_again s of_nothing = refl
said_again s (of_data c) = refl
said_again s (of_priority c n) = refl
said_again s (of_byte b) = refl
said_again s (of_end true) = refl
said_again s (of_end false) = refl
said_again s (of_lmp true n) = refl
said_again s (of_lmp false n) = refl
said_again s (of_violation n) = refl
said_again s (of_refusal n h) = simp (ne_eqb n 0 h)

pub one_said : (s t : Said) → One s → One t → told_of s ≡ told_of t → s ≡ t
one_said s t a b same = sym (said_again s a) ∙ ap the_said same ∙ said_again t b

-- every answer of a step says one of these
pub says_one_of : (a : Result Event Refusal) → One (answer_says a)
says_one_of (Ok Nothing) = of_nothing
says_one_of (Ok (StartData c)) = of_data c
says_one_of (Ok (StartPriority c n)) = of_priority c n
says_one_of (Ok (Byte b)) = of_byte b
says_one_of (Ok (End bad)) = of_end bad
says_one_of (Ok (Lmp nack n)) = of_lmp nack n
says_one_of (Ok (Violates n)) = of_violation n
says_one_of (Err r) = of_refusal (number_of r) (λ z. let p = has_number r in omega (arith, p, z))

-- ---- a violation under 0, or under a number over 10, is none of the ten: a step that said one would break the law

numbered : (v : Violation) → (0 < violation_number v) × (violation_number v < 11)
numbered Invalid = (omega arith, omega arith)
numbered WrongDisparity = (omega arith, omega arith)
numbered Unsupported = (omega arith, omega arith)
numbered OutOfPlace = (omega arith, omega arith)
numbered Channel = (omega arith, omega arith)
numbered Crc = (omega arith, omega arith)
numbered LmpCheck = (omega arith, omega arith)
numbered NoByte = (omega arith, omega arith)
numbered Outside = (omega arith, omega arith)
numbered TooLong = (omega arith, omega arith)

pub zeroth_refuted : OneOfTen (violated 0) → ⊥
zeroth_refuted h = let t = h 0 refl in let v = numbered t.0 in omega (arith, v.0, t.1)

pub eleventh_refuted : (n : ℕ) → 10 < n → OneOfTen (violated n) → ⊥
eleventh_refuted n over h = let t = h n refl in let v = numbered t.0 in omega (arith, over, v.1, t.1)
