-- What an answer says tells which answer it is: so no second answer fits a contract.
-- Assumes nothing.
use mathlib.Core.Path.{◌≡◌, refl, sym, ap, ◌∙◌}
use mathlib.Core.Bool.{cond}
use Prim.Native.Nat.{ℕ}
use lib.Dec.{eqb}
use Rattle.std.specs.Prelude.{Result, Ok, Err}
use Rattle.refusal.specs.declared.Refusal.{Refusal}
use Rattle.refusal.specs.declared.Refusal.TheVariants.{OutOfRange, SegmentSize, NotWritable, NoBytes, Full, ShortOutput, LinkDown, BadCapture}
use Rattle.refusal.specs.Order.{number_of}
use Rattle.packet_rules.specs.declared.Event.{Event}
use Rattle.packet_rules.specs.declared.Event.TheVariants.{Nothing, StartData, StartPriority, Byte, End, Lmp, Violation as Violates}
use Rattle.packet_rules.specs.declared.Violation.{Violation}
use Rattle.packet_rules.specs.declared.Violation.TheVariants.{Invalid, WrongDisparity, Unsupported, OutOfPlace, Channel, Crc, LmpCheck, NoByte, Outside, TooLong}
use Rattle.packet_rules.specs.declared.Reader.{Reader}
use Rattle.packet_rules.specs.declared.Step.{Step}
use Rattle.packet_rules.specs.declared.Written.{Written}
use Rattle.packet_rules.specs.Packets.{PacketWriting, written_says}
use Rattle.packet_rules.specs.History.{given}
use Rattle.packet_rules.specs.Answers.{Said, Start, Answer, Made, violation_number, event_says, answer_says, step_says, fresh_says}

-- ---- the refusal and the violation of a number

abbrev pub the_refusal : ℕ → Refusal
the_refusal n =
    cond (eqb n 1) OutOfRange
    (cond (eqb n 2) SegmentSize
    (cond (eqb n 3) NotWritable
    (cond (eqb n 4) NoBytes
    (cond (eqb n 5) Full
    (cond (eqb n 6) ShortOutput
    (cond (eqb n 7) LinkDown BadCapture))))))

refusal_told : (r : Refusal) → the_refusal (number_of r) ≡ r
refusal_told OutOfRange = refl
refusal_told SegmentSize = refl
refusal_told NotWritable = refl
refusal_told NoBytes = refl
refusal_told Full = refl
refusal_told ShortOutput = refl
refusal_told LinkDown = refl
refusal_told BadCapture = refl

abbrev pub the_violation : ℕ → Violation
the_violation n =
    cond (eqb n 1) Invalid
    (cond (eqb n 2) WrongDisparity
    (cond (eqb n 3) Unsupported
    (cond (eqb n 4) OutOfPlace
    (cond (eqb n 5) Channel
    (cond (eqb n 6) Crc
    (cond (eqb n 7) LmpCheck
    (cond (eqb n 8) NoByte
    (cond (eqb n 9) Outside TooLong))))))))

pub violation_told : (v : Violation) → the_violation (violation_number v) ≡ v
violation_told Invalid = refl
violation_told WrongDisparity = refl
violation_told Unsupported = refl
violation_told OutOfPlace = refl
violation_told Channel = refl
violation_told Crc = refl
violation_told LmpCheck = refl
violation_told NoByte = refl
violation_told Outside = refl
violation_told TooLong = refl

-- ---- the event, or the refusal

abbrev the_start : Start → Event
the_start s = given s.segment (StartPriority s.channel) (StartData s.channel)

abbrev pub the_event : Said → Event
the_event s =
    given s.violation Violates
    (given s.start the_start
    (given s.byte Byte
    (given s.end End
    (given s.lmp (λ l. Lmp l.nack l.number) Nothing))))

pub event_told : (e : Event) → the_event (event_says e) ≡ e
event_told Nothing = refl
event_told (StartData c) = refl
event_told (StartPriority c n) = refl
event_told (Byte b) = refl
event_told (End bad) = refl
event_told (Lmp nack n) = refl
event_told (Violates n) = refl

abbrev pub the_answer : Said → Result Event Refusal
the_answer s = given s.refusal (λ n. Err (the_refusal n)) (Ok (the_event s))

pub answer_told : (a : Result Event Refusal) → the_answer (answer_says a) ≡ a
answer_told (Ok Nothing) = refl
answer_told (Ok (StartData c)) = refl
answer_told (Ok (StartPriority c n)) = refl
answer_told (Ok (Byte b)) = refl
answer_told (Ok (End bad)) = refl
answer_told (Ok (Lmp nack n)) = refl
answer_told (Ok (Violates n)) = refl
answer_told (Err r) = ap (λ (x : Refusal). Err x) (refusal_told r)

abbrev pub the_step : Answer → Step
the_step a = record { event = the_event a.said; reader = a.reader }

pub step_told : (s : Step) → the_step (step_says s) ≡ s
step_told s = ap (λ (e : Event). record { event = e; reader = s.reader }) (event_told s.event)

abbrev pub the_fresh : Made → Result Reader Refusal
the_fresh m = given m.reader (λ r. Ok r) (given m.refusal (λ n. Err (the_refusal n)) (Err OutOfRange))

pub fresh_told : (a : Result Reader Refusal) → the_fresh (fresh_says a) ≡ a
fresh_told (Ok r) = refl
fresh_told (Err r) = ap (λ (x : Refusal). Err x) (refusal_told r)

-- two answers that say the same are the same
pub one_answer : (a b : Result Event Refusal) → answer_says a ≡ answer_says b → a ≡ b
one_answer a b e = sym (answer_told a) ∙ ap the_answer e ∙ answer_told b

pub one_step : (a b : Step) → step_says a ≡ step_says b → a ≡ b
one_step a b e = sym (step_told a) ∙ ap the_step e ∙ step_told b

pub one_fresh : (a b : Result Reader Refusal) → fresh_says a ≡ fresh_says b → a ≡ b
one_fresh a b e = sym (fresh_told a) ∙ ap the_fresh e ∙ fresh_told b

abbrev pub the_written : PacketWriting → Result Written Refusal
the_written w =
    given w.count (λ n. given w.disparity (λ e. Ok (record { count = n; disparity = e })) (Err OutOfRange))
    (given w.refusal (λ n. Err (the_refusal n)) (Err OutOfRange))

pub written_told : (a : Result Written Refusal) → the_written (written_says a) ≡ a
written_told (Ok w) = refl
written_told (Err r) = ap (λ (x : Refusal). Err x) (refusal_told r)

pub one_written : (a b : Result Written Refusal) → written_says a ≡ written_says b → a ≡ b
one_written a b e = sym (written_told a) ∙ ap the_written e ∙ written_told b
