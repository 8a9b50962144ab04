-- Packed events tell all events apart: each can be taken apart again.
-- Assumes nothing.
use Prim.Native.Nat.{ℕ, ◌+◌, ◌*◌, ◌/◌, ◌%◌, ◌<◌}
use mathlib.Core.Path.{◌≡◌, refl, sym, ap, ◌∙◌}
use mathlib.Core.Bool.{Bool, true, false, cond}
use native.Mathlib.Omega.{arith}
use lib.Dec.{eqb}
use Rattle.std.specs.Prelude.{Result, Ok, Err}
use Rattle.refusal.specs.declared.Refusal.{Refusal}
use Rattle.refusal.specs.Order.{number_of}
use Rattle.packet_rules.specs.declared.Event.{Event}
use Rattle.packet_rules.specs.declared.Event.TheVariants.{Nothing, StartData, StartPriority, Byte, End, Lmp, Violation as Violates}
use Rattle.packet_rules.specs.declared.Violation.{Violation}
use Rattle.packet_rules.specs.declared.Violation.TheVariants.{Invalid, WrongDisparity, Unsupported, OutOfPlace, Channel, Crc, LmpCheck, NoByte, Outside, TooLong}
use Rattle.packet_rules.specs.Answers.{violation_number, refused, event_says, answer_says}
use Rattle.events_rules.specs.Numbers.{packed_event, packed_answer}

-- an event whose numbers are bytes
pub data Told : Event → Type 0 where
  nothing : Told Nothing
  violation : (n : ℕ) → n < 256 → Told (Violates n)
  start_data : (channel : ℕ) → channel < 256 → Told (StartData channel)
  start_priority : (channel segment : ℕ) → channel < 256 → segment < 256 → Told (StartPriority channel segment)
  byte : (b : ℕ) → b < 256 → Told (Byte b)
  end : (bad : Bool) → Told (End bad)
  lmp : (nack : Bool) (number : ℕ) → number < 256 → Told (Lmp nack number)

-- the ten are bytes
pub named : (v : Violation) → Told (Violates (violation_number v))
named Invalid = violation 1 (omega arith)
named WrongDisparity = violation 2 (omega arith)
named Unsupported = violation 3 (omega arith)
named OutOfPlace = violation 4 (omega arith)
named Channel = violation 5 (omega arith)
named Crc = violation 6 (omega arith)
named LmpCheck = violation 7 (omega arith)
named NoByte = violation 8 (omega arith)
named Outside = violation 9 (omega arith)
named TooLong = violation 10 (omega arith)

-- the event of a number, a segment number and a value
abbrev event_of : ℕ → ℕ → ℕ → Event
event_of event segment value =
    cond (eqb event 1) (Violates value)
    (cond (eqb event 2) (StartData value)
    (cond (eqb event 3) (StartPriority value segment)
    (cond (eqb event 4) (Byte value)
    (cond (eqb event 5) (End (eqb value 1)) (cond (eqb event 6) (Lmp (eqb value 1) segment) Nothing)))))

abbrev pub unpacked_event : ℕ → Event
unpacked_event n = event_of (n / 65536) (n / 256 % 256) (n % 256)

apart : (event segment value : ℕ) → segment < 256 → value < 256 → unpacked_event (65536 * event + 256 * segment + value) ≡ event_of event segment value
apart event segment value g h =
    let n = 65536 * event + 256 * segment + value in
    let a : n / 65536 ≡ event = omega arith in
    let b : n / 256 % 256 ≡ segment = omega arith in
    let c : n % 256 ≡ value = omega arith in
    λ i. event_of (a i) (b i) (c i)

pub event_back : (e : Event) → Told e → unpacked_event (packed_event (event_says e)) ≡ e
unfolding packed_event
event_back e nothing = refl
event_back e (violation n h) = apart 1 0 n (omega arith) h
event_back e (start_data c h) = apart 2 0 c (omega arith) h
event_back e (start_priority c s h g) = apart 3 s c g h
event_back e (byte b h) = apart 4 0 b (omega arith) h
event_back e (end true) = refl
event_back e (end false) = refl
event_back e (lmp true n h) = apart 6 n 1 h (omega arith)
event_back e (lmp false n h) = apart 6 n 0 h (omega arith)

-- two events with one number are one
pub one_event : (e f : Event) → Told e → Told f → packed_event (event_says e) ≡ packed_event (event_says f) → e ≡ f
one_event e f a b h = sym (event_back e a) ∙ ap unpacked_event h ∙ event_back f b

-- a refusal is packed as nothing is, under any number; so an answer is packed as what it says
pub packed_refused : (n : ℕ) → packed_event (refused n) ≡ 0
unfolding packed_event
packed_refused n = refl

pub packed_says : (a : Result Event Refusal) → packed_answer a ≡ packed_event (answer_says a)
packed_says (Ok e) = refl
packed_says (Err r) = sym (packed_refused (number_of r))
