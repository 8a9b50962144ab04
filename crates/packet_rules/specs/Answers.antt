-- What the answers say, in document 01's numbers and values.
use Rattle.std.specs.Prelude.{◌≡◌, ℕ, Bool, Result, Ok, Err}
use Rattle.std.proofs.Math.Option.{Option, none, some}
use Rattle.refusal.specs.declared.Refusal.{Refusal}
use Rattle.refusal.specs.Order.{number_of}
use Rattle.packet_rules.specs.declared.Event.{Event}
use Rattle.packet_rules.specs.declared.Event.TheVariants.{Nothing, StartData, StartPriority, Byte, End, Lmp, Violation as Violates}
use Rattle.packet_rules.specs.declared.Violation.{Violation}
use Rattle.packet_rules.specs.declared.Violation.TheVariants.{Invalid, WrongDisparity, Unsupported, OutOfPlace, Channel, Crc, LmpCheck, NoByte, Outside, TooLong}
use Rattle.packet_rules.specs.declared.Reader.{Reader}
use Rattle.packet_rules.specs.declared.Step.{Step}

-- the channel, and the segment number if priority
pub record Start : Type 0 where
  pub channel : ℕ
  pub segment : Option ℕ

pub record Reply : Type 0 where
  pub nack : Bool
  pub number : ℕ

-- of a step: a refusal's number, a violation's, a start, a byte, an end's mark (true: bad), an LMP. Where there is none of them, nothing.
pub record Said : Type 0 where
  pub refusal : Option ℕ
  pub violation : Option ℕ
  pub start : Option Start
  pub byte : Option ℕ
  pub end : Option Bool
  pub lmp : Option Reply

abbrev pub nothing : Said
nothing = record { refusal = none; violation = none; start = none; byte = none; end = none; lmp = none }

abbrev pub started : ℕ → Option ℕ → Said
started c n = record { refusal = none; violation = none; start = some (record { channel = c; segment = n }); byte = none; end = none; lmp = none }

abbrev pub gave_byte : ℕ → Said
gave_byte b = record { refusal = none; violation = none; start = none; byte = some b; end = none; lmp = none }

abbrev pub ended : Bool → Said
ended bad = record { refusal = none; violation = none; start = none; byte = none; end = some bad; lmp = none }

abbrev pub replied : Bool → ℕ → Said
replied nack n = record { refusal = none; violation = none; start = none; byte = none; end = none; lmp = some (record { nack = nack; number = n }) }

abbrev pub violated : ℕ → Said
violated n = record { refusal = none; violation = some n; start = none; byte = none; end = none; lmp = none }

abbrev pub refused : ℕ → Said
refused n = record { refusal = some n; violation = none; start = none; byte = none; end = none; lmp = none }

-- each violation's number
abbrev pub violation_number : Violation → ℕ
violation_number Invalid = 1
violation_number WrongDisparity = 2
violation_number Unsupported = 3
violation_number OutOfPlace = 4
violation_number Channel = 5
violation_number Crc = 6
violation_number LmpCheck = 7
violation_number NoByte = 8
violation_number Outside = 9
violation_number TooLong = 10

-- a violation that is said is one of the ten
abbrev pub OneOfTen : Said → Type 0
OneOfTen s = (n : ℕ) → s.violation ≡ some n → (v : Violation) × (violation_number v ≡ n)

abbrev pub event_says : Event → Said
event_says Nothing = nothing
event_says (StartData c) = started c none
event_says (StartPriority c n) = started c (some n)
event_says (Byte b) = gave_byte b
event_says (End bad) = ended bad
event_says (Lmp nack n) = replied nack n
event_says (Violates n) = violated n

-- of a step that may be refused
abbrev pub answer_says : Result Event Refusal → Said
answer_says (Ok e) = event_says e
answer_says (Err r) = refused (number_of r)

-- of a step: what it says, and the state it hands back
pub record Answer : Type 0 where
  pub said : Said
  pub reader : Reader

abbrev pub step_says : Step → Answer
step_says s = record { said = event_says s.event; reader = s.reader }

-- of asking for a fresh reader: a refusal's number, or the reader
pub record Made : Type 0 where
  pub refusal : Option ℕ
  pub reader : Option Reader

abbrev pub made : Reader → Made
made r = record { refusal = none; reader = some r }

abbrev pub not_made : ℕ → Made
not_made n = record { refusal = some n; reader = none }

abbrev pub fresh_says : Result Reader Refusal → Made
fresh_says (Ok r) = made r
fresh_says (Err e) = not_made (number_of e)
