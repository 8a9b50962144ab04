-- How the code goes about a symbol where a sequence is begun: by the symbol's kind, then by what is due.
-- Proved equal to the rules in packet_reader/proofs/Agree.antt.
use Rattle.std.specs.Prelude.{ℕ, true, false, cond, ltb, eqb}
use Rattle.std.specs.Int.Bits.{bit_xor}
use Rattle.packet_rules.specs.declared.Kind.{Kind}
use Rattle.packet_rules.specs.declared.Kind.TheVariants.{Data, Idl, Com, Opens, Closes, NoPlace, Unsupported}
use Rattle.packet_rules.specs.declared.Due.{Due}
use Rattle.packet_rules.specs.declared.Due.TheVariants.{Channel, Opening, Closing, FirstCrc, SecondCrc, LmpType, LmpNumber, LmpCheck}
use Rattle.packet_rules.specs.declared.Phase.TheVariants.{Free, Next}
use Rattle.packet_rules.specs.declared.Event.{Event}
use Rattle.packet_rules.specs.declared.Event.TheVariants.{Nothing, Lmp, Violation as Violates}
use Rattle.packet_rules.specs.declared.Violation.TheVariants.{Unsupported as NoSymbol, OutOfPlace, Channel as WrongChannel, LmpCheck as WrongCheck}
use Rattle.packet_rules.specs.declared.Reader.{Reader}
use Rattle.packet_rules.specs.declared.Step.{Step}
use Rattle.packet_rules.specs.Answers.{violation_number}
use Rattle.packet_rules.specs.State.{opening_byte}
use Rattle.packet_answers.specs.Answers.{moved_to, violated_to, closed_to, started_data, started_priority}
use Rattle.packet_ends.specs.Ends.{end_of}

-- ---- the byte that a begun sequence is due

abbrev pub lmp_of : ℕ → ℕ → Event
lmp_of t n = cond (ltb n 16) (cond (eqb t 0x20) (Lmp false n) (cond (eqb t 0x21) (Lmp true n) Nothing)) Nothing

unfoldable pub due_of : Due → ℕ → Reader → Step
due_of Channel b r = started_data b r
due_of Opening b r = started_priority b r
due_of (Closing bad) b r = cond (eqb b (opening_byte r.packet r.priority)) (moved_to Nothing (Next (FirstCrc bad)) r) (violated_to (violation_number WrongChannel) r)
due_of (FirstCrc bad) b r = moved_to Nothing (Next (SecondCrc bad b)) r
due_of (SecondCrc bad a) b r = closed_to (end_of r.packet r.priority bad a b) r r.priority
due_of LmpType b r = moved_to Nothing (Next (LmpNumber b)) r
due_of (LmpNumber t) b r = moved_to Nothing (Next (LmpCheck t b)) r
due_of (LmpCheck t n) b r = moved_to (cond (eqb b (bit_xor t n)) (lmp_of t n) (Violates (violation_number WrongCheck))) Free r

unfoldable pub seq_of : Due → Kind → Reader → Step
seq_of due (Data b) r = due_of due b r
seq_of due Idl r = violated_to (violation_number OutOfPlace) r
seq_of due Com r = violated_to (violation_number OutOfPlace) r
seq_of due (Opens o) r = violated_to (violation_number OutOfPlace) r
seq_of due (Closes bad) r = violated_to (violation_number OutOfPlace) r
seq_of due NoPlace r = violated_to (violation_number OutOfPlace) r
seq_of due Unsupported r = violated_to (violation_number NoSymbol) r
