-- How the code goes about a symbol where no sequence is begun: by its kind, then by what is open.
-- Proved equal to the rules in packet_reader/proofs/Agree.antt.
use Rattle.std.specs.Prelude.{ℕ, ◌+◌, Bool, true, cond, leb, eqb, Some, None}
use Rattle.crc.specs.Crc16.{crc_byte}
use Rattle.packet_rules.specs.declared.Opener.{Opener}
use Rattle.packet_rules.specs.declared.Opener.TheVariants.{Sdp, Spp, Slp}
use Rattle.packet_rules.specs.declared.Kind.{Kind}
use Rattle.packet_rules.specs.declared.Kind.TheVariants.{Data, Idl, Com, Opens, Closes, NoPlace, Unsupported}
use Rattle.packet_rules.specs.Open.{OpenData, OpenPriority, open_data, open_priority}
use Rattle.packet_rules.specs.declared.Violation.TheVariants.{Unsupported as NoSymbol, OutOfPlace, NoByte, Outside, TooLong}
use Rattle.packet_rules.specs.declared.Due.TheVariants.{Closing}
use Rattle.packet_rules.specs.declared.Phase.TheVariants.{Free, Next, Idles}
use Rattle.packet_rules.specs.declared.Event.TheVariants.{Nothing, Byte}
use Rattle.packet_rules.specs.declared.Reader.{Reader}
use Rattle.packet_rules.specs.declared.Step.{Step}
use Rattle.packet_rules.specs.Answers.{violation_number}
use Rattle.packet_rules.specs.State.{no_priority, outside, has_byte}
use Rattle.packet_rules.specs.Step.{due_after}
use Rattle.packet_answers.specs.Answers.{to, moved_to, violated_to}

abbrev pub byte_in_data : OpenData → ℕ → Reader → Step
byte_in_data (Some outer) b r = to (Byte b) (open_data outer.channel true (crc_byte outer.register b)) None Free r
byte_in_data None b r = cond (eqb b 0) (moved_to Nothing Free r) (violated_to (violation_number Outside) r)

abbrev pub byte_in : OpenData → OpenPriority → ℕ → Reader → Step
byte_in d (Some inner) b r =
    cond (leb r.size inner.count) (violated_to (violation_number TooLong) r)
    (to (Byte b) d (open_priority inner.opening (inner.count + 1) (crc_byte inner.register b)) Free r)
byte_in d None b r = byte_in_data d b r

abbrev pub end_in : OpenData → OpenPriority → Bool → Reader → Step
end_in d p bad r = cond (outside d p) (violated_to (violation_number OutOfPlace) r) (cond (has_byte d p) (moved_to Nothing (Next (Closing bad)) r) (violated_to (violation_number NoByte) r))

abbrev pub may_start : Opener → OpenData → OpenPriority → Bool
may_start Sdp d p = outside d p
may_start Spp d p = no_priority p
may_start Slp d p = true

unfoldable pub free_of : Kind → Reader → Step
free_of (Data b) r = byte_in r.packet r.priority b r
free_of Idl r = moved_to Nothing Free r
free_of Com r = moved_to Nothing (Idles 3) r
free_of (Opens o) r = cond (may_start o r.packet r.priority) (moved_to Nothing (Next (due_after o)) r) (violated_to (violation_number OutOfPlace) r)
free_of (Closes bad) r = end_in r.packet r.priority bad r
free_of NoPlace r = violated_to (violation_number OutOfPlace) r
free_of Unsupported r = violated_to (violation_number NoSymbol) r
