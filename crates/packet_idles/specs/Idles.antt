-- How the code goes about a symbol after COM, and while dropping: by its kind. Proved equal to the rules in packet_reader/proofs/Agree.antt.
use Rattle.std.specs.Prelude.{ℕ, ◌-◌, cond, leb}
use Rattle.packet_rules.specs.declared.Kind.{Kind}
use Rattle.packet_rules.specs.declared.Kind.TheVariants.{Data, Idl, Com, Opens, Closes, NoPlace, Unsupported}
use Rattle.packet_rules.specs.declared.Phase.TheVariants.{Free, Next, Idles, Dropping}
use Rattle.packet_rules.specs.declared.Event.TheVariants.{Nothing}
use Rattle.packet_rules.specs.declared.Violation.TheVariants.{Unsupported as NoSymbol, OutOfPlace}
use Rattle.packet_rules.specs.declared.Reader.{Reader}
use Rattle.packet_rules.specs.declared.Step.{Step}
use Rattle.packet_rules.specs.Answers.{violation_number}
use Rattle.packet_rules.specs.Step.{due_after}
use Rattle.packet_answers.specs.Answers.{moved_to, violated_to}

unfoldable pub idle_of : ℕ → Kind → Reader → Step
idle_of i (Data b) r = violated_to (violation_number OutOfPlace) r
idle_of i Idl r = moved_to Nothing (cond (leb i 1) Free (Idles (i - 1))) r
idle_of i Com r = violated_to (violation_number OutOfPlace) r
idle_of i (Opens o) r = violated_to (violation_number OutOfPlace) r
idle_of i (Closes bad) r = violated_to (violation_number OutOfPlace) r
idle_of i NoPlace r = violated_to (violation_number OutOfPlace) r
idle_of i Unsupported r = violated_to (violation_number NoSymbol) r

unfoldable pub drop_of : Kind → Reader → Step
drop_of (Data b) r = moved_to Nothing Dropping r
drop_of Idl r = moved_to Nothing Dropping r
drop_of Com r = moved_to Nothing Dropping r
drop_of (Opens o) r = moved_to Nothing (Next (due_after o)) r
drop_of (Closes bad) r = moved_to Nothing Dropping r
drop_of NoPlace r = moved_to Nothing Dropping r
drop_of Unsupported r = moved_to Nothing Dropping r
