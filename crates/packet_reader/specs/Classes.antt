-- How the code begins a step: by the character result, then by the kind of its symbol. Proved equal to the rules in proofs/Agree.antt.
use Rattle.std.specs.Prelude.{cond, Option, Some, None, Result, Ok, Err}
use Rattle.refusal.specs.declared.Refusal.{Refusal}
use Rattle.refusal.specs.declared.Refusal.TheVariants.{OutOfRange}
use Rattle.refusal.specs.Order.{number_of}
use Rattle.symbol.specs.Symbols.{is_symbol}
use Rattle.symbol.specs.declared.Symbol.{Symbol}
use Rattle.character_rules.specs.declared.Decoded.{Decoded}
use Rattle.character_rules.specs.declared.Decoded.TheVariants.{Clean, WrongDisparity, Invalid}
use Rattle.packet_rules.specs.declared.Kind.{Kind}
use Rattle.packet_rules.specs.declared.Event.{Event}
use Rattle.packet_rules.specs.declared.Event.TheVariants.{Nothing}
use Rattle.packet_rules.specs.declared.Violation.{Violation}
use Rattle.packet_rules.specs.declared.Violation.TheVariants.{Invalid as NoCharacter, WrongDisparity as OtherDisparity}
use Rattle.packet_rules.specs.declared.Reader.{Reader}
use Rattle.packet_rules.specs.declared.Step.{Step}
use Rattle.packet_rules.specs.Answers.{Answer, violation_number, step_says}
use Rattle.packet_rules.specs.Step.{refused_step}
use Rattle.packet_rules.specs.Symbols.{kind_of}
use Rattle.packet_rules.specs.declared.Phase.{Phase}
use Rattle.packet_rules.specs.declared.Phase.TheVariants.{Free, Next, Idles, Dropping}
use Rattle.packet_answers.specs.Answers.{moved_to, violated_to}
use Rattle.packet_turns.specs.Turns.{free_of}
use Rattle.packet_sequences.specs.Sequences.{seq_of}
use Rattle.packet_idles.specs.Idles.{idle_of, drop_of}

unfoldable pub class_of : Symbol → Option Kind
class_of s = cond (is_symbol s) (Some (kind_of s)) None

unfoldable pub clean_of : Phase → Kind → Reader → Step
clean_of Free k r = free_of k r
clean_of (Next due) k r = seq_of due k r
clean_of (Idles n) k r = idle_of n k r
clean_of Dropping k r = drop_of k r

abbrev pub spoiled_of : Violation → Phase → Reader → Step
spoiled_of v Free r = violated_to (violation_number v) r
spoiled_of v (Next due) r = violated_to (violation_number v) r
spoiled_of v (Idles i) r = violated_to (violation_number v) r
spoiled_of v Dropping r = moved_to Nothing Dropping r

abbrev pub known_of : Option Kind → (Kind → Step) → Result Step Refusal
known_of (Some k) f = Ok (f k)
known_of None f = Err OutOfRange

unfoldable pub advance_of : Reader → Decoded → Result Step Refusal
advance_of r (Clean s d) = known_of (class_of s) (λ k. clean_of r.phase k r)
advance_of r (WrongDisparity s d) = known_of (class_of s) (λ k. spoiled_of OtherDisparity r.phase r)
advance_of r (Invalid d) = Ok (spoiled_of NoCharacter r.phase r)

-- what a step that may be refused gives, and the state that it leaves: a refusal leaves the state as it was
abbrev pub event_of : Result Step Refusal → Result Event Refusal
event_of (Ok s) = Ok s.event
event_of (Err e) = Err e

abbrev pub reader_of : Reader → Result Step Refusal → Reader
reader_of r (Ok s) = s.reader
reader_of r (Err e) = r

-- of a result that may itself be refused, by whatever
abbrev pub tried_of : {E : Type 0} → Reader → Result Decoded E → Result Step Refusal
tried_of r (Ok g) = advance_of r g
tried_of r (Err e) = Err OutOfRange

-- in document 01's words
abbrev pub answered : Reader → Result Step Refusal → Answer
answered r (Ok s) = step_says s
answered r (Err e) = refused_step r (number_of e)
