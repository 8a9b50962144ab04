-- The violation that the code's way through a step gives is one of the ten, in a state that breaks the rule, too.
-- Assumes nothing.
use mathlib.Core.Path.{◌≡◌, refl}
use mathlib.Core.Bool.{Bool, true, false}
use mathlib.Core.Option.{none, some-injective}
use Prim.Native.Nat.{ℕ, ◌/◌, ◌%◌}
use lib.Bits.{bit_xor}
use lib.Dec.{eqb, ltb, leb}
use Rattle.std.specs.Prelude.{Option, Some, None, Result, Ok, Err}
use Rattle.refusal.specs.declared.Refusal.{Refusal}
use Rattle.character_rules.specs.declared.Decoded.{Decoded}
use Rattle.character_rules.specs.declared.Decoded.TheVariants.{Clean, WrongDisparity, Invalid}
use Rattle.packet_rules.specs.Open.{OpenData, OpenPriority}
use Rattle.packet_rules.specs.declared.Kind.{Kind}
use Rattle.packet_rules.specs.declared.Kind.TheVariants.{Data, Idl, Com, Opens, Closes, NoPlace, Unsupported}
use Rattle.packet_rules.specs.declared.Due.{Due}
use Rattle.packet_rules.specs.declared.Due.TheVariants.{Channel, Opening, Closing, FirstCrc, SecondCrc, LmpType, LmpNumber, LmpCheck}
use Rattle.packet_rules.specs.declared.Phase.{Phase}
use Rattle.packet_rules.specs.declared.Phase.TheVariants.{Free, Next, Idles, Dropping}
use Rattle.packet_rules.specs.declared.Event.{Event}
use Rattle.packet_rules.specs.declared.Event.TheVariants.{Nothing, StartData, StartPriority, Byte, End, Lmp, Violation as Violates}
use Rattle.packet_rules.specs.declared.Violation.{Violation}
use Rattle.packet_rules.specs.declared.Violation.TheVariants.{Invalid as NoCharacter, WrongDisparity as OtherDisparity, Unsupported as NoSymbol, OutOfPlace, Channel as WrongChannel, Crc, LmpCheck as WrongCheck, NoByte, Outside, TooLong}
use Rattle.packet_rules.specs.declared.Reader.{Reader}
use Rattle.packet_rules.specs.declared.Step.{Step}
use Rattle.packet_rules.specs.Answers.{refused, violation_number, OneOfTen, event_says, answer_says}
use Rattle.packet_rules.specs.State.{outside, has_byte, opening_byte, register_in}
use Rattle.packet_rules.specs.Violations.{right_crc}
use Rattle.packet_rules.specs.Step.{due_after}
use Rattle.packet_rules.proofs.Choice.{either}
use Rattle.packet_rules.proofs.Violated.{silent_one_of_ten}
use Rattle.packet_answers.specs.Answers.{moved_to, violated_to, closed_to}
use Rattle.packet_turns.specs.Turns.{byte_in, end_in, may_start, free_of}
use Rattle.packet_sequences.specs.Sequences.{lmp_of, due_of, seq_of}
use Rattle.packet_idles.specs.Idles.{idle_of, drop_of}
use Rattle.packet_reader.specs.Classes.{class_of, clean_of, spoiled_of, known_of, advance_of, event_of, tried_of}

abbrev Ten : Event → Type 0
Ten e = OneOfTen (event_says e)

abbrev Gives : Step → Type 0
Gives s = Ten s.event

violates : (v : Violation) → Ten (Violates (violation_number v))
violates v n e = (v, some-injective _ _ e)

silent : (e : Event) → (event_says e).violation ≡ none → Ten e
silent e h = silent_one_of_ten (event_says e) h

module _ (r : Reader) where
  breaks : (v : Violation) → Gives (violated_to (violation_number v) r)
  breaks v = violates v

  moves : (w : Phase) → Gives (moved_to Nothing w r)
  moves w = silent Nothing refl

  closes : (e : Event) (p : OpenPriority) → Ten e → Gives (closed_to e r p)
  closes e (Some inner) h = h
  closes e None h = h

  user_byte : (d : OpenData) (p : OpenPriority) (b : ℕ) → Gives (byte_in d p b r)
  user_byte d (Some inner) b =
      either Gives (leb r.size inner.count) _ _ (λ e. breaks TooLong) (λ e. silent (Byte b) refl)
  user_byte (Some outer) None b = silent (Byte b) refl
  user_byte None None b =
      either Gives (eqb b 0) (moved_to Nothing Free r) (violated_to (violation_number Outside) r) (λ e. moves Free) (λ e. breaks Outside)

  ends : (d : OpenData) (p : OpenPriority) (bad : Bool) → Gives (end_in d p bad r)
  ends d p bad =
      either Gives (outside d p) _ _ (λ e. breaks OutOfPlace)
      (λ e. either Gives (has_byte d p) _ _ (λ f. moves (Next (Closing bad))) (λ f. breaks NoByte))

  pub free_one_of_ten : (k : Kind) → OneOfTen (event_says (free_of k r).event)
  unfolding free_of
  free_one_of_ten (Data b) = user_byte r.packet r.priority b
  free_one_of_ten Idl = moves Free
  free_one_of_ten Com = moves (Idles 3)
  free_one_of_ten (Opens o) =
      either Gives (may_start o r.packet r.priority) _ _ (λ e. moves (Next (due_after o))) (λ e. breaks OutOfPlace)
  free_one_of_ten (Closes bad) = ends r.packet r.priority bad
  free_one_of_ten NoPlace = breaks OutOfPlace
  free_one_of_ten Unsupported = breaks NoSymbol

  replies : (t n : ℕ) → Ten (lmp_of t n)
  replies t n =
      either Ten (ltb n 16) _ Nothing
      (λ e. either Ten (eqb t 0x20) (Lmp false n) _ (λ f. silent (Lmp false n) refl)
      (λ f. either Ten (eqb t 0x21) (Lmp true n) Nothing (λ g. silent (Lmp true n) refl) (λ g. silent Nothing refl)))
      (λ e. silent Nothing refl)

  byte_due : (due : Due) (b : ℕ) → Gives (due_of due b r)
  unfolding due_of
  byte_due Channel b = silent (StartData b) refl
  byte_due Opening b = silent (StartPriority (b % 16) (b / 16)) refl
  byte_due (Closing bad) b =
      either Gives (eqb b (opening_byte r.packet r.priority)) _ _ (λ e. moves (Next (FirstCrc bad))) (λ e. breaks WrongChannel)
  byte_due (FirstCrc bad) b = moves (Next (SecondCrc bad b))
  byte_due (SecondCrc bad a) b =
      closes _ r.priority
      (either Ten (right_crc (register_in r.packet r.priority) a b) (End bad) (Violates (violation_number Crc)) (λ e. silent (End bad) refl) (λ e. violates Crc))
  byte_due LmpType b = moves (Next (LmpNumber b))
  byte_due (LmpNumber t) b = moves (Next (LmpCheck t b))
  byte_due (LmpCheck t n) b =
      either Ten (eqb b (bit_xor t n)) (lmp_of t n) (Violates (violation_number WrongCheck)) (λ e. replies t n) (λ e. violates WrongCheck)

  pub sequence_one_of_ten : (due : Due) (k : Kind) → OneOfTen (event_says (seq_of due k r).event)
  unfolding seq_of
  sequence_one_of_ten due (Data b) = byte_due due b
  sequence_one_of_ten due Idl = breaks OutOfPlace
  sequence_one_of_ten due Com = breaks OutOfPlace
  sequence_one_of_ten due (Opens o) = breaks OutOfPlace
  sequence_one_of_ten due (Closes bad) = breaks OutOfPlace
  sequence_one_of_ten due NoPlace = breaks OutOfPlace
  sequence_one_of_ten due Unsupported = breaks NoSymbol

  pub idles_one_of_ten : (n : ℕ) (k : Kind) → OneOfTen (event_says (idle_of n k r).event)
  unfolding idle_of
  idles_one_of_ten n (Data b) = breaks OutOfPlace
  idles_one_of_ten n Idl = silent Nothing refl
  idles_one_of_ten n Com = breaks OutOfPlace
  idles_one_of_ten n (Opens o) = breaks OutOfPlace
  idles_one_of_ten n (Closes bad) = breaks OutOfPlace
  idles_one_of_ten n NoPlace = breaks OutOfPlace
  idles_one_of_ten n Unsupported = breaks NoSymbol

  pub dropping_one_of_ten : (k : Kind) → OneOfTen (event_says (drop_of k r).event)
  unfolding drop_of
  dropping_one_of_ten (Data b) = silent Nothing refl
  dropping_one_of_ten Idl = silent Nothing refl
  dropping_one_of_ten Com = silent Nothing refl
  dropping_one_of_ten (Opens o) = silent Nothing refl
  dropping_one_of_ten (Closes bad) = silent Nothing refl
  dropping_one_of_ten NoPlace = silent Nothing refl
  dropping_one_of_ten Unsupported = silent Nothing refl

  cleans : (w : Phase) (k : Kind) → Gives (clean_of w k r)
  unfolding clean_of
  cleans Free k = free_one_of_ten k
  cleans (Next due) k = sequence_one_of_ten due k
  cleans (Idles n) k = idles_one_of_ten n k
  cleans Dropping k = dropping_one_of_ten k

  spoils : (v : Violation) (w : Phase) → Gives (spoiled_of v w r)
  spoils v Free = violates v
  spoils v (Next due) = violates v
  spoils v (Idles n) = violates v
  spoils v Dropping = silent Nothing refl

  abbrev Answers : Result Step Refusal → Type 0
  Answers a = OneOfTen (answer_says (event_of a))

  knows : (c : Option Kind) (f : Kind → Step) → ((k : Kind) → Gives (f k)) → Answers (known_of c f)
  knows (Some k) f h = h k
  knows None f h = silent_one_of_ten (refused 1) refl

  advances : (g : Decoded) → Answers (advance_of r g)
  unfolding advance_of
  advances (Clean s d) = knows (class_of s) (λ k. clean_of r.phase k r) (λ k. cleans r.phase k)
  advances (WrongDisparity s d) = knows (class_of s) (λ k. spoiled_of OtherDisparity r.phase r) (λ k. spoils OtherDisparity r.phase)
  advances (Invalid d) = spoils NoCharacter r.phase

-- THE LAW: whatever the state, and whatever refused the result
pub advance_one_of_ten : {E : Type 0} (r : Reader) (g : Result Decoded E) → OneOfTen (answer_says (event_of (tried_of r g)))
advance_one_of_ten r (Ok g) = advances r g
advance_one_of_ten r (Err e) = silent_one_of_ten (refused 1) refl
