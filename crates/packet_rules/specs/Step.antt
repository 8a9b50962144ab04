-- What the reader answers to one character result, and the state it goes to.
use Rattle.std.specs.Prelude.{ℕ, ◌-◌, ◌/◌, ◌%◌, Bool, true, false, cond, not, ◌&&◌, List, [], ◌∷◌, eqb, ltb, leb, ℤ, Some, None, Result, Ok, Err}
use Rattle.std.proofs.Math.Option.{Option, none, some}
use Rattle.refusal.specs.Order.{Check, check, outcome}
use Rattle.symbol.specs.Symbols.{is_symbol}
use Rattle.symbol.specs.declared.Symbol.{Symbol}
use Rattle.character_rules.specs.declared.Decoded.{Decoded}
use Rattle.character_rules.specs.Answers.{Reading, decoded_says}
use Rattle.crc.specs.Crc16.{crc_start}
use Rattle.packet_rules.specs.declared.Opener.{Opener}
use Rattle.packet_rules.specs.declared.Opener.TheVariants.{Sdp, Spp, Slp}
use Rattle.packet_rules.specs.declared.Kind.{Kind}
use Rattle.packet_rules.specs.declared.Kind.TheVariants.{Data, Idl, Com, Opens, Closes, NoPlace, Unsupported}
use Rattle.packet_rules.specs.Open.{OpenData, OpenPriority, open_data, open_priority}
use Rattle.packet_rules.specs.declared.Due.{Due}
use Rattle.packet_rules.specs.declared.Due.TheVariants.{Channel, Opening, Closing, FirstCrc, SecondCrc, LmpType, LmpNumber, LmpCheck}
use Rattle.packet_rules.specs.declared.Phase.{Phase}
use Rattle.packet_rules.specs.declared.Phase.TheVariants.{Free, Next, Idles, Dropping}
use Rattle.packet_rules.specs.declared.Reader.{Reader}
use Rattle.packet_rules.specs.Answers.{Said, nothing, started, gave_byte, ended, replied, violated, refused, Answer}
use Rattle.packet_rules.specs.State.{outside, fed_priority, fed_data, well_formed}
use Rattle.packet_rules.specs.Symbols.{kind_of}
use Rattle.packet_rules.specs.Violations.{violation_of}

abbrev pub answer : Said → OpenData → OpenPriority → Phase → Reader → Answer
answer said d p w r = record { said = said; reader = record { size = r.size; packet = d; priority = p; phase = w } }

-- ---- a symbol in its place, where no sequence is begun

-- user bytes are given as they come; outside packets D0.0 is fill and is dropped
abbrev pub user_byte : OpenData → OpenPriority → ℕ → Reader → Answer
user_byte d p b r = answer (cond (outside d p) nothing (gave_byte b)) (fed_data d p b) (fed_priority p b) Free r

-- what comes after a symbol that opens
abbrev pub due_after : Opener → Due
due_after Sdp = Channel
due_after Spp = Opening
due_after Slp = LmpType

abbrev pub free_move : Kind → Reader → Answer
free_move (Data b) r = user_byte r.packet r.priority b r
free_move Idl r = answer nothing r.packet r.priority Free r
free_move Com r = answer nothing r.packet r.priority (Idles 3) r
free_move (Opens o) r = answer nothing r.packet r.priority (Next (due_after o)) r
free_move (Closes bad) r = answer nothing r.packet r.priority (Next (Closing bad)) r
free_move NoPlace r = answer nothing r.packet r.priority Free r
free_move Unsupported r = answer nothing r.packet r.priority Free r

-- ---- the byte that is due

-- the packet to which an end belongs is closed
abbrev pub closes_own : Said → OpenPriority → Reader → Answer
closes_own said (Some inner) r = answer said r.packet None Free r
closes_own said None r = answer said None None Free r

-- type 2 is retry: parameter 0 is ACK, 1 NACK; a nonzero reserved field, another type or another parameter is dropped
abbrev pub lmp_said : ℕ → ℕ → Said
lmp_said t n = cond (eqb (t / 16) 2 && (ltb (t % 16) 2 && eqb (n / 16) 0)) (replied (eqb (t % 16) 1) (n % 16)) nothing

-- a start comes at the channel byte (the byte after SPP), an end at the second CRC byte, an LMP at its check byte
abbrev pub due_move : Due → ℕ → Reader → Answer
due_move Channel b r = answer (started b none) (open_data b false crc_start) r.priority Free r
due_move Opening b r = answer (started (b % 16) (some (b / 16))) r.packet (open_priority b 0 crc_start) Free r
due_move (Closing bad) b r = answer nothing r.packet r.priority (Next (FirstCrc bad)) r
due_move (FirstCrc bad) b r = answer nothing r.packet r.priority (Next (SecondCrc bad b)) r
due_move (SecondCrc bad a) b r = closes_own (ended bad) r.priority r
due_move LmpType b r = answer nothing r.packet r.priority (Next (LmpNumber b)) r
due_move (LmpNumber t) b r = answer nothing r.packet r.priority (Next (LmpCheck t b)) r
due_move (LmpCheck t n) b r = answer (lmp_said t n) r.packet r.priority Free r

-- the byte of a data symbol
abbrev pub byte_of : Kind → ℕ
byte_of (Data b) = b
byte_of Idl = 0
byte_of Com = 0
byte_of (Opens o) = 0
byte_of (Closes bad) = 0
byte_of NoPlace = 0
byte_of Unsupported = 0

-- ---- a symbol in its place, in each phase

-- COM is followed by three IDL
abbrev pub idles_after : ℕ → Phase
idles_after n = cond (leb n 1) Free (Idles (n - 1))

abbrev pub move : Phase → Kind → Reader → Answer
move Free k r = free_move k r
move (Next due) k r = due_move due (byte_of k) r
move (Idles n) k r = answer nothing r.packet r.priority (idles_after n) r
move Dropping k r = answer nothing r.packet r.priority Dropping r

-- ---- a violation

-- 7 closes nothing; 6 closes the packet it belongs to; every other one closes all open packets, and the reader then drops
unfoldable pub broken : ℕ → Reader → Answer
broken n r =
    cond (eqb n 7) (answer (violated n) r.packet r.priority Free r)
    (cond (eqb n 6) (closes_own (violated n) r.priority r)
    (answer (violated n) None None Dropping r))

-- ---- dropping: no event until a clean SDP, SPP or SLP

abbrev pub awakens : Kind → Phase
awakens (Data b) = Dropping
awakens Idl = Dropping
awakens Com = Dropping
awakens (Opens o) = Next (due_after o)
awakens (Closes bad) = Dropping
awakens NoPlace = Dropping
awakens Unsupported = Dropping

unfoldable pub dropped : Reading → Kind → Reader → Answer
dropped g k r = answer nothing r.packet r.priority (cond (eqb g.violation 0) (awakens k) Dropping) r

abbrev pub is_dropping : Phase → Bool
is_dropping Free = false
is_dropping (Next due) = false
is_dropping (Idles n) = false
is_dropping Dropping = true

-- ---- THE STEP

abbrev pub judged : ℕ → Kind → Reader → Answer
judged n k r = cond (eqb n 0) (move r.phase k r) (broken n r)

unfoldable pub read_of : Reader → Reading → Kind → Answer
read_of r g k = cond (is_dropping r.phase) (dropped g k r) (judged (violation_of r g k) k r)

-- an invalid result has no symbol, and nothing beside it is looked at
abbrev pub kind_in : Option Symbol → Kind
kind_in none = NoPlace
kind_in (some s) = kind_of s

abbrev pub symbol_in : Option Symbol → Bool
symbol_in none = true
symbol_in (some s) = is_symbol s

-- every character result has a new disparity; a character that was refused has none
abbrev pub is_result : Option ℤ → Bool
is_result none = false
is_result (some d) = true

-- refusal 1: a state that breaks its rule; what is no character result; a control symbol that is none of the twelve
abbrev pub step_checks : Reader → Reading → List Check
step_checks r g = check 1 (not (well_formed r)) ∷ check 1 (not (is_result g.disparity)) ∷ check 1 (not (symbol_in g.symbol)) ∷ []

abbrev pub refused_step : Reader → ℕ → Answer
refused_step r n = record { said = refused n; reader = r }

unfoldable pub step_of : Reader → Reading → Answer
step_of r g = outcome (step_checks r g) (refused_step r) (read_of r g (kind_in g.symbol))

-- of a character result that may itself have been refused: refusal 1, whatever refused it
abbrev pub step_with : {E : Type 0} → Reader → Result Decoded E → Answer
step_with r (Ok g) = step_of r (decoded_says g)
step_with r (Err e) = refused_step r 1
