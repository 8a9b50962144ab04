-- A fresh reader and one step, in numbers and bytes.
use Rattle.std.specs.Prelude.{ℕ, cond, not, ◌&&◌, List, [], ◌∷◌, eqb, ltb, negsuc}
use Rattle.std.proofs.Math.Option.{Option, none, some}
use Rattle.refusal.specs.Order.{Check, check, outcome}
use Rattle.character_rules.specs.Answers.{Reading, clean, wrong_disparity, invalid, not_read}
use Rattle.packet_rules.specs.Answers.{Said, Answer}
use Rattle.packet_rules.specs.declared.Reader.{Reader}
use Rattle.packet_rules.specs.Step.{refused_step, step_of}
use Rattle.events_rules.specs.Numbers.{event_in, value_in, segment_in}
use Rattle.host_rules.specs.Numbers.{or_old, stands}
use Rattle.host_rules.specs.Answers.{Told}
use Rattle.host_rules.specs.Characters.{symbol_of}
use Rattle.host_rules.specs.ReaderBytes.{reader_bytes, reader_in, is_reader}

-- ---- a step

-- the character result: the violation of reading it (0 clean, 1 invalid, 2 wrong disparity), the byte and the mark. An invalid one has no symbol.
-- The step does not look at the new disparity; −1 stands for it.
unfoldable pub result_of : ℕ → ℕ → ℕ → Reading
result_of violation byte control =
    cond (eqb violation 0) (clean (symbol_of byte control) (negsuc 0))
    (cond (eqb violation 2) (wrong_disparity (symbol_of byte control) (negsuc 0)) (invalid (negsuc 0)))

-- refusal 1: bytes that encode no state, a violation over 2, and a symbol's byte over 255
unfoldable pub number_checks : List ℕ → ℕ → ℕ → List Check
number_checks bytes violation byte =
    check 1 (not (is_reader bytes)) ∷ check 1 (ltb 2 violation) ∷ check 1 (not (eqb violation 1) && ltb 255 byte) ∷ []

-- the same of the character result alone, whatever the state
unfoldable pub numbers_read : ℕ → ℕ → ℕ → Reading
numbers_read violation byte control =
    outcome (check 1 (ltb 2 violation) ∷ check 1 (not (eqb violation 1) && ltb 255 byte) ∷ []) not_read
    (result_of violation byte control)

unfoldable pub step_numbers : List ℕ → ℕ → ℕ → ℕ → Answer
step_numbers bytes violation byte control =
    outcome (number_checks bytes violation byte) (refused_step (reader_in bytes))
    (step_of (reader_in bytes) (result_of violation byte control))

-- the bytes after it: of the state that it goes to, and as they stood where it is refused
unfoldable pub step_leaves : List ℕ → ℕ → ℕ → ℕ → List ℕ
step_leaves bytes violation byte control =
    let answer = step_numbers bytes violation byte control in
    stands (or_old answer.said.refusal 0) bytes (reader_bytes answer.reader)

-- ---- what it says, in numbers

unfoldable pub told_of : Said → Told
told_of s = record { refusal = or_old s.refusal 0; event = event_in s; value = value_in s; number = segment_in s }

-- ---- a fresh reader

abbrev pub bytes_made : Option Reader → Option (List ℕ)
bytes_made none = none
bytes_made (some r) = some (reader_bytes r)
