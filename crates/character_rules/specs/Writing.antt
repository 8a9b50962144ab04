-- What writing a symbol comes to: refusal 1 for a number that is no disparity, 3 for a control byte that is not writable.
use Rattle.std.specs.Prelude.{ℕ, not, List, [], ◌∷◌, ◌++◌, map, ltb, ℤ, length, drop}
use Rattle.refusal.specs.Order.{Check, check, outcome, left}
use Rattle.symbol.specs.Symbols.{is_writable, data_symbol}
use Rattle.symbol.specs.declared.Symbol.{Symbol}
use Rattle.character_rules.specs.Disparity.{is_disparity}
use Rattle.character_rules.specs.Blocks.{character, closing}
use Rattle.character_rules.specs.Answers.{Writing, written, not_written, RunWriting, run_written, not_run_written}

unfoldable pub writing : Symbol → ℤ → Writing
writing s d =
    outcome (check 1 (not (is_disparity d)) ∷ check 3 (not (is_writable s)) ∷ []) not_written
    (written (character s d) (closing s d))

-- ---- symbols, each written at the disparity that the one before it closed at

unfoldable pub characters_of : List Symbol → ℤ → List ℕ
characters_of [] d = []
characters_of (s ∷ ss) d = character s d ∷ characters_of ss (closing s d)

unfoldable pub closing_of : List Symbol → ℤ → ℤ
closing_of [] d = d
closing_of (s ∷ ss) d = closing_of ss (closing s d)

-- ---- a run of data bytes

abbrev pub run_characters : List ℕ → ℤ → List ℕ
run_characters bs d = characters_of (map data_symbol bs) d

abbrev pub run_end : List ℕ → ℤ → ℤ
run_end bs d = closing_of (map data_symbol bs) d

-- refusal 1: no disparity; 6: the output is shorter than the run
abbrev pub write_checks : List ℕ → ℤ → ℕ → List Check
write_checks bs d room = check 1 (not (is_disparity d)) ∷ check 6 (ltb room (length bs)) ∷ []

unfoldable pub run_writing : List ℕ → ℤ → ℕ → RunWriting
run_writing bs d room = outcome (write_checks bs d room) not_run_written (run_written (run_end bs d))

-- what the lent output holds afterwards
unfoldable pub run_stored : List ℕ → ℤ → List ℕ → List ℕ
run_stored bs d out = left (write_checks bs d (length out)) out (run_characters bs d ++ drop (length bs) out)
