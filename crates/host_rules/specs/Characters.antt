-- Writing and reading a character, in numbers.
use Rattle.std.specs.Prelude.{ℕ, [], ◌∷◌, ltb, ℤ}
use Rattle.std.proofs.Math.Option.{Option, none, some}
use Rattle.refusal.specs.Order.{check, outcome}
use Rattle.symbol.specs.declared.Symbol.{Symbol}
use Rattle.character_rules.specs.Answers.{Writing, not_written}
use Rattle.character_rules.specs.Writing.{writing}
use Rattle.host_rules.specs.Numbers.{mark_of, mark_number}

abbrev pub symbol_of : ℕ → ℕ → Symbol
symbol_of byte control = record { byte = byte; control = mark_of control }

-- refusal 1: a byte over 255; then what writing that symbol comes to
unfoldable pub writing_numbers : ℕ → ℕ → ℤ → Writing
writing_numbers byte control d =
    outcome (check 1 (ltb 255 byte) ∷ []) not_written (writing (symbol_of byte control) d)

-- a symbol's byte and mark; zeros where there is no symbol
abbrev pub byte_in : Option Symbol → ℕ
byte_in none = 0
byte_in (some s) = s.byte

abbrev pub control_in : Option Symbol → ℕ
control_in none = 0
control_in (some s) = mark_number s.control
