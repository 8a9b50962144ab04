-- What the answers say, in document 01's numbers and values.
use Rattle.std.specs.Prelude.{ℕ, ℤ, Result, Ok, Err}
use Rattle.std.proofs.Math.Option.{Option, none, some}
use Rattle.symbol.specs.declared.Symbol.{Symbol}
use Rattle.refusal.specs.declared.Refusal.{Refusal}
use Rattle.refusal.specs.Order.{number_of}
use Rattle.character_rules.specs.declared.Encoded.{Encoded}
use Rattle.character_rules.specs.declared.Decoded.{Decoded}
use Rattle.character_rules.specs.declared.Decoded.TheVariants.{Clean, WrongDisparity, Invalid}

-- of writing: the refusal's number (0: none), the character, the closing disparity
pub record Writing : Type 0 where
  pub refusal : ℕ
  pub character : Option ℕ
  pub disparity : Option ℤ

abbrev pub written : ℕ → ℤ → Writing
written c d = record { refusal = 0; character = some c; disparity = some d }

abbrev pub not_written : ℕ → Writing
not_written n = record { refusal = n; character = none; disparity = none }

abbrev pub writing_says : Result Encoded Refusal → Writing
writing_says (Ok w) = written w.character w.disparity
writing_says (Err r) = not_written (number_of r)

-- of reading: the refusal's number, the violation's (0: clean, 1: invalid, 2: wrong disparity), the symbol, the new disparity
pub record Reading : Type 0 where
  pub refusal : ℕ
  pub violation : ℕ
  pub symbol : Option Symbol
  pub disparity : Option ℤ

abbrev pub clean : Symbol → ℤ → Reading
clean s d = record { refusal = 0; violation = 0; symbol = some s; disparity = some d }

abbrev pub wrong_disparity : Symbol → ℤ → Reading
wrong_disparity s d = record { refusal = 0; violation = 2; symbol = some s; disparity = some d }

abbrev pub invalid : ℤ → Reading
invalid d = record { refusal = 0; violation = 1; symbol = none; disparity = some d }

abbrev pub not_read : ℕ → Reading
not_read n = record { refusal = n; violation = 0; symbol = none; disparity = none }

abbrev pub decoded_says : Decoded → Reading
decoded_says (Clean s d) = clean s d
decoded_says (WrongDisparity s d) = wrong_disparity s d
decoded_says (Invalid d) = invalid d

abbrev pub reading_says : Result Decoded Refusal → Reading
reading_says (Ok d) = decoded_says d
reading_says (Err r) = not_read (number_of r)

-- of reading a run: the refusal's number, the disparity after it
pub record RunReading : Type 0 where
  pub refusal : ℕ
  pub disparity : Option ℤ

abbrev pub run_read : ℤ → RunReading
run_read d = record { refusal = 0; disparity = some d }

abbrev pub not_run_read : ℕ → RunReading
not_run_read n = record { refusal = n; disparity = none }

abbrev pub run_says : Result ℤ Refusal → RunReading
run_says (Ok d) = run_read d
run_says (Err r) = not_run_read (number_of r)

-- of writing a run: the refusal's number, the disparity after it
pub record RunWriting : Type 0 where
  pub refusal : ℕ
  pub disparity : Option ℤ

abbrev pub run_written : ℤ → RunWriting
run_written d = record { refusal = 0; disparity = some d }

abbrev pub not_run_written : ℕ → RunWriting
not_run_written n = record { refusal = n; disparity = none }

abbrev pub run_written_says : Result ℤ Refusal → RunWriting
run_written_says (Ok d) = run_written d
run_written_says (Err r) = not_run_written (number_of r)
