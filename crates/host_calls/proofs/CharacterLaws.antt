-- Each call on characters by what its answer says: a refusal leaves all as it stood.
-- Assumes nothing.
use Prim.Native.Nat.{ℕ}
use mathlib.Core.Path.{◌≡◌, refl}
use mathlib.Core.List.{List}
use native.Mathlib.Omega.{arith}
use lib.IntN.{ℤ}
use lib.ListN.{length}
use Rattle.symbol.specs.declared.Symbol.{Symbol}
use Rattle.character_rules.specs.Answers.{written, not_written, clean, wrong_disparity, invalid, not_read, run_read, not_run_read}
use Rattle.character_rules.specs.Reading.{reading}
use Rattle.character_rules.specs.Results.{run_reading, run_output}
use Rattle.character_rules.proofs.Laws.{reading_refused}
use Rattle.character_rules.proofs.RunLaws.{run_leaves}
use Rattle.host_rules.specs.Numbers.{mark_number}
use Rattle.host_rules.specs.Characters.{writing_numbers}
use Rattle.host_rules.proofs.Numbers.{done_called, refused_called}
use Rattle.host_calls.specs.CharacterCalls.{Writes, writes, Reads, reads, ReadsRun, reads_run}
use Rattle.host_calls.proofs.Same.{same_called}

module _ (byte control : ℕ) (old : Writes) where
  pub write_done : (c : ℕ) (d : ℤ) → written c d ≡ writing_numbers byte control old.disparity
      → writes byte control old ≡ record { refusal = 0; lent = record { disparity = d; character = c } }
  unfolding writes
  write_done c d e = rw (← e) (done_called _ _ _ refl)

  pub write_refused : (n : ℕ) → not_written n ≡ writing_numbers byte control old.disparity → writes byte control old ≡ record { refusal = n; lent = old }
  unfolding writes
  write_refused n e = rw (← e) (same_called n old)

module _ (character : ℕ) (old : Reads) where
  pub read_clean :
      (s : Symbol) (d : ℤ) → clean s d ≡ reading character old.disparity
      → reads character old ≡ record { refusal = 0; lent = record { disparity = d; violation = 0; byte = s.byte; control = mark_number s.control } }
  unfolding reads
  read_clean s d e = rw (← e) (done_called _ _ _ refl)

  pub read_wrong :
      (s : Symbol) (d : ℤ) → wrong_disparity s d ≡ reading character old.disparity
      → reads character old ≡ record { refusal = 0; lent = record { disparity = d; violation = 2; byte = s.byte; control = mark_number s.control } }
  unfolding reads
  read_wrong s d e = rw (← e) (done_called _ _ _ refl)

  pub read_invalid :
      (d : ℤ) → invalid d ≡ reading character old.disparity
      → reads character old ≡ record { refusal = 0; lent = record { disparity = d; violation = 1; byte = 0; control = 0 } }
  unfolding reads
  read_invalid d e = rw (← e) (done_called _ _ _ refl)

  pub read_refused : (n : ℕ) → not_read n ≡ reading character old.disparity → reads character old ≡ record { refusal = n; lent = old }
  unfolding reads
  read_refused n e = rw (← e) (refused_called _ _ _ (λ z. let one = reading_refused character old.disparity n e in omega arith))

module _ (characters : List ℕ) (old : ReadsRun) where
  -- the results as the rule says, which on a refusal are as they stood
  abbrev pub results : List ℕ
  results = run_output characters old.disparity old.results

  pub run_done :
      (d : ℤ) → run_read d ≡ run_reading characters old.disparity (length old.results)
      → reads_run characters old ≡ record { refusal = 0; lent = record { disparity = d; results = results } }
  unfolding reads_run
  run_done d e = rw (← e) (done_called _ _ _ refl)

  pub run_refused :
      (n : ℕ) → not_run_read n ≡ run_reading characters old.disparity (length old.results)
      → reads_run characters old ≡ record { refusal = n; lent = record { disparity = old.disparity; results = results } }
  unfolding reads_run
  run_refused n e =
      rw (← e, run_leaves characters old.disparity old.results n e) (same_called n old)
