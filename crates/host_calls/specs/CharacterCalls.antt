-- What writing and reading characters comes to for C: the refusal's number, and what all that is lent holds afterwards, given what stood there.
use Rattle.std.specs.Prelude.{ℕ, List, ℤ, length}
use Rattle.character_rules.specs.Reading.{reading}
use Rattle.character_rules.specs.Results.{run_reading, run_output}
use Rattle.host_rules.specs.Numbers.{or_old, Called, called}
use Rattle.host_rules.specs.Characters.{writing_numbers, byte_in, control_in}

pub record Writes : Type 0 where
  pub disparity : ℤ
  pub character : ℕ

-- a symbol, a byte and a mark, is written as a character; the disparity becomes the closing one
unfoldable pub writes : ℕ → ℕ → Writes → Called Writes
writes byte control old =
    let said = writing_numbers byte control old.disparity in
    called said.refusal old
    (record { disparity = or_old said.disparity old.disparity; character = or_old said.character old.character })

pub record Reads : Type 0 where
  pub disparity : ℤ
  pub violation : ℕ
  pub byte : ℕ
  pub control : ℕ

-- a character is read; the disparity becomes the new one. Of an invalid character byte and mark are zeros
unfoldable pub reads : ℕ → Reads → Called Reads
reads character old =
    let said = reading character old.disparity in
    called said.refusal old
    (record {
      disparity = or_old said.disparity old.disparity;
      violation = said.violation;
      byte = byte_in said.symbol;
      control = control_in said.symbol;
    })

pub record ReadsRun : Type 0 where
  pub disparity : ℤ
  pub results : List ℕ

-- a run of characters is read into packed results; the disparity becomes the one after the run
unfoldable pub reads_run : List ℕ → ReadsRun → Called ReadsRun
reads_run characters old =
    let said = run_reading characters old.disparity (length old.results) in
    called said.refusal old
    (record { disparity = or_old said.disparity old.disparity; results = run_output characters old.disparity old.results })
