-- What writing a symbol given in numbers comes to, by whether the byte is one.
-- Assumes nothing.
use Prim.Native.Nat.{ℕ, ◌≤◌, ◌<◌}
use mathlib.Core.Path.{◌≡◌}
use lib.IntN.{ℤ}
use borrow.Author.Tests.{lt-ltb, le-ltb}
use Rattle.character_rules.specs.Answers.{not_written}
use Rattle.character_rules.specs.Writing.{writing}
use Rattle.host_rules.specs.Characters.{symbol_of, writing_numbers}

module _ (byte control : ℕ) (d : ℤ) where
  pub byte_over : 255 < byte → writing_numbers byte control d ≡ not_written 1
  unfolding writing_numbers
  byte_over h = simp (lt-ltb 255 byte h)

  pub byte_fits : byte ≤ 255 → writing_numbers byte control d ≡ writing (symbol_of byte control) d
  unfolding writing_numbers
  byte_fits h = simp (le-ltb 255 byte h)
