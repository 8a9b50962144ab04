-- What a half of an entry holds, taken apart: the character, and the disparity that it closes at.
-- Assumes nothing.
use mathlib.Core.Path.{◌≡◌, ◌∙◌, ap}
use Prim.Native.Nat.{ℕ, ◌/◌, ◌%◌, ◌<◌}
use native.Mathlib.Omega.{arith}
use lib.Dec.{T, eqb}
use lib.IntN.{ℤ}
use Rattle.symbol.specs.Symbols.{data_symbol}
use Rattle.character_rules.specs.Disparity.{is_plus, is_disparity, disparity_of}
use Rattle.character_rules.specs.Blocks.{character, closing}
use Rattle.character_rules.specs.Results.{mark}
use Rattle.character_rules.proofs.Disparities.{by_sign, closing_disparity}
use Rattle.character_rules.proofs.Found.{character_range}
use Rattle.character_rules.proofs.Packed.{mark_low, mark_is}
use Rattle.writer_table.specs.Entries.{form}

module _ (b : ℕ) (d : ℤ) (h : b < 256) (t : T (is_disparity d)) where
  range : character (data_symbol b) d < 1024
  range = character_range (data_symbol b) d h tt t

  pub form_character : form (data_symbol b) d % 1024 ≡ character (data_symbol b) d
  form_character = omega (arith, range, mark_low (is_plus (closing (data_symbol b) d)))

  top : form (data_symbol b) d / 1024 ≡ mark (is_plus (closing (data_symbol b) d))
  top = omega (arith, range, mark_low (is_plus (closing (data_symbol b) d)))

  pub form_low : form (data_symbol b) d / 1024 < 2
  form_low = omega (arith, top, mark_low (is_plus (closing (data_symbol b) d)))

  pub form_closing : disparity_of (eqb (form (data_symbol b) d / 1024) 1) ≡ closing (data_symbol b) d
  form_closing =
      ap disparity_of (ap (λ (n : ℕ). eqb n 1) top ∙ mark_is (is_plus (closing (data_symbol b) d)))
      ∙ by_sign (closing (data_symbol b) d) (closing_disparity (data_symbol b) d t)
