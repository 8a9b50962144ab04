-- The written line, bit by bit, and what is counted on it.
use Rattle.std.specs.Prelude.{ℕ, zero, suc, Bool, List, [], ◌∷◌, ◌++◌, leb, ℤ, pos, negsuc}
use Rattle.std.proofs.Math.Option.{Option, none, some}
use Rattle.std.proofs.Math.IntN.{suc_ℤ, pred_ℤ}
use Rattle.laws.specs.Bits.{bits}
use Rattle.symbol.specs.declared.Symbol.{Symbol}
use Rattle.character_rules.specs.Answers.{Writing}
use Rattle.character_rules.specs.Results.{new_disparity}

-- the ten bits of a character that was written, a to j
abbrev pub ten_bits : Option ℕ → List ℕ
ten_bits none = []
ten_bits (some c) = bits 10 c

-- the bits of a list of symbols, each written at the disparity that the one before it closed at
abbrev pub line : (Symbol → ℤ → Writing) → List Symbol → ℤ → List ℕ
line writer [] d = []
line writer (s ∷ ss) d = ten_bits (writer s d).character ++ line writer ss (new_disparity d (writer s d).disparity)

-- ones less zeros, counted from the start value
abbrev pub counted : ℤ → ℕ → ℤ
counted b zero = pred_ℤ b
counted b (suc n) = suc_ℤ b

abbrev pub balance : ℤ → List ℕ → ℤ
balance b [] = b
balance b (x ∷ xs) = balance (counted b x) xs

abbrev pub within_three : ℤ → Bool
within_three (pos n) = leb n 3
within_three (negsuc n) = leb n 2
