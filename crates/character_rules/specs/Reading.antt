-- What reading a character comes to. It goes by the writer's rules alone: a character is legal at a disparity if it is the
-- character of some symbol there.
use Rattle.std.specs.Prelude.{ℕ, cond, not, ◌||◌, List, [], ◌∷◌, ◌++◌, map, eqb, ltb, ℤ, neg_ℤ}
use Rattle.std.proofs.Math.Option.{Option, none, some}
use Rattle.laws.specs.Lists.{count_from}
use Rattle.refusal.specs.Order.{check, outcome}
use Rattle.symbol.specs.Symbols.{twelve, data_symbol, control_symbol}
use Rattle.symbol.specs.declared.Symbol.{Symbol}
use Rattle.character_rules.specs.Disparity.{is_disparity}
use Rattle.character_rules.specs.Blocks.{character, closing}
use Rattle.character_rules.specs.Answers.{Reading, clean, wrong_disparity, invalid, not_read}

-- every symbol: the 256 of data and the twelve of control
unfoldable pub symbols : List Symbol
symbols = map data_symbol (count_from 0 256) ++ map control_symbol twelve

-- the symbol whose character at d is c, if there is one
abbrev pub first_with : List Symbol → ℕ → ℤ → Option Symbol
first_with [] c d = none
first_with (s ∷ ss) c d = let later = first_with ss c d in cond (eqb (character s d) c) (some s) later

-- legal at the disparity in force: clean. Legal only at the other: wrong disparity, and the new one is that the other column
-- ends at. Legal at neither: invalid, disparity kept
abbrev pub result : ℤ → Option Symbol → Option Symbol → Reading
result d (some s) other = clean s (closing s d)
result d none (some s) = wrong_disparity s (closing s (neg_ℤ d))
result d none none = invalid d

unfoldable pub reading : ℕ → ℤ → Reading
reading c d =
    outcome (check 1 (ltb 1023 c || not (is_disparity d)) ∷ []) not_read
    (result d (first_with symbols c d) (first_with symbols c (neg_ℤ d)))
