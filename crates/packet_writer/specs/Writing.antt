-- Writing symbols into an output after those that are written.
use Rattle.std.specs.Prelude.{ℕ, ◌+◌, ◌≡◌, List, [], ◌∷◌, ◌++◌, length, take, drop}
use Rattle.std.specs.Int.Bits.{bit_xor}
use Rattle.symbol.specs.Symbols.{data_symbol}
use Rattle.symbol.specs.declared.Symbol.{Symbol}
use Rattle.character_rules.specs.Writing.{characters_of, closing_of}
use Rattle.packet_rules.specs.Line.{SLP}
use Rattle.packet_rules.specs.declared.Written.{Written}

-- an LMP of these two bytes
abbrev pub lmp_symbols : ℕ → ℕ → List Symbol
lmp_symbols t n = SLP ∷ data_symbol t ∷ data_symbol n ∷ data_symbol (bit_xor t n) ∷ []

-- after what p counts the symbols are written, nothing else is touched, and q counts them too
pub record Wrote (p : Written) (symbols : List Symbol) (old new : List ℕ) (q : Written) : Type 0 where
  pub line : new ≡ take p.count old ++ (characters_of symbols p.disparity ++ drop (p.count + length symbols) old)
  pub next : q ≡ record { count = p.count + length symbols; disparity = closing_of symbols p.disparity }
