-- Document 01, "On the bench": the rows on characters, of the definitions.
use Rattle.std.specs.Prelude.{◌≡◌, ℕ, ◌+◌, ◌*◌, ℤ, pos, negsuc}
use Rattle.symbol.specs.Symbols.{byte_of, data_symbol, control_symbol}
use Rattle.symbol.specs.declared.Symbol.{Symbol}
use Rattle.character_rules.specs.Answers.{written}
use Rattle.character_rules.specs.Writing.{writing}

-- Dx.y and Kx.y
abbrev pub D : ℕ → ℕ → Symbol
D x y = data_symbol (byte_of x y)

abbrev pub K : ℕ → ℕ → Symbol
K x y = control_symbol (byte_of x y)

-- a symbol is written as two blocks at a disparity, and closes at another
abbrev pub Writes : Symbol → ℤ → ℕ → ℕ → ℤ → Type 0
Writes s d six four e = writing s d ≡ written (six * 16 + four) e

pub record Rows : Type 0 where
  -- P D30.4: at −1 011110 0010; at +1 100001 1101
  pub d30_4_minus : Writes (D 30 4) (negsuc 0) 0b011110 0b0010 (negsuc 0)
  pub d30_4_plus : Writes (D 30 4) (pos 1) 0b100001 0b1101 (pos 1)
  -- P K28.5 at −1: 001111 1010
  pub k28_5 : Writes (K 28 5) (negsuc 0) 0b001111 0b1010 (pos 1)
  -- P D0.0 at −1: 100111 0100, still −1
  pub d0_0 : Writes (D 0 0) (negsuc 0) 0b100111 0b0100 (negsuc 0)
  -- P D17.7 at −1: 100011 0111, then +1
  pub d17_7 : Writes (D 17 7) (negsuc 0) 0b100011 0b0111 (pos 1)
  -- P D11.7 at +1: 110100 1000, then −1
  pub d11_7 : Writes (D 11 7) (pos 1) 0b110100 0b1000 (negsuc 0)
