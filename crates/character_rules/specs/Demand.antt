-- Demand 2, of characters, as a predicate over any reader and any writer.
use Rattle.std.specs.Prelude.{ℕ, ◌<◌, ◌≤◌, ◌≡◌, Bool, ◌&&◌, List, [], ◌∷◌, ◌++◌, T, ltb, ℤ, neg_ℤ, take, replicate}
use Rattle.laws.specs.Lists.{all_of}
use Rattle.symbol.specs.Symbols.{is_symbol, is_writable}
use Rattle.symbol.specs.declared.Symbol.{Symbol}
use Rattle.character_rules.specs.Disparity.{is_disparity}
use Rattle.character_rules.specs.Blocks.{character, closing}
use Rattle.character_rules.specs.Answers.{Writing, written, Reading, clean, wrong_disparity, invalid}
use Rattle.character_rules.specs.Line.{line, balance, within_three}

abbrev pub Writer : Type 0
Writer = Symbol → ℤ → Writing

abbrev pub Reader : Type 0
Reader = ℕ → ℤ → Reading

-- a byte, and writable
abbrev pub can_write : Symbol → Bool
can_write s = ltb s.byte 256 && is_writable s

-- what is written reads clean, as the same symbol and with the same closing disparity, at each character of a list
abbrev pub Returns : Reader → Writer → List Symbol → ℤ → Type 0
Returns reader writer [] d = Unit
Returns reader writer (s ∷ ss) d =
    (c : ℕ) × (e : ℤ) × (writer s d ≡ written c e) × (reader c d ≡ clean s e) × Returns reader writer ss e

pub record RoundTrip (reader : Reader) (writer : Writer) : Type 0 where
  pub returns : (ss : List Symbol) (d : ℤ) → T (all_of can_write ss) → T (is_disparity d) → Returns reader writer ss d

-- clause 36 has c as the code group of s at a disparity
abbrev pub CodeGroup : ℕ → ℤ → Symbol → Type 0
CodeGroup c d s = (s.byte < 256) × T (is_symbol s) × (character s d ≡ c)

-- a character reads clean exactly if clause 36 has it as a code group at that disparity
pub record Exact (reader : Reader) : Type 0 where
  pub has : (c : ℕ) (d : ℤ) (s : Symbol) → T (is_disparity d) → CodeGroup c d s → reader c d ≡ clean s (closing s d)
  pub only : (c : ℕ) (d : ℤ) (s : Symbol) (e : ℤ) → reader c d ≡ clean s e → T (is_disparity d) × CodeGroup c d s × (closing s d ≡ e)

-- legal only at the other disparity: the symbol, and the disparity that the other column ends at. Legal at neither: disparity kept
pub record Otherwise (reader : Reader) : Type 0 where
  pub other :
      (c : ℕ) (d : ℤ) (s : Symbol) → T (is_disparity d) → CodeGroup c (neg_ℤ d) s → ((r : Symbol) → CodeGroup c d r → ⊥)
      → reader c d ≡ wrong_disparity s (closing s (neg_ℤ d))
  pub neither :
      (c : ℕ) (d : ℤ) → c ≤ 1023 → T (is_disparity d) → ((r : Symbol) → CodeGroup c d r → ⊥) → ((r : Symbol) → CodeGroup c (neg_ℤ d) r → ⊥)
      → reader c d ≡ invalid d

-- counting from the start value, ones less zeros stay within three at each bit, and no bit is repeated more than five times running
pub record Balanced (writer : Writer) : Type 0 where
  pub within :
      (ss : List Symbol) (d : ℤ) → T (all_of can_write ss) → T (is_disparity d)
      → (n : ℕ) → T (within_three (balance d (take n (line writer ss d))))
  pub runs :
      (ss : List Symbol) (d : ℤ) → T (all_of can_write ss) → T (is_disparity d)
      → (before : List ℕ) (n x : ℕ) (after : List ℕ) → line writer ss d ≡ before ++ (replicate n x ++ after) → n ≤ 5

pub record DemandTwo (reader : Reader) (writer : Writer) : Type 0 where
  pub round_trip : RoundTrip reader writer
  pub exact : Exact reader
  pub otherwise : Otherwise reader
  pub balanced : Balanced writer
