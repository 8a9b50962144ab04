-- The search for a character's symbol: it finds the symbol that has the character, and nothing else.
-- Assumes nothing.
use mathlib.Core.Path.{◌≡◌, refl, sym, subst}
use mathlib.Core.Bool.{Bool, true, false, cond, ◌&&◌}
use mathlib.Core.List.{List, [], ◌∷◌}
use mathlib.Core.Option.{Option, none, some}
use Prim.Native.Nat.{ℕ, ◌<◌}
use native.Mathlib.Omega.{arith}
use lib.Dec.{T, eqb, ltb, ltb→lt, eqb→eq}
use lib.IntN.{ℤ, pos, negsuc}
use Rattle.laws.specs.Lists.{all_of}
use Rattle.laws.proofs.Bools.{and_left, and_right, agree, agree_eq}
use Rattle.symbol.specs.Symbols.{is_twelve, is_symbol}
use Rattle.symbol.specs.declared.Symbol.{Symbol}
use Rattle.symbol.proofs.Every.{every_symbol}
use Rattle.character_rules.specs.Disparity.{is_disparity}
use Rattle.character_rules.specs.Blocks.{six_blocks, four_blocks, control_four_blocks, six_block, four_by_list, four_block, first_block, between, second_block, character}
use Rattle.character_rules.specs.Reading.{symbols, first_with}
use Rattle.character_rules.proofs.Disparities.{both_ways}

-- ---- a test whether what is found is the symbol

abbrev same_symbol : Symbol → Symbol → Bool
same_symbol s r = eqb s.byte r.byte && agree s.control r.control

same_symbol_lem : (s r : Symbol) → T (same_symbol s r) → s ≡ r
same_symbol_lem s r t =
    let x : s.byte ≡ r.byte = eqb→eq s.byte r.byte (and_left (eqb s.byte r.byte) _ t) in
    let y : s.control ≡ r.control = agree_eq s.control r.control (and_right (eqb s.byte r.byte) _ t) in
    λ i. record { byte = x i; control = y i }

abbrev is_it : Symbol → Option Symbol → Bool
is_it s none = false
is_it s (some r) = same_symbol r s

is_it_lem : (s : Symbol) (o : Option Symbol) → T (is_it s o) → o ≡ some s
is_it_lem s none t = absurd t
is_it_lem s (some r) t = let e = same_symbol_lem r s t in λ i. some (e i)

-- ---- at every symbol and both disparities, by one computation

abbrev findable : Symbol → ℤ → Bool
findable s d = ltb (character s d) 1024 && is_it s (first_with symbols (character s d) d)

abbrev findable_both : Symbol → Bool
findable_both s = findable s (pos 1) && findable s (negsuc 0)

all_findable : (s : Symbol) → s.byte < 256 → T (is_symbol s) → T (findable_both s)
unfolding six_blocks four_blocks control_four_blocks six_block four_by_list four_block first_block between second_block character symbols
all_findable = every_symbol findable_both tt tt

module _ (s : Symbol) (d : ℤ) (h : s.byte < 256) (i : T (is_symbol s)) (t : T (is_disparity d)) where
  at_disparity : T (findable s d)
  at_disparity =
      let f = all_findable s h i in
      both_ways (λ (z : ℤ). T (findable s z)) (and_left (findable s (pos 1)) _ f) (and_right (findable s (pos 1)) _ f) d t

  -- a symbol's character is one of 1,024
  pub character_range : character s d < 1024
  character_range = ltb→lt (character s d) 1024 (and_left (ltb (character s d) 1024) _ at_disparity)

  -- the search finds the symbol by its character
  pub finds : first_with symbols (character s d) d ≡ some s
  finds = is_it_lem s (first_with symbols (character s d) d) (and_right (ltb (character s d) 1024) _ at_disparity)

-- ---- and what it finds has the character

abbrev whole : Symbol → Bool
whole s = ltb s.byte 256 && is_symbol s

all_whole : T (all_of whole symbols)
unfolding symbols is_twelve
all_whole = tt

-- what a test says of each of a list it says of the one that is found, and that one has the character
found_in : (f : Symbol → Bool) (ss : List Symbol) (c : ℕ) (d : ℤ) (s : Symbol) → T (all_of f ss) → first_with ss c d ≡ some s → T (f s) × (character s d ≡ c)
found_in f [] c d s t e = let z : ◌≡◌ {A = ℕ} 0 1 = cc in absurd (omega arith)
found_in f (r ∷ rs) c d s t e = go (found_in f rs c d s (and_right (f r) (all_of f rs) t)) (eqb (character r d) c) refl e
  where
    go : (first_with rs c d ≡ some s → T (f s) × (character s d ≡ c)) → (b : Bool) → eqb (character r d) c ≡ b
        → cond b (some r) (first_with rs c d) ≡ some s → T (f s) × (character s d ≡ c)
    go later true g h =
        let q : r ≡ s = cc in
        (subst (λ (x : Symbol). T (f x)) q (and_left (f r) (all_of f rs) t), subst (λ (x : Symbol). character x d ≡ c) q (eqb→eq (character r d) c (subst T (sym g) tt)))
    go later false g h = later h

pub found : (c : ℕ) (d : ℤ) (s : Symbol) → first_with symbols c d ≡ some s → (s.byte < 256) × T (is_symbol s) × (character s d ≡ c)
found c d s e =
    let f = found_in whole symbols c d s all_whole e in
    (ltb→lt s.byte 256 (and_left (ltb s.byte 256) (is_symbol s) f.0), and_right (ltb s.byte 256) (is_symbol s) f.0, f.1)
