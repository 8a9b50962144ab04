-- What writing and reading come to, where they are not refused and where they are.
-- Assumes nothing.
use mathlib.Core.Path.{◌≡◌, refl, sym, ◌∙◌, ap, ap₂}
use mathlib.Core.Bool.{Bool, true, false, not, ◌||◌}
use mathlib.Core.List.{[], ◌∷◌}
use mathlib.Core.Option.{Option, none, some}
use Prim.Native.Nat.{ℕ, ◌<◌, ◌≤◌}
use lib.Dec.{ltb}
use lib.IntN.{ℤ, neg_ℤ}
use borrow.Author.Tests.{le-ltb, lt-ltb}
use Rattle.refusal.specs.Order.{check, outcome}
use Rattle.laws.proofs.Cases.{some_is_not_none}
use Rattle.symbol.specs.Symbols.{is_writable}
use Rattle.symbol.specs.declared.Symbol.{Symbol}
use Rattle.character_rules.specs.Disparity.{is_disparity}
use Rattle.character_rules.specs.Blocks.{character, closing}
use Rattle.character_rules.specs.Answers.{Writing, written, not_written, Reading, not_read}
use Rattle.character_rules.specs.Writing.{writing}
use Rattle.character_rules.specs.Reading.{symbols, first_with, result, reading}

abbrev writing_by : Symbol → ℤ → Bool → Bool → Writing
writing_by s d p w = outcome (check 1 (not p) ∷ check 3 (not w) ∷ []) not_written (written (character s d) (closing s d))

module _ (s : Symbol) (d : ℤ) where
  pub writing_1 : is_disparity d ≡ false → writing s d ≡ not_written 1
  unfolding writing
  writing_1 p = ap (λ (b : Bool). writing_by s d b (is_writable s)) p

  pub writing_3 : is_disparity d ≡ true → is_writable s ≡ false → writing s d ≡ not_written 3
  unfolding writing
  writing_3 p w = ap₂ (writing_by s d) p w

  pub writing_done : is_disparity d ≡ true → is_writable s ≡ true → writing s d ≡ written (character s d) (closing s d)
  unfolding writing
  writing_done p w = ap₂ (writing_by s d) p w

abbrev reading_by : ℕ → ℤ → Bool → Bool → Reading
reading_by c d far p = outcome (check 1 (far || not p) ∷ []) not_read (result d (first_with symbols c d) (first_with symbols c (neg_ℤ d)))

module _ (c : ℕ) (d : ℤ) where
  pub reading_far : 1023 < c → reading c d ≡ not_read 1
  unfolding reading
  reading_far h = ap (λ (b : Bool). reading_by c d b (is_disparity d)) (lt-ltb 1023 c h)

  pub reading_bad : c ≤ 1023 → is_disparity d ≡ false → reading c d ≡ not_read 1
  unfolding reading
  reading_bad h p = ap₂ (reading_by c d) (le-ltb 1023 c h) p

  pub reading_done : c ≤ 1023 → is_disparity d ≡ true → reading c d ≡ result d (first_with symbols c d) (first_with symbols c (neg_ℤ d))
  unfolding reading
  reading_done h p = ap₂ (reading_by c d) (le-ltb 1023 c h) p

-- a result has a disparity, whichever it is
has_disparity : (d : ℤ) (o q : Option Symbol) → (e : ℤ) × ((result d o q).disparity ≡ some e)
has_disparity d (some s) q = (closing s d, refl)
has_disparity d none (some s) = (closing s (neg_ℤ d), refl)
has_disparity d none none = (d, refl)

-- reading refuses with 1 and with no other number
pub reading_refused : (c : ℕ) (d : ℤ) (n : ℕ) → not_read n ≡ reading c d → n ≡ 1
unfolding reading
reading_refused c d n = go (ltb 1023 c) (is_disparity d)
  where
    go : (far p : Bool) → not_read n ≡ reading_by c d far p → n ≡ 1
    go true p e = ap (λ (r : Reading). r.refusal) e
    go false false e = ap (λ (r : Reading). r.refusal) e
    go false true e =
        let h = has_disparity d (first_with symbols c d) (first_with symbols c (neg_ℤ d)) in
        absurd (some_is_not_none (sym (ap (λ (r : Reading). r.disparity) e ∙ h.1)))
