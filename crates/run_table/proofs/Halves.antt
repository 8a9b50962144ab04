-- The run's table holds the same results as the reader's table: one test, which antt computes over both.
-- Assumes nothing.
use mathlib.Core.Path.{◌≡◌, ◌∙◌}
use mathlib.Core.Bool.{Bool, true, false, ◌&&◌}
use Prim.Native.Nat.{ℕ, zero, suc, ◌<◌}
use native.Mathlib.Omega.{arith}
use lib.Dec.{T, eqb, ltb, eqb→eq, ltb→lt}
use lib.ListN.{get_or}
use Rattle.laws.proofs.Bools.{and_left, and_right}
use Rattle.laws.proofs.Table.{at}
use Rattle.character_rules.specs.Disparity.{disparity_of, half_of}
use Rattle.character_rules.specs.Reading.{reading}
use Rattle.character_rules.specs.Results.{packed}
use Rattle.character_table.specs.Entries.{result_in}
use Rattle.character_table.specs.Table.{table as single}
use Rattle.character_table.proofs.Held.{table_right}
use Rattle.run_table.specs.Table.{table}

-- a half is the result that the reader's table has, which is below 4,096
abbrev same : ℕ → ℕ → ℕ → Bool → Bool
same c e p plus = eqb (half_of e p) (result_in (get_or single c 0) plus) && ltb (half_of e p) 4096

unfoldable right : ℕ → ℕ → Bool
right c e = same c e 0 false && same c e 1 true

all_right : (c : ℕ) → c < 1024 → T (right c (get_or table c 0))
unfolding table single right
all_right c h = at right table tt c h

module _ (c : ℕ) (h : c < 1024) where
  abbrev entry : ℕ
  entry = get_or table c 0

  both : (p : ℕ) → p < 2 → T (same c entry p (eqb p 1))
  unfolding right
  both zero g = and_left (same c entry 0 false) _ (all_right c h)
  both (suc zero) g = and_right (same c entry 0 false) _ (all_right c h)
  both (suc (suc p)) g = absurd (omega arith)

  -- the look-up: a character's half at a disparity's number
  pub half_right : (p : ℕ) → p < 2 → half_of entry p ≡ packed (reading c (disparity_of (eqb p 1)))
  half_right p g =
      eqb→eq (half_of entry p) (result_in (get_or single c 0) (eqb p 1)) (and_left (eqb (half_of entry p) (result_in (get_or single c 0) (eqb p 1))) _ (both p g))
      ∙ table_right c h (eqb p 1)

  pub half_low : (p : ℕ) → p < 2 → half_of entry p < 4096
  half_low p g =
      ltb→lt (half_of entry p) 4096 (and_right (eqb (half_of entry p) (result_in (get_or single c 0) (eqb p 1))) _ (both p g))
