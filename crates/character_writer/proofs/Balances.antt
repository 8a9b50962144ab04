-- The ones of a block of six bits at most, as the library counts them: one test over all blocks.
-- Assumes nothing.
use mathlib.Core.Path.{◌≡◌, ap}
use mathlib.Core.Bool.{Bool, not}
use Prim.Native.Nat.{ℕ, ◌<◌}
use lib.Count.{ones_in, ones as count_ones}
use lib.Dec.{eqb, eqb→eq}
use Rattle.laws.specs.Lists.{count_from}
use Rattle.laws.proofs.Table.{at}
use Rattle.character_rules.specs.Blocks.{ones, unbalanced}

test : ℕ → ℕ → Bool
test b x = eqb (count_ones b) (ones b)

counted : (b : ℕ) → b < 64 → count_ones b ≡ ones b
unfolding test count_ones ones_in
counted b h = eqb→eq (count_ones b) (ones b) (at test (count_from 0 64) tt b h)

pub by_count : (half b : ℕ) → b < 64 → not (eqb (count_ones b) half) ≡ unbalanced half b
by_count half b h = ap (λ (n : ℕ). not (eqb n half)) (counted b h)
