-- The writer's table holds what the rules say of each data byte at both disparities: one test, which antt computes over the whole table.
-- Assumes nothing.
use mathlib.Core.Path.{◌≡◌, refl, sym, ◌∙◌, ap}
use mathlib.Core.Bool.{Bool, true, false, ◌&&◌}
use Prim.Native.Nat.{ℕ, zero, suc, ◌<◌}
use native.Mathlib.Omega.{arith}
use lib.Dec.{T, eqb, eqb→eq}
use lib.ListN.{get_or}
use lib.IntN.{pos, negsuc}
use Rattle.laws.proofs.Bools.{and_left, and_right}
use Rattle.laws.proofs.Table.{at}
use Rattle.symbol.specs.Symbols.{data_symbol}
use Rattle.character_rules.specs.Disparity.{disparity_of, half_of}
use Rattle.character_rules.specs.Blocks.{six_blocks, four_blocks, control_four_blocks, six_block, four_by_list, four_block}
use Rattle.character_rules.specs.Blocks.{first_block, between, second_block, character, closing}
use Rattle.character_rules.specs.Results.{mark}
use Rattle.writer_table.specs.Entries.{form}
use Rattle.writer_table.specs.Table.{table}

unfoldable right : ℕ → ℕ → Bool
right b e = eqb (half_of e 1) (form (data_symbol b) (pos 1)) && eqb (half_of e 0) (form (data_symbol b) (negsuc 0))

all_right : (b : ℕ) → b < 256 → T (right b (get_or table b 0))
unfolding table right six_blocks four_blocks control_four_blocks six_block four_by_list four_block first_block between second_block character closing
all_right b h = at right table tt b h

table_right : (b : ℕ) → b < 256 → (plus : Bool) → half_of (get_or table b 0) (mark plus) ≡ form (data_symbol b) (disparity_of plus)
unfolding right
table_right b h true =
    let e = get_or table b 0 in
    eqb→eq (half_of e 1) _ (and_left (eqb (half_of e 1) (form (data_symbol b) (pos 1))) _ (all_right b h))
table_right b h false =
    let e = get_or table b 0 in
    eqb→eq (half_of e 0) _ (and_right (eqb (half_of e 1) (form (data_symbol b) (pos 1))) _ (all_right b h))

two : (p : ℕ) → p < 2 → mark (eqb p 1) ≡ p
two zero h = refl
two (suc zero) h = refl
two (suc (suc p)) h = absurd (omega arith)

-- the look-up: a byte's half at a disparity's number
pub table_half : (b p : ℕ) → b < 256 → p < 2 → half_of (get_or table b 0) p ≡ form (data_symbol b) (disparity_of (eqb p 1))
table_half b p h g = ap (half_of (get_or table b 0)) (sym (two p g)) ∙ table_right b h (eqb p 1)
