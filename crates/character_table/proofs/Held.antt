-- The reader's table holds what the rules say of each character at both disparities: one test, which antt computes over the whole table.
-- Assumes nothing.
use mathlib.Core.Path.{◌≡◌, refl, sym, ◌∙◌, ap}
use mathlib.Core.Bool.{Bool, true, false, ◌&&◌}
use mathlib.Core.Option.{Option}
use Prim.Native.Nat.{ℕ, ◌<◌}
use native.Mathlib.Omega.{arith}
use lib.Dec.{T, eqb, eqb→eq}
use lib.ListN.{get_or}
use lib.IntN.{pos, negsuc}
use Rattle.laws.proofs.Bools.{and_left, and_right}
use Rattle.laws.proofs.Table.{at}
use Rattle.symbol.specs.declared.Symbol.{Symbol}
use Rattle.character_rules.specs.Disparity.{disparity_of}
use Rattle.character_rules.specs.Blocks.{six_blocks, four_blocks, control_four_blocks, six_block, four_by_list, four_block}
use Rattle.character_rules.specs.Blocks.{first_block, between, second_block, character, closing}
use Rattle.character_rules.specs.Reading.{symbols, first_with, result, reading}
use Rattle.character_rules.specs.Results.{packed}
use Rattle.character_rules.proofs.Laws.{reading_done}
use Rattle.character_table.specs.Entries.{result_in}
use Rattle.character_table.specs.Table.{table}

-- an entry holds the two results of a character, by the symbols that have it at +1 and at −1
abbrev holds : ℕ → Option Symbol → Option Symbol → Bool
holds e plus minus =
    eqb (result_in e true) (packed (result (pos 1) plus minus)) && eqb (result_in e false) (packed (result (negsuc 0) minus plus))

unfoldable right : ℕ → ℕ → Bool
right c e = holds e (first_with symbols c (pos 1)) (first_with symbols c (negsuc 0))

all_right : (c : ℕ) → c < 1024 → T (right c (get_or table c 0))
unfolding table right six_blocks four_blocks control_four_blocks six_block four_by_list four_block first_block between second_block character closing symbols packed
all_right c h = at right table tt c h

pub table_right : (c : ℕ) → c < 1024 → (plus : Bool) → result_in (get_or table c 0) plus ≡ packed (reading c (disparity_of plus))
unfolding right
table_right c h true =
    let e = get_or table c 0 in
    let o = first_with symbols c (pos 1) in
    let q = first_with symbols c (negsuc 0) in
    eqb→eq (result_in e true) _ (and_left (eqb (result_in e true) (packed (result (pos 1) o q))) _ (all_right c h))
    ∙ ap packed (sym (reading_done c (pos 1) (omega arith) refl))
table_right c h false =
    let e = get_or table c 0 in
    let o = first_with symbols c (pos 1) in
    let q = first_with symbols c (negsuc 0) in
    eqb→eq (result_in e false) _ (and_right (eqb (result_in e true) (packed (result (pos 1) o q))) _ (all_right c h))
    ∙ ap packed (sym (reading_done c (negsuc 0) (omega arith) refl))
