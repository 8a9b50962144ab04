-- The bench's rows on characters hold, by computation.
-- Assumes nothing.
use mathlib.Core.Path.{refl}
use Rattle.symbol.specs.Symbols.{is_twelve}
use Rattle.character_rules.specs.Blocks.{six_blocks, four_blocks, control_four_blocks, six_block, four_by_list, four_block, first_block, between, second_block, character, closing}
use Rattle.character_rules.specs.Writing.{writing}
use Rattle.character_rules.specs.Bench.{Rows}

pub rows : Rows
unfolding writing is_twelve six_blocks four_blocks control_four_blocks six_block four_by_list four_block first_block between second_block character closing
rows = record { d30_4_minus = refl; d30_4_plus = refl; k28_5 = refl; d0_0 = refl; d17_7 = refl; d11_7 = refl }
