-- The worked examples hold, by computation.
-- Assumes nothing.
use mathlib.Core.Path.{refl}
use Rattle.symbol.specs.Symbols.{is_twelve}
use Rattle.character_rules.specs.Blocks.{six_blocks, four_blocks, control_four_blocks, six_block, four_by_list, four_block, first_block, between, second_block, character, closing}
use Rattle.character_rules.specs.Writing.{writing, run_writing, run_stored, characters_of, closing_of}
use Rattle.character_rules.specs.Reading.{symbols, reading}
use Rattle.character_rules.specs.Results.{packed, run_reading, run_output}
use Rattle.character_rules.specs.Samples.{Samples}

pub samples : Samples
unfolding writing characters_of closing_of run_writing run_stored reading symbols packed run_reading run_output is_twelve six_blocks four_blocks control_four_blocks six_block four_by_list four_block first_block between second_block character closing
samples =
    record {
      not_writable = refl;
      no_disparity = refl;
      no_character = refl;
      not_at_two = refl;
      k28_7 = refl;
      k28_7_at_plus = refl;
      nothing = refl;
      idle = refl;
      d21_5 = refl;
      run_closing_is = refl;
      run_output_is = refl;
      bytes_closing = refl;
      bytes_output = refl;
      bytes_short = refl;
    }
