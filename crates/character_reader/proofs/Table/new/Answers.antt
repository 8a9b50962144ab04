-- The constant is the table.
use mathlib.Core.Path.{refl}
use Rattle.character_table.specs.Table.{table}
use Rattle.character_reader.proofs.Table.new.Goals as goal

pub invariant_of-result : goal.invariant_of-result
unfolding table
invariant_of-result c = refl

pub returns : goal.returns
unfolding table
returns c = refl
