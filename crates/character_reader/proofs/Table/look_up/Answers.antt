-- The entry holds what the rules say.
use mathlib.Core.Path.{◌∙◌, ap}
use mathlib.Core.List.{List}
use Prim.Native.Nat.{ℕ, ◌%◌}
use native.Mathlib.Omega.{arith}
use lib.ListN.{get_or}
use Rattle.character_table.specs.Entries.{result_in}
use Rattle.character_table.proofs.Held.{table_right}
use Rattle.character_reader.proofs.Table.look_up.Goals as goal

pub returns : goal.returns
returns c =
    let k = c.args.character % 1024 in
    c.result_in.ensures
    ∙ ap (λ (l : List ℕ). result_in (get_or l k 0) c.args.plus) c.self.invariant
    ∙ table_right k (omega arith) c.args.plus
