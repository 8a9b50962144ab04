-- The entry's half holds what the rules say.
use mathlib.Core.Path.{◌∙◌, ap}
use mathlib.Core.List.{List}
use Prim.Native.Nat.{ℕ}
use native.Mathlib.Omega.{arith}
use lib.ListN.{get_or}
use Rattle.writer_table.proofs.Held.{table_half}
use Rattle.character_rules.specs.Disparity.{half_of}
use Rattle.run_writer.proofs.look_up.Goals as goal

pub returns : goal.returns
returns c =
    let a = c.args in
    ap (λ (l : List ℕ). half_of (get_or l a.byte 0) a.p) c.requires.0 ∙ table_half a.byte a.p (omega arith) c.requires.1
