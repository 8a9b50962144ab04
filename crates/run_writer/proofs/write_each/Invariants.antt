-- What is stored and what remains make the whole run's characters.
use Prim.Native.Nat.{◌<◌}
use lib.Dec.{eqb}
use Rattle.character_rules.specs.Disparity.{disparity_of}
use Rattle.character_rules.proofs.WriteLaws.{Reached}
use Rattle.run_writer.proofs.write_each.Given as goal

abbrev pub invariant-loop-i : goal.invariant-loop-i
invariant-loop-i l = Reached l.bytes (disparity_of (eqb l.from 1)) l.initial.out l.i l.out (disparity_of (eqb l.p 1)) × (l.p < 2)
