-- What is stored and what remains make the whole run's results.
use Prim.Native.Nat.{◌<◌}
use lib.Dec.{eqb}
use Rattle.character_rules.specs.Disparity.{disparity_of}
use Rattle.character_rules.proofs.RunLaws.{Reached}
use Rattle.run_reader.proofs.read_each.Given as goal

abbrev pub invariant-loop-i : goal.invariant-loop-i
invariant-loop-i l = Reached l.characters (disparity_of l.plus) l.initial.results l.i l.results (eqb l.p 1) × (l.p < 2)
