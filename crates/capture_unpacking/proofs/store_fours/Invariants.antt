-- After g turns the first 4 g characters stand, and past them what stood there.
use mathlib.Core.Path.{◌≡◌}
use mathlib.Core.List.{◌++◌}
use Prim.Native.Nat.{◌*◌}
use lib.ListN.{take, drop}
use Rattle.capture_rules.specs.Capture.{characters_of}
use Rattle.capture_unpacking.proofs.store_fours.Given as goal

abbrev pub invariant-loop-g : goal.invariant-loop-g
invariant-loop-g l = l.out ≡ take (4 * l.g) (characters_of l.capture.bytes.now) ++ drop (4 * l.g) l.initial.out
