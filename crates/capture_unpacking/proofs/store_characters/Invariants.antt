-- After i turns the first i of the last characters stand, and past them what stood there.
use mathlib.Core.Path.{◌≡◌}
use mathlib.Core.List.{◌++◌}
use lib.ListN.{take, drop}
use Rattle.capture_rules.specs.Capture.{characters_of}
use Rattle.capture_unpacking.proofs.store_characters.Given as goal

abbrev pub invariant-loop-i : goal.invariant-loop-i
invariant-loop-i l = l.rest ≡ take l.i (drop l.at (characters_of l.capture.bytes.now)) ++ drop l.i l.initial.rest
