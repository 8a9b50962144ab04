-- After k turns the first k bytes stand, and past them what stood there.
use mathlib.Core.Path.{◌≡◌}
use mathlib.Core.List.{◌++◌}
use lib.ListN.{take, drop}
use Rattle.capture_rules.specs.Capture.{pack_of}
use Rattle.capture_packing.proofs.store_bytes.Given as goal

abbrev pub invariant-loop-k : goal.invariant-loop-k
invariant-loop-k l = l.out ≡ take l.k (pack_of l.characters) ++ drop l.k l.initial.out
