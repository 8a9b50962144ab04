-- After i turns the first i bytes stand, and past them what stood there.
use mathlib.Core.Path.{◌≡◌}
use mathlib.Core.List.{◌++◌}
use lib.ListN.{take, drop}
use Rattle.retry_parts.proofs.lent.cover.Given as goal

abbrev pub invariant-loop-i : goal.invariant-loop-i
invariant-loop-i l = l.run ≡ take l.i l.bytes ++ drop l.i l.initial.run
