-- After i turns the lines of the first i results stand.
use Prim.Native.Nat.{◌*◌, ◌≤◌}
use lib.ListN.{take}
use Rattle.listing_lines.specs.Results.{Listed}
use Rattle.listing_lines.proofs.put_results.Given as goal

abbrev pub invariant-loop-i : goal.invariant-loop-i
invariant-loop-i l = Listed l.from.place (take l.i l.results) l.initial.p l.initial.out l.out l.p × (l.p.at ≤ 32 * l.i)
