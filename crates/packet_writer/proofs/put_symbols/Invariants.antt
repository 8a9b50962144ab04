-- After i turns the first i symbols are written.
use mathlib.Core.Path.{◌≡◌}
use Prim.Native.Nat.{◌≤◌}
use lib.ListN.{length, take}
use Rattle.packet_writer.specs.Writing.{Wrote}
use Rattle.packet_writer.proofs.put_symbols.Given as goal

abbrev pub invariant-loop-s : goal.invariant-loop-s
invariant-loop-s l =
    (l.s-index ≤ length l.symbols) × (Wrote l.initial.w (take l.s-index l.symbols) l.initial.out l.out l.w) × (length l.out ≡ length l.initial.out)
