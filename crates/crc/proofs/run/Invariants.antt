-- What is left to do from the register so far is what was to do from the start.
use mathlib.Core.Path.{◌≡◌}
use Prim.Native.Nat.{◌<◌}
use lib.ListN.{drop}
use Rattle.crc.specs.Crc16.{crc_from}
use Rattle.crc.proofs.run.Given as goal

abbrev pub invariant-loop-byte : goal.invariant-loop-byte
invariant-loop-byte l = (l.r < 65536) × (crc_from l.r (drop l.byte-index l.bytes) ≡ crc_from l.register l.bytes)
