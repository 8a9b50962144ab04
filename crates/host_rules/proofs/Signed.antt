-- A signed number of 32 bits, stored or passed on, is the number that it was.
-- Assumes nothing.
use Prim.Native.Nat.{◌<◌, ◌^◌}
use mathlib.Core.Path.{◌≡◌}
use lib.IntN.{ℤ}
use lib.Signed.{mag}
use mir.Syntax.{w32}
use mir.Val.{to_z, of_z, hbits}
use mir.Facts.{to_z-of_z}

pub same : (z : ℤ) → mag z < 2 ^ hbits w32 → to_z w32 (of_z w32 z) ≡ z
same z h = to_z-of_z {w = w32} {z = z} (record { sfits = h })
