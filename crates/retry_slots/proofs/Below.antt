-- There are eight buffers, and each ends within the lent run.
-- Assumes nothing.
use mathlib.Core.Path.{◌≡◌}
use Prim.Native.Nat.{ℕ, ◌+◌, ◌*◌, ◌≤◌, ◌<◌}
use native.Mathlib.Omega.{arith}
use Rattle.retry_rules.specs.declared.Counters.{Counters}
use Rattle.retry_rules.specs.States.{slot_of}
use Rattle.retry_rules.proofs.Laid.{buffers_apart}

module _ (c : Counters) (i : ℕ) where
  slot_below : slot_of c i < 8
  slot_below = omega arith

  buffer_within : slot_of c i * c.size + c.size ≤ 8 * c.size
  buffer_within = buffers_apart c.size (slot_of c i) 8 slot_below

  -- what is said to be the buffer, and its beginning
  pub below : (r : ℕ) → r ≡ slot_of c i → r < 8
  below r e = rw e slot_below

  pub within : (r : ℕ) → r ≡ slot_of c i * c.size → r + c.size ≤ 8 * c.size
  within r e = rw e buffer_within
