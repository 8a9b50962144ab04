-- The listed block, set at the disparity in force.
use Prim.Native.Nat.{◌/◌}
use Rattle.character_writer.proofs.Chosen.{four_is}
use native.Mathlib.Omega.{arith}
use Rattle.character_writer.proofs.four_by_list.Goals as goal

pub returns : goal.returns
returns c =
    let a = c.args in (
      four_is a.s.control (a.s.byte / 32) _ _ a.plus c.four_listed.ensures.0 c.in_force.ensures.0,
      omega (arith, c.in_force.ensures.1),
    )
