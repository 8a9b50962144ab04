-- After g turns the first 4 g characters stand, and past them what stood there. Each of the four is the law of one character in four.
use native.Mathlib.Omega.{arith}
use Rattle.laws.proofs.Groups.{below_at}
use Rattle.capture_unpacking.proofs.Facts.{four_stored}
use Rattle.capture_unpacking.proofs.store_fours.Goals as goal

pub loop-g-preserved : goal.loop-g-preserved
loop-g-preserved c = let l = c.loop-g in
    let bytes = c.args.capture.bytes.now in
    let t = below_at 256 bytes (λ i. (c.type_inv.bytes i).fits) in
    four_stored bytes c.args.out.now t l.g (omega arith) (omega arith) l.out l.invariant _ c.store_four.ensures
