-- Eight times so few bytes fit.
use native.Mathlib.Omega.{arith}
use Rattle.capture.proofs.Taken.{legal_short}
use Rattle.capture.proofs.Legal.count.Goals as goal

pub overflow_mul-result : goal.overflow_mul-result
overflow_mul-result c = let h = legal_short c.args.self in omega arith
