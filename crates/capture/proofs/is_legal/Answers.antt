-- Each way out is one of the tests that decide whether a capture is legal.
use native.Mathlib.Omega.{arith}
use lib.Dec.{eqb}
use Prim.Native.Nat.{ℕ, ◌%◌}
use Rattle.capture.proofs.Facts.{one_up}
use Rattle.capture_rules.proofs.Legal.{legal_long, legal_empty, legal_last}
use mathlib.Core.Path.{sym, ap₂, ◌∙◌}
use Rattle.capture.proofs.is_legal.Goals as goal

pub returns-then-n-gt-MOST_BYTES : goal.returns-then-n-gt-MOST_BYTES
returns-then-n-gt-MOST_BYTES c = sym (legal_long c.args.capture.now (omega arith))

pub returns-then-n-eq0 : goal.returns-then-n-eq0
returns-then-n-eq0 c = sym (legal_empty c.args.capture.now c.if-n-eq0.true)

pub returns : goal.returns
returns c = let bytes = c.args.capture.now in
    ap₂ (λ (x y : ℕ). eqb (x % y) 0) c.from-last.ensures (one_up _ (omega arith))
    ∙ sym (legal_last bytes (omega arith) (λ h. omega arith))
