-- What an answer that is refused, and one that is not, comes to, whatever the call's checks.
-- Assumes nothing.
use Rattle.std.specs.Prelude.{ℕ, ◌<◌, ◌≡◌, List}
use mathlib.Core.Path.{sym, ◌∙◌, ap}
use native.Mathlib.Omega.{arith}
use Rattle.refusal.specs.declared.Refusal.{Refusal}
use Rattle.refusal.specs.declared.Refusal.TheVariants.{OutOfRange, SegmentSize, NotWritable, NoBytes, Full, ShortOutput, LinkDown, BadCapture}
use Rattle.refusal.specs.Order.{Check, number_of, refusal_of, outcome}
use Rattle.refusal.proofs.Laws.{done, refused}

-- every refusal has a number, and none is 0
pub has_number : (r : Refusal) → 0 < number_of r
has_number OutOfRange = omega arith
has_number SegmentSize = omega arith
has_number NotWritable = omega arith
has_number NoBytes = omega arith
has_number Full = omega arith
has_number ShortOutput = omega arith
has_number LinkDown = omega arith
has_number BadCapture = omega arith

module _ {A : Type 0} (cs : List Check) (f : ℕ → A) (x : A) where
  -- where the checks give no number the work is done
  pub if_ok : 0 ≡ refusal_of cs → outcome cs f x ≡ x
  if_ok e = done cs f x (sym e)

  -- where they give a refusal's number, it is answered
  pub if_err : (r : Refusal) → number_of r ≡ refusal_of cs → outcome cs f x ≡ f (number_of r)
  if_err r e = refused cs f x (λ z. let p = has_number r in let q = e ∙ z in omega (arith, p, q)) ∙ ap f (sym e)
