-- What all that is lent holds after a call of a retry end, by what the call answers.
-- Assumes nothing.
use Prim.Native.Nat.{ℕ}
use mathlib.Core.Path.{◌≡◌, sym, ◌∙◌}
use native.Mathlib.Omega.{arith}
use Rattle.refusal.specs.declared.Refusal.{Refusal}
use Rattle.refusal.specs.Order.{number_of}
use Rattle.refusal.proofs.Answers.{has_number}
use Rattle.host_rules.specs.Numbers.{called}
use Rattle.host_rules.proofs.Numbers.{stands_old, stands_new}

-- what an answer is refused with is no 0
pub not_zero : (r : Refusal) (n : ℕ) → number_of r ≡ n → n ≡ 0 → ⊥
not_zero r n e z = let p = has_number r in let q = e ∙ z in omega (arith, p, q)

module _ {A : Type 0} (n : ℕ) (old new : A) where
  -- no refusal: what the call makes of it
  pub done_refusal : 0 ≡ n → 0 ≡ (called n old new).refusal
  unfolding called
  done_refusal e = e

  pub done_lent : 0 ≡ n → new ≡ (called n old new).lent
  unfolding called
  done_lent e = sym (stands_new n old new (sym e))

  -- a refusal: what stood there
  module _ (r : Refusal) (e : number_of r ≡ n) where
    pub refused_refusal : number_of r ≡ (called n old new).refusal
    unfolding called
    refused_refusal = e

    pub refused_lent : old ≡ (called n old new).lent
    unfolding called
    refused_lent = sym (stands_old n old new (not_zero r n e))
