-- What a lent thing holds after a call, by the number that the call answers.
-- Assumes nothing.
use Prim.Native.Nat.{ℕ}
use mathlib.Core.Path.{◌≡◌, ap}
use mathlib.Core.Bool.{Bool, cond}
use borrow.Author.Tests.{eq-eqb, ne_eqb}
use Rattle.host_rules.specs.Numbers.{stands, called}

module _ {A : Type 0} (n : ℕ) (old new : A) where
  -- a refusal leaves it as it stood
  pub stands_old : (n ≡ 0 → ⊥) → stands n old new ≡ old
  unfolding stands
  stands_old h = ap (λ (b : Bool). cond b new old) (ne_eqb n 0 h)

  pub stands_new : n ≡ 0 → stands n old new ≡ new
  unfolding stands
  stands_new h = ap (λ (b : Bool). cond b new old) (eq-eqb n 0 h)

  -- THE LAW of refusals, once for all calls: everything lent is what stood there
  pub lent_stands : ((called n old new).refusal ≡ 0 → ⊥) → (called n old new).lent ≡ old
  unfolding called
  lent_stands h = stands_old h

  pub refused_called : (n ≡ 0 → ⊥) → called n old new ≡ record { refusal = n; lent = old }
  unfolding called
  refused_called h = ap (λ (l : A). record { refusal = n; lent = l }) (stands_old h)

  pub done_called : n ≡ 0 → called n old new ≡ record { refusal = n; lent = new }
  unfolding called
  done_called h = ap (λ (l : A). record { refusal = n; lent = l }) (stands_new h)
