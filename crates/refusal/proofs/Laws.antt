-- What the order of refusals says of every call, whatever its checks.
-- Assumes nothing.
use mathlib.Core.Path.{◌≡◌, sym, ◌∙◌, ap}
use mathlib.Core.Bool.{Bool, cond}
use mathlib.Core.List.{List}
use Prim.Native.Nat.{ℕ}
use borrow.Author.Tests.{eq-eqb, ne_eqb}
use Rattle.refusal.specs.Order.{Check, refusal_of, outcome, left}

module _ {A : Type 0} (cs : List Check) where
  -- a call that is not refused does its work
  pub done : (f : ℕ → A) (x : A) → refusal_of cs ≡ 0 → outcome cs f x ≡ x
  done f x h = ap (λ (b : Bool). cond b x (f (refusal_of cs))) (eq-eqb (refusal_of cs) 0 h)

  -- a call that is refused answers with that number
  pub refused : (f : ℕ → A) (x : A) → (refusal_of cs ≡ 0 → ⊥) → outcome cs f x ≡ f (refusal_of cs)
  refused f x h = ap (λ (b : Bool). cond b x (f (refusal_of cs))) (ne_eqb (refusal_of cs) 0 h)

  -- a refusal hands back what it was given
  pub hands_back : (old new : A) → (refusal_of cs ≡ 0 → ⊥) → left cs old new ≡ old
  hands_back old new h = refused (λ n. old) new h

module _ {A : Type 0} (cs : List Check) (f : ℕ → A) (x : A) (n : ℕ) (apart : x ≡ f n → ⊥) (e : f n ≡ outcome cs f x) where
  -- a call that answers with a refusal, and not with its work, is refused
  stops : refusal_of cs ≡ 0 → ⊥
  stops z = apart (sym (e ∙ done cs f x z))

  -- it leaves what it was lent
  pub refused_leaves : {B : Type 0} (old new : B) → left cs old new ≡ old
  refused_leaves old new = hands_back cs old new stops
