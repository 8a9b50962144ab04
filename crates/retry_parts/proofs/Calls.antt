-- A call whose refusal's number is known: what it answers, and what it leaves of what it was lent.
-- Assumes nothing.
use mathlib.Core.Path.{◌≡◌, sym, ◌∙◌, ap}
use mathlib.Core.List.{List}
use Prim.Native.Nat.{ℕ}
use lib.Dec.{eqb}
use borrow.Author.Tests.{eqb-true}
use Rattle.std.specs.Prelude.{Result, Ok, Err, IsErrAnd}
use Rattle.laws.proofs.Cases.{by_test, cond_true, cond_false}
use Rattle.refusal.specs.declared.Refusal.{Refusal}
use Rattle.refusal.specs.Order.{Check, refusal_of, outcome}
use Rattle.refusal.proofs.Laws.{done, refused}

module _ {A : Type 0} (cs : List Check) (n : ℕ) (is : n ≡ refusal_of cs) (f : ℕ → A) (x : A) {r : A} where
  -- it is refused, and its answer is what is made of the number
  pub refuses : (n ≡ 0 → ⊥) → r ≡ f n → r ≡ outcome cs f x
  refuses h e = e ∙ ap f is ∙ sym (refused cs f x (λ z. h (is ∙ z)))

  -- it is not refused, and its answer is its work
  pub works : n ≡ 0 → r ≡ x → r ≡ outcome cs f x
  works h e = e ∙ sym (done cs f x (sym is ∙ h))

-- a call that answers with its refusal's number, whatever it is
pub answers_number : {A : Type 0} (cs : List Check) (n : ℕ) → n ≡ refusal_of cs → (f : ℕ → A) → f n ≡ outcome cs f (f 0)
answers_number cs n is f =
    by_test (eqb (refusal_of cs) 0)
    (λ t. ap f (is ∙ eqb-true (refusal_of cs) 0 t) ∙ sym (cond_true (eqb (refusal_of cs) 0) (f 0) (f (refusal_of cs)) t))
    (λ t. ap f is ∙ sym (cond_false (eqb (refusal_of cs) 0) (f 0) (f (refusal_of cs)) t))

-- what `?` hands back of a refusal
pub handed_back : {A : Type 0} (answer : Result A Refusal) (r : Refusal) → IsErrAnd answer (λ s. s ≡ r) → answer ≡ Err r
handed_back (Ok x) r e = absurd e
handed_back (Err s) r e = ap Err e
