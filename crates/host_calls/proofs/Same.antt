-- What is the same for every call that answers with a refusal or with values.
-- Assumes nothing.
use Prim.Native.Nat.{ℕ}
use mathlib.Core.Path.{◌≡◌, refl, ap, ◌∙◌}
use lib.Dec.{eqb}
use Rattle.laws.proofs.Cases.{by_cases}
use Rattle.host_rules.proofs.Numbers.{refused_called}
use Rattle.host_rules.specs.Numbers.{stands, Called, called}

-- where the call makes of all that is lent what stood there, it stands as it stood, whatever the number
pub same_called : {A : Type 0} (n : ℕ) (old : A) → called n old old ≡ record { refusal = n; lent = old }
unfolding called stands
same_called {A} n old =
    by_cases (λ (l : A). ◌≡◌ {A = Called A} (record { refusal = n; lent = l }) (record { refusal = n; lent = old })) (eqb n 0) (λ t. refl) (λ t. refl)

-- a call whose number is 0 is done
pub call_done : {A : Type 0} (n : ℕ) (old new : A) → n ≡ 0 → called n old new ≡ record { refusal = 0; lent = new }
unfolding called stands
call_done {A} n old new z = ap (λ (k : ℕ). called k old new) z

-- and one whose number is a refusal's is refused with it
pub call_refused :
    {A : Type 0} (n m : ℕ) (old new : A) → n ≡ m → (m ≡ 0 → ⊥) → called n old new ≡ record { refusal = m; lent = old }
call_refused {A} n m old new e h = ap (λ (k : ℕ). called k old new) e ∙ refused_called m old new h
