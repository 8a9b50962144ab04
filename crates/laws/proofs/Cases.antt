-- Going by the two cases of a test, and tests that are equal to `true`.
-- Assumes nothing.
use mathlib.Core.Path.{◌≡◌, refl, sym, ap, subst}
use mathlib.Core.Bool.{Bool, true, false, not, cond, ◌&&◌, ◌||◌}
use mathlib.Core.Option.{Option, none, some}
use lib.Dec.{T}

-- what holds of both arms, each with what the test says there, holds of the `cond`
pub by_cases : {A : Type 0} (P : A → Type 0) (b : Bool) {x y : A} → (b ≡ true → P x) → (b ≡ false → P y) → P (cond b x y)
by_cases P true f g = f refl
by_cases P false f g = g refl

pub by_both :
    {A : Type 0} (P : A → Type 0) (a b : Bool) {x y : A} → (a ≡ true → b ≡ true → P x) → (a ≡ false → P y) → (b ≡ false → P y)
    → P (cond (a && b) x y)
by_both P true true f g h = f refl refl
by_both P true false f g h = h refl
by_both P false b f g h = g refl

pub by_test : {X : Type 0} (b : Bool) → (b ≡ true → X) → (b ≡ false → X) → X
by_test true f g = f refl
by_test false f g = g refl

pub false_is_not_true : false ≡ true → ⊥
false_is_not_true p = subst (λ (b : Bool). T (not b)) p tt

pub both_true : (a b : Bool) → a ≡ true → b ≡ true → a && b ≡ true
both_true true b p q = q
both_true false b p q = p

pub first_true : (a b : Bool) → a && b ≡ true → a ≡ true
first_true true b q = refl
first_true false b q = q

pub second_true : (a b : Bool) → a && b ≡ true → b ≡ true
second_true true b q = q
second_true false b q = absurd (false_is_not_true q)

pub either_true : (a b : Bool) → (a ≡ false → b ≡ true) → a || b ≡ true
either_true true b f = refl
either_true false b f = f refl

pub cond_true : {A : Type 0} (b : Bool) (x y : A) → b ≡ true → cond b x y ≡ x
cond_true b x y e = subst (λ (t : Bool). cond t x y ≡ x) (sym e) refl

pub cond_false : {A : Type 0} (b : Bool) (x y : A) → b ≡ false → cond b x y ≡ y
cond_false b x y e = subst (λ (t : Bool). cond t x y ≡ y) (sym e) refl

abbrev is_some : {A : Type 0} → Option A → Bool
is_some none = false
is_some (some x) = true

-- what gives a value is not what gives none
pub some_is_not_none : {A : Type 0} {x : A} → some x ≡ none → ⊥
some_is_not_none e = false_is_not_true (sym (ap is_some e))
