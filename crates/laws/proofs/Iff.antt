-- Two tests that pass alike are one.
-- Assumes nothing.
use mathlib.Core.Path.{◌≡◌, refl}
use mathlib.Core.Bool.{Bool, true, false}
use lib.Dec.{T}

pub iff_eq : (a b : Bool) → (T a → T b) → (T b → T a) → a ≡ b
iff_eq true true f g = refl
iff_eq true false f g = absurd (f tt)
iff_eq false true f g = absurd (g tt)
iff_eq false false f g = refl
