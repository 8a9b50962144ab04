-- What a test made of two says of each.
-- Assumes nothing.
use mathlib.Core.Path.{◌≡◌, refl, sym, subst}
use mathlib.Core.Bool.{Bool, true, false, cond, not, ◌&&◌, ◌||◌}
use lib.Dec.{T}

pub and_left : (a b : Bool) → T (a && b) → T a
and_left true b t = tt
and_left false b t = t

pub and_right : (a b : Bool) → T (a && b) → T b
and_right true b t = t
and_right false b t = absurd t

pub and_both : (a b : Bool) → T a → T b → T (a && b)
and_both true b t u = u
and_both false b t u = absurd t

-- `not a || b` is 'if a then b'
pub implied : (a b : Bool) → T a → T (not a || b) → T b
implied true b t u = u
implied false b t u = absurd t

pub true_t : (b : Bool) → b ≡ true → T b
true_t b e = subst T (sym e) tt

pub T_true : (b : Bool) → T b → b ≡ true
T_true true t = refl
T_true false t = absurd t

-- a test whether two are the same
abbrev pub agree : Bool → Bool → Bool
agree a b = cond a b (not b)

pub agree_eq : (a b : Bool) → T (agree a b) → a ≡ b
agree_eq true true t = refl
agree_eq true false t = absurd t
agree_eq false true t = absurd t
agree_eq false false t = refl
