-- A disparity in memory: an i32 lies there as its bits.
-- Assumes nothing.
use mathlib.Core.Path.{◌≡◌, refl, sym, ◌∙◌, ap}
use mathlib.Core.Bool.{Bool, true, false, cond, not}
use Prim.Native.Nat.{zero, suc, ◌<◌, ◌-◌, ◌^◌}
use native.Mathlib.Omega.{arith}
use lib.Dec.{T, eqb}
use lib.IntN.{ℤ, pos, negsuc, neg_ℤ, ◌-ℤ◌}
use mir.Syntax.{w32}
use mir.Val.{SFits, to_z, of_z}
use borrow.Author.Tests.{ne_eqb, not-true, not-false}
use Rattle.character_rules.specs.Disparity.{is_plus, is_minus, is_disparity}
use Rattle.character_rules.proofs.Disparities.{both_ways}

-- what a test of the bits says of the number
pub plus_bits : (z : ℤ) → SFits w32 z → eqb (of_z w32 z) 1 ≡ is_plus z
plus_bits (pos n) h = refl
plus_bits (negsuc n) h =
    let s : n < 2 ^ 31 = h.sfits in
    ne_eqb (2 ^ 32 - suc n) 1 (omega arith)

pub minus_bits : (z : ℤ) → SFits w32 z → eqb (of_z w32 z) 4294967295 ≡ is_minus z
minus_bits (pos n) h =
    let s : n < 2 ^ 31 = h.sfits in
    ne_eqb n 4294967295 (omega arith)
minus_bits (negsuc zero) h = refl
minus_bits (negsuc (suc n)) h =
    let s : suc n < 2 ^ 31 = h.sfits in
    ne_eqb (2 ^ 32 - suc (suc n)) 4294967295 (omega arith) ∙ sym (ne_eqb (suc n) 0 (omega arith))

-- the number that the bits are
abbrev pub again : ℤ → ℤ
again z = to_z w32 (of_z w32 z)

pub back : (z : ℤ) → T (is_disparity z) → again z ≡ z
back = both_ways (λ (z : ℤ). again z ≡ z) refl refl

-- a disparity by its two tests
pub either_yes : (p : Bool) (d e : ℤ) → e ≡ d → p ≡ is_plus e → p ≡ true → true ≡ is_disparity d
either_yes p d e h f t = simp (ap is_plus (sym h) ∙ sym f ∙ t)

pub either_no : (p m : Bool) (d e : ℤ) → e ≡ d → p ≡ is_plus e → p ≡ false → m ≡ is_minus e → m ≡ is_disparity d
either_no p m d e h f t g = g ∙ ap is_minus h ∙ simp (ap is_plus (sym h) ∙ sym f ∙ t)

-- what the test of a disparity said to `if !is_disparity(d)`
pub told_none : (p : Bool) (d e : ℤ) → e ≡ d → p ≡ is_disparity e → not p ≡ true → is_disparity d ≡ false
told_none p d e h f t = ap is_disparity (sym h) ∙ sym f ∙ not-true p t

pub told_disparity : (p : Bool) (d e : ℤ) → e ≡ d → p ≡ is_disparity e → not p ≡ false → is_disparity d ≡ true
told_disparity p d e h f t = ap is_disparity (sym h) ∙ sym f ∙ not-false p t

-- the disparity negated
abbrev pub minus : ℤ → ℤ
minus d = pos 0 -ℤ again d

pub minus_fits : (d : ℤ) → T (is_disparity d) → SFits w32 (minus d)
minus_fits = both_ways (λ (d : ℤ). SFits w32 (minus d)) (record { sfits = lib.Dec.lit< tt }) (record { sfits = lib.Dec.lit< tt })

-- after a block: kept, and turned over
pub keeps : (over : Bool) (d : ℤ) → T (is_disparity d) → over ≡ false → (again d ≡ cond over (neg_ℤ d) d) × T (is_disparity (again d))
keeps over d t e = rw e (both_ways (λ (z : ℤ). (again z ≡ z) × T (is_disparity (again z))) (refl, tt) (refl, tt) d t)

pub turns : (over : Bool) (d : ℤ) → T (is_disparity d) → over ≡ true → (again (minus d) ≡ cond over (neg_ℤ d) d) × T (is_disparity (again (minus d)))
turns over d t e =
    rw e (both_ways (λ (z : ℤ). (again (minus z) ≡ neg_ℤ z) × T (is_disparity (again (minus z)))) (refl, tt) (refl, tt) d t)
