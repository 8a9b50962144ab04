-- A run's disparity as a number: 0 for −1, 1 for +1.
-- Assumes nothing.
use mathlib.Core.Path.{◌≡◌, refl, subst, sym, ◌∙◌, ap}
use mathlib.Core.Bool.{Bool, true, false}
use mathlib.Core.List.{List}
use Prim.Native.Nat.{ℕ, ◌/◌, ◌<◌}
use native.Mathlib.Omega.{arith}
use lib.Dec.{eqb, leb}
use borrow.Author.Tests.{eq-eqb, ne_eqb, leb-true, leb-false}
use Rattle.character_rules.specs.Disparity.{disparity_of}
use Rattle.character_rules.specs.Results.{mark}
use Rattle.character_rules.proofs.Packed.{mark_low, mark_is}
use Rattle.character_rules.proofs.RunLaws.{Reached, at_start}

number_is : (plus : Bool) (n : ℕ) → n ≡ mark plus → eqb n 1 ≡ plus
number_is plus n e = ap (λ (k : ℕ). eqb k 1) e ∙ mark_is plus

pub number_low : (plus : Bool) (n : ℕ) → n ≡ mark plus → n < 2
number_low plus n e = omega (arith, e, mark_low plus)

-- a packed result is below 4,096, and its part above 2,048 is that number
pub top_is : (r : ℕ) → r < 4096 → leb 2048 r ≡ eqb (r / 2048) 1
top_is r h = go (leb 2048 r) refl
  where
    go : (b : Bool) → leb 2048 r ≡ b → b ≡ eqb (r / 2048) 1
    go true e = let g = leb-true 2048 r e in sym (eq-eqb (r / 2048) 1 (omega arith))
    go false e = let g = leb-false 2048 r e in sym (ne_eqb (r / 2048) 1 (λ z. omega (arith, z)))

pub start_at : (cs : List ℕ) (plus : Bool) (out : List ℕ) (n : ℕ) → n ≡ mark plus → Reached cs (disparity_of plus) out 0 out (eqb n 1)
start_at cs plus out n e =
    subst (λ (b : Bool). Reached cs (disparity_of plus) out 0 out b) (sym (number_is plus n e)) (at_start cs plus out)
