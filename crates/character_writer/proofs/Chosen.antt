-- How the two blocks are chosen, by cases over plain numbers: what each way through the writer shows.
-- Assumes nothing.
use mathlib.Core.Path.{◌≡◌, ◌∙◌, ap, ap₂}
use mathlib.Core.Bool.{Bool, true, false, cond}
use Prim.Native.Nat.{ℕ, ◌+◌, ◌*◌, ◌/◌, ◌%◌}
use lib.Dec.{T}
use lib.IntN.{ℤ, neg_ℤ}
use borrow.Author.Tests.{eq-eqb, ne_eqb}
use Rattle.symbol.specs.declared.Symbol.{Symbol}
use Rattle.character_rules.specs.Disparity.{is_plus, is_disparity}
use Rattle.character_rules.specs.Blocks.{unbalanced, turned, in_force, six_listed, six_changes, six_block, four_listed, four_changes, four_by_list}
use Rattle.character_rules.specs.Blocks.{alternate_at_minus, alternate_at_plus, four_block, first_block, between, second_block, character, closing}
use Rattle.character_rules.specs.Answers.{written}
use Rattle.disparity.proofs.Signed.{again, back}

-- a block of the list, set at the disparity in force
pub six_is : (control : Bool) (x b r : ℕ) (plus : Bool) → b ≡ six_listed control x → r ≡ in_force 63 (six_changes control x b) plus b → r ≡ six_block control x plus
unfolding six_block
six_is control x b r plus e g = g ∙ ap (λ (v : ℕ). in_force 63 (six_changes control x v) plus v) e

pub four_is : (control : Bool) (y b r : ℕ) (plus : Bool) → b ≡ four_listed control y → r ≡ in_force 15 (four_changes control y b) plus b → r ≡ four_by_list control y plus
unfolding four_by_list
four_is control y b r plus e g = g ∙ ap (λ (v : ℕ). in_force 15 (four_changes control y v) plus v) e

-- the four-bit block: of control; of y other than 7; the two alternates; and else
pub four_control : (control plus : Bool) (x y : ℕ) → control ≡ true → four_by_list control y plus ≡ four_block control x y plus
unfolding four_block
four_control control plus x y h = simp h

pub four_other : (control plus : Bool) (x y : ℕ) → control ≡ false → (y ≡ 7 → ⊥) → four_by_list control y plus ≡ four_block control x y plus
unfolding four_block
four_other control plus x y h g = simp (h, ne_eqb y 7 g)

module _ (control plus low high : Bool) (x y : ℕ) (h : control ≡ false) (g : y ≡ 7) (e : low ≡ alternate_at_minus x plus) where
  seven : cond low 0b0111 (cond (alternate_at_plus x plus) 0b1000 (four_by_list control y plus)) ≡ four_block control x y plus
  unfolding four_block
  seven = rw (← e, eq-eqb y 7 g) (simp h)

  pub four_at_minus : low ≡ true → ◌≡◌ {A = ℕ} 7 (four_block control x y plus)
  four_at_minus t = rw (t) at seven

  pub four_at_plus : low ≡ false → high ≡ alternate_at_plus x plus → high ≡ true → ◌≡◌ {A = ℕ} 8 (four_block control x y plus)
  four_at_plus t f u = rw (t, ← f, u) at seven

  pub four_else : low ≡ false → high ≡ alternate_at_plus x plus → high ≡ false → four_by_list control y plus ≡ four_block control x y plus
  four_else t f u = rw (t, ← f, u) at seven

-- the whole character, block by block
module _
    (s : Symbol) (p q u v : Bool) (d middle end : ℤ) (first second : ℕ)
    (td : T (is_disparity d)) (tm : T (is_disparity middle)) (te : T (is_disparity end))
    (hp : p ≡ is_plus (again d)) (hs : first ≡ six_block s.control (s.byte % 32) p)
    (hu : u ≡ unbalanced 3 first) (hm : middle ≡ cond u (neg_ℤ (again d)) (again d))
    (hq : q ≡ is_plus (again middle)) (hf : second ≡ four_block s.control (s.byte % 32) (s.byte / 32) q)
    (hv : v ≡ unbalanced 2 second) (he : end ≡ cond v (neg_ℤ (again middle)) (again middle)) where
  first_right : first ≡ first_block s d
  unfolding first_block
  first_right = hs ∙ ap (λ (b : Bool). six_block s.control (s.byte % 32) b) (hp ∙ ap is_plus (back d td))

  middle_right : again middle ≡ between s d
  unfolding between
  middle_right =
      back middle tm ∙ hm ∙ ap (λ (b : Bool). cond b (neg_ℤ (again d)) (again d)) hu
      ∙ ap₂ (λ (n : ℕ) (z : ℤ). turned 3 n z) first_right (back d td)

  second_right : second ≡ second_block s d
  unfolding second_block
  second_right = hf ∙ ap (λ (b : Bool). four_block s.control (s.byte % 32) (s.byte / 32) b) (hq ∙ ap is_plus middle_right)

  end_right : again end ≡ closing s d
  unfolding closing
  end_right =
      back end te ∙ he ∙ ap (λ (b : Bool). cond b (neg_ℤ (again middle)) (again middle)) hv
      ∙ ap₂ (λ (n : ℕ) (z : ℤ). turned 2 n z) second_right middle_right

  pub blocks_right : written (first * 16 + second) (again end) ≡ written (character s d) (closing s d)
  unfolding character
  blocks_right = ap₂ written (ap₂ (λ (a b : ℕ). a * 16 + b) first_right second_right) end_right
