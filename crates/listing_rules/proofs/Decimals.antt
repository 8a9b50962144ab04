-- What stands for a number is its decimal digits, without zeros before them.
-- Assumes nothing.
use mathlib.Core.Path.{◌≡◌, refl, sym}
use mathlib.Core.List.{List, [], ◌∷◌}
use Prim.Native.Nat.{ℕ, ◌+◌, ◌-◌, ◌*◌, ◌/◌, ◌%◌, ◌≤◌, ◌<◌}
use native.Mathlib.Nat.{div-div-eq-div-mul}
use native.Mathlib.Omega.{arith}
use lib.Dec.{ltb}
use lib.ListN.{get_or, drop}
use borrow.Author.Tests.{ltb-true, ltb-false}
use Rattle.laws.proofs.Cases.{by_cases}
use Rattle.listing_rules.specs.Text.{five_digits, decimal}

-- the number that some digits are, after others
abbrev pub value_after : ℕ → List ℕ → ℕ
value_after n [] = n
value_after n (d ∷ ds) = value_after (n * 10 + (d - 48)) ds

pub record Decimal (n : ℕ) (text : List ℕ) : Type 0 where
  pub value : value_after 0 text ≡ n
  -- a zero stands first for the number 0 alone
  pub shortest : get_or text 0 0 ≡ 48 → n ≡ 0

-- a number from its last digit and the number before it
last : (n a k : ℕ) → a ≡ n / 10 → k ≡ a → k * 10 + (48 + n % 10 - 48) ≡ n
last n a k e f = omega arith

-- a quotient by ten again and again
module _ (n : ℕ) where
  hundreds : n / 100 ≡ n / 10 / 10
  hundreds = sym (div-div-eq-div-mul n 10 10)

  thousands : n / 1000 ≡ n / 100 / 10
  thousands = sym (div-div-eq-div-mul n 100 10)

  ten_thousands : n / 10000 ≡ n / 1000 / 10
  ten_thousands = sym (div-div-eq-div-mul n 1000 10)

  abbrev Fits : ℕ → Type 0
  Fits k = Decimal n (drop k (five_digits n))

  one : n < 10 → Fits 4
  one h = record { value = omega arith; shortest = λ e. omega arith }

  two : 10 ≤ n → n < 100 → Fits 3
  two g h = record { value = omega arith; shortest = λ e. omega arith }

  three : 100 ≤ n → n < 1000 → Fits 2
  three g h =
      let a : n / 100 < 10 = omega arith in
      let b = last (n / 100) (n / 1000) 0 thousands (omega arith) in
      let c = last (n / 10) (n / 100) (0 * 10 + (48 + n / 100 % 10 - 48)) hundreds b in
      record { value = last n (n / 10) ((0 * 10 + (48 + n / 100 % 10 - 48)) * 10 + (48 + n / 10 % 10 - 48)) refl c; shortest = λ e. omega arith }

  four : 1000 ≤ n → n < 10000 → Fits 1
  four g h =
      let a : n / 1000 < 10 = omega arith in
      let b = last (n / 1000) (n / 10000) 0 ten_thousands (omega arith) in
      let c = last (n / 100) (n / 1000) (0 * 10 + (48 + n / 1000 % 10 - 48)) thousands b in
      let d = last (n / 10) (n / 100) ((0 * 10 + (48 + n / 1000 % 10 - 48)) * 10 + (48 + n / 100 % 10 - 48)) hundreds c in
      record {
        value = last n (n / 10) (((0 * 10 + (48 + n / 1000 % 10 - 48)) * 10 + (48 + n / 100 % 10 - 48)) * 10 +
            (48 + n / 10 % 10 - 48)) refl d;
        shortest = λ e. omega arith;
      }

  five : 10000 ≤ n → n < 100000 → Fits 0
  five g h =
      let a : n / 10000 < 10 = omega arith in
      let z = last (n / 10000) (n / 10000 / 10) 0 refl (omega arith) in
      let b = last (n / 1000) (n / 10000) (0 * 10 + (48 + n / 10000 % 10 - 48)) ten_thousands z in
      let c = last (n / 100) (n / 1000) ((0 * 10 + (48 + n / 10000 % 10 - 48)) * 10 + (48 + n / 1000 % 10 - 48)) thousands b in
      let d = last (n / 10) (n / 100) (((0 * 10 + (48 + n / 10000 % 10 - 48)) * 10 + (48 + n / 1000 % 10 - 48)) * 10 + (48 + n / 100 % 10 - 48)) hundreds c in
      record {
        value = last n (n / 10)
            ((((0 * 10 + (48 + n / 10000 % 10 - 48)) * 10 + (48 + n / 1000 % 10 - 48)) * 10 + (48 + n / 100 % 10 - 48)) * 10 +
            (48 + n / 10 % 10 - 48)) refl d;
        shortest = λ e. omega arith;
      }

  pub is_decimal : n < 100000 → Decimal n (decimal n)
  unfolding decimal
  is_decimal h =
      by_cases Fits (ltb n 10) (λ t. one (ltb-true n 10 t))
      (λ t. by_cases Fits (ltb n 100) (λ u. two (ltb-false n 10 t) (ltb-true n 100 u))
      (λ u. by_cases Fits (ltb n 1000) (λ v. three (ltb-false n 100 u) (ltb-true n 1000 v))
      (λ v. by_cases Fits (ltb n 10000) (λ w. four (ltb-false n 1000 v) (ltb-true n 10000 w)) (λ w. five (ltb-false n 10000 w) h))))
