-- A number's digits: at most five, and without the zeros before them what is written.
-- Assumes nothing.
use mathlib.Core.Path.{◌≡◌, ap₂, ◌∙◌}
use mathlib.Core.List.{List}
use Prim.Native.Nat.{ℕ, ◌-◌, ◌≤◌}
use native.Mathlib.Omega.{arith}
use lib.Dec.{ltb}
use lib.ListN.{length, take, drop, length-drop}
use lib.Seq.{take_all}
use Rattle.laws.proofs.Cases.{by_cases}
use Rattle.listing_rules.specs.Text.{five_digits, leading_zeros, decimal}

pub zeros_low : (n : ℕ) → leading_zeros n ≤ 4
zeros_low n =
    by_cases (λ (k : ℕ). k ≤ 4) (ltb n 10) (λ t. omega arith)
    (λ t. by_cases (λ (k : ℕ). k ≤ 4) (ltb n 100) (λ u. omega arith)
    (λ u. by_cases (λ (k : ℕ). k ≤ 4) (ltb n 1000) (λ v. omega arith)
    (λ v. by_cases (λ (k : ℕ). k ≤ 4) (ltb n 10000) (λ w. omega arith) (λ w. omega arith))))

pub decimal_short : (n : ℕ) → length (decimal n) ≤ 5
unfolding decimal
decimal_short n = simp length-drop (omega arith)

-- the part of the digits that the code copies
pub decimal_part : (n : ℕ) (digits : List ℕ) (zeros : ℕ) → digits ≡ five_digits n → zeros ≡ leading_zeros n → take (5 - zeros)
    (drop zeros digits) ≡ decimal n
unfolding decimal
decimal_part n digits zeros e f =
    ap₂ (λ (l : List ℕ) (z : ℕ). take (5 - z) (drop z l)) e f
    ∙ take_all (5 - leading_zeros n) (drop (leading_zeros n) (five_digits n)) (simp length-drop (omega arith))
