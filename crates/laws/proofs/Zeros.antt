-- Bits that are all zero: a line of zeros, and a number that the power of two divides.
-- Assumes nothing.
use mathlib.Core.Path.{◌≡◌, refl, sym, ap, ap₂, ◌∙◌, subst}
use mathlib.Core.List.{List, [], ◌∷◌}
use Prim.Native.Nat.{ℕ, zero, suc, ◌+◌, ◌*◌, ◌/◌, ◌%◌, ◌^◌}
use native.Mathlib.Nat.{add-zero, zero-div}
use native.Mathlib.Omega.{arith}
use lib.Dec.{T, eqb, eqb→eq}
use lib.ListN.{length, replicate}
use lib.Pow.{split}
use Rattle.laws.specs.Bits.{bits}
use Rattle.laws.specs.Groups.{all_zero, number}
use Rattle.laws.proofs.Bools.{and_left, and_right}
use Rattle.laws.proofs.Iff.{iff_eq}
use Rattle.laws.proofs.Bits.{number_bits, bits_low}
use Rattle.laws.proofs.Groups.{all_replicate}

pub zeros_line : (bs : List ℕ) → T (all_zero bs) → bs ≡ replicate (length bs) 0
zeros_line [] t = refl
zeros_line (b ∷ bs) t =
    ap₂ (λ (h : ℕ) (l : List ℕ). h ∷ l) (sym (eqb→eq 0 b (and_left (eqb 0 b) (all_zero bs) t))) (zeros_line bs (and_right (eqb 0 b) (all_zero bs) t))

number_zeros : (n : ℕ) → number (replicate n 0) ≡ 0
number_zeros zero = refl
number_zeros (suc n) = let h = number_zeros n in omega arith

pub bits_zero : (k : ℕ) → bits k 0 ≡ replicate k 0
bits_zero zero = refl
bits_zero (suc k) = ap₂ (λ (h : ℕ) (l : List ℕ). h ∷ l) (ap (λ (n : ℕ). n % 2) (zero-div (2 ^ k))) (bits_zero k)

-- the lowest k bits go by the remainder alone
pub bits_mod : (k x : ℕ) → bits k x ≡ bits k (x % 2 ^ k)
bits_mod k x =
    ap (bits k) (sym (split x k))
    ∙ ap (λ (n : ℕ). bits k (x / 2 ^ k * 2 ^ n + x % 2 ^ k)) (sym (add-zero k))
    ∙ bits_low k 0 (x / 2 ^ k) (x % 2 ^ k)

-- the lowest k bits are zero exactly if the remainder is
pub zeros_bits : (k x : ℕ) → all_zero (bits k x) ≡ eqb (x % 2 ^ k) 0
zeros_bits k x =
    iff_eq (all_zero (bits k x)) (eqb (x % 2 ^ k) 0)
    (λ t. subst (λ (n : ℕ). T (eqb n 0)) (sym (number_zeros (length (bits k x))) ∙ ap number (sym (zeros_line (bits k x) t)) ∙ number_bits k x) tt)
    (λ t. subst (λ (l : List ℕ). T (all_zero l)) (sym (bits_mod k x ∙ ap (bits k) (eqb→eq (x % 2 ^ k) 0 t) ∙ bits_zero k)) (all_replicate (eqb 0) k 0 tt))
