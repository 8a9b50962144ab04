-- Exclusive-or of numbers: the laws that the library has not.
-- Assumes nothing.
use mathlib.Core.Path.{◌≡◌, refl, sym, ap, ap₂, ◌∙◌}
use Prim.Native.Nat.{ℕ, zero, suc, ◌+◌, ◌*◌, ◌/◌, ◌%◌, ◌<◌}
use native.Mathlib.Nat.{mod-lt, zero-lt-suc}
use native.Mathlib.Omega.{arith}
use lib.Arith.{bin_ind}
use lib.Bits.{bit_xor, differ, xor_step, xor_comm, xor_shr, xor_mod}

pub data Bit : ℕ → Type 0 where
  b0 : Bit 0
  b1 : Bit 1

bit : (x : ℕ) → x < 2 → Bit x
bit zero h = b0
bit (suc zero) h = b1
bit (suc (suc x)) h = absurd (omega arith)

pub bit_of_lem : (x : ℕ) → Bit (x % 2)
bit_of_lem x = bit (x % 2) (mod-lt x (zero-lt-suc 1))

differ_assoc : {x y z : ℕ} → Bit x → Bit y → Bit z → differ (differ x y) z ≡ differ x (differ y z)
differ_assoc b0 y z = refl
differ_assoc b1 b0 z = refl
differ_assoc b1 b1 b0 = refl
differ_assoc b1 b1 b1 = refl

pub half_xor : (a b : ℕ) → bit_xor a b / 2 ≡ bit_xor (a / 2) (b / 2)
half_xor a b = xor_shr a b 1

pub odd_xor : (a b : ℕ) → bit_xor a b % 2 ≡ differ (a % 2) (b % 2)
odd_xor a b = go (bit_of_lem a) (bit_of_lem b) (xor_mod a b 1)
  where
    go : {x y r : ℕ} → Bit x → Bit y → r ≡ bit_xor x y → r ≡ differ x y
    go b0 b0 e = e
    go b0 b1 e = e
    go b1 b0 e = e
    go b1 b1 e = e

pub xor_assoc : (a b c : ℕ) → bit_xor (bit_xor a b) c ≡ bit_xor a (bit_xor b c)
xor_assoc a =
    bin_ind (λ (n : ℕ). (b c : ℕ) → bit_xor (bit_xor n b) c ≡ bit_xor n (bit_xor b c)) (λ b c. refl)
    (λ n ih b c.
    xor_step (bit_xor n b) c
    ∙ ap₂ (λ (x y : ℕ). bit_xor x (c / 2) * 2 + differ y (c % 2)) (half_xor n b) (odd_xor n b)
    ∙ ap₂ (λ (x y : ℕ). x * 2 + y) (ih (b / 2) (c / 2)) (differ_assoc (bit_of_lem n) (bit_of_lem b) (bit_of_lem c))
    ∙ sym (ap₂ (λ (x y : ℕ). bit_xor (n / 2) x * 2 + differ (n % 2) y) (half_xor b c) (odd_xor b c))
    ∙ sym (xor_step n (bit_xor b c))) a

pub xor_swap : (a b c d : ℕ) → bit_xor (bit_xor a b) (bit_xor c d) ≡ bit_xor (bit_xor a c) (bit_xor b d)
xor_swap a b c d =
    xor_assoc a b (bit_xor c d)
    ∙ ap (bit_xor a) (sym (xor_assoc b c d) ∙ ap (λ (x : ℕ). bit_xor x d) (xor_comm b c) ∙ xor_assoc c b d)
    ∙ sym (xor_assoc a c (bit_xor b d))
