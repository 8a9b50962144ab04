-- A check as arithmetic on one number, whose lowest bit is the register's highest coefficient: its steps are linear, for any taps, so k steps are
-- the other bits moved down and the low k bits' own steps. A message and its check bytes leave the same remainder, whatever the message.
-- Assumes nothing.
use mathlib.Core.Path.{◌≡◌, refl, sym, ap, ap₂, ◌∙◌}
use mathlib.Core.List.{List, [], ◌∷◌, ◌++◌}
use Prim.Native.Nat.{ℕ, zero, suc, ◌+◌, ◌-◌, ◌*◌, ◌/◌, ◌%◌, ◌^◌, ◌≤◌, ◌<◌}
use native.Mathlib.Nat.{mod-lt, mul-zero, mul-one, pow-suc, zero-add}
use native.Mathlib.Omega.{arith}
use lib.Dec.{eqb, eqb→eq}
use lib.ListN.{replicate}
use lib.Pow.{pow_pos, split}
use lib.Bits.{bit_xor, differ, xor_zero_r, xor_comm, xor_self, xor_shifted, xor_block, xor_lt, shifted_half, shifted_even}
use Rattle.laws.proofs.Table.{at}
use Rattle.laws.proofs.Xor.{Bit, b0, b1, bit_of_lem, half_xor, odd_xor, xor_assoc, xor_swap}

-- one step: the register moves by one place, and where a 1 fell out the taps are turned over
unfoldable pub shift : ℕ → ℕ → ℕ
shift taps r = bit_xor (r / 2) (taps * (r % 2))

unfoldable pub shifts : ℕ → ℕ → ℕ → ℕ
shifts taps zero r = r
shifts taps (suc n) r = shifts taps n (shift taps r)

-- a byte is laid over the eight bits that fall out next, and eight steps are made
unfoldable pub check_byte : ℕ → ℕ → ℕ → ℕ
check_byte taps r b = shifts taps 8 (bit_xor r (b % 256))

unfoldable pub check_from : ℕ → ℕ → List ℕ → ℕ
check_from taps r [] = r
check_from taps r (b ∷ bs) = check_from taps (check_byte taps r b) bs

-- n bytes of the complement, the lowest first
unfoldable pub check_bytes : ℕ → ℕ → List ℕ
check_bytes zero r = []
check_bytes (suc n) r = (255 - r % 256) ∷ check_bytes n (r / 256)

tap : (t : ℕ) {x y : ℕ} → Bit x → Bit y → t * differ x y ≡ bit_xor (t * x) (t * y)
tap t b0 b0 = ap (λ (z : ℕ). bit_xor z (t * 0)) (sym (mul-zero t))
tap t b0 b1 = ap (λ (z : ℕ). bit_xor z (t * 1)) (sym (mul-zero t))
tap t b1 b0 = sym (xor_zero_r (t * 1)) ∙ ap (bit_xor (t * 1)) (sym (mul-zero t))
tap t b1 b1 = mul-zero t ∙ sym (xor_self (t * 1))

module _ (t : ℕ) where
  pub shift_xor : (a b : ℕ) → shift t (bit_xor a b) ≡ bit_xor (shift t a) (shift t b)
  unfolding shift
  shift_xor a b =
      ap₂ (λ (x y : ℕ). bit_xor x (t * y)) (half_xor a b) (odd_xor a b)
      ∙ ap (bit_xor (bit_xor (a / 2) (b / 2))) (tap t (bit_of_lem a) (bit_of_lem b))
      ∙ xor_swap (a / 2) (b / 2) (t * (a % 2)) (t * (b % 2))

  pub shifts_xor : (n a b : ℕ) → shifts t n (bit_xor a b) ≡ bit_xor (shifts t n a) (shifts t n b)
  unfolding shifts
  shifts_xor zero a b = refl
  shifts_xor (suc n) a b = ap (shifts t n) (shift_xor a b) ∙ shifts_xor n (shift t a) (shift t b)

  pub shift_even : (k a : ℕ) → shift t (a * 2 ^ suc k) ≡ a * 2 ^ k
  unfolding shift
  shift_even k a =
      ap₂ (λ (x y : ℕ). bit_xor x (t * y)) (shifted_half a k) (shifted_even a k)
      ∙ ap (bit_xor (a * 2 ^ k)) (mul-zero t) ∙ xor_zero_r (a * 2 ^ k)

  shifts_even : (k a : ℕ) → shifts t k (a * 2 ^ k) ≡ a
  unfolding shifts
  shifts_even zero a = mul-one a
  shifts_even (suc k) a = ap (shifts t k) (shift_even k a) ∙ shifts_even k a

  -- k steps: the bits above the low k moved down, and the low bits' own steps
  pub shifts_split : (k x : ℕ) → shifts t k x ≡ bit_xor (x / 2 ^ k) (shifts t k (x % 2 ^ k))
  shifts_split k x =
      ap (shifts t k) (sym (split x k) ∙ sym (xor_shifted (x / 2 ^ k) k (x % 2 ^ k) (mod-lt x (pow_pos k))))
      ∙ shifts_xor k (x / 2 ^ k * 2 ^ k) (x % 2 ^ k)
      ∙ ap (λ (y : ℕ). bit_xor y (shifts t k (x % 2 ^ k))) (shifts_even k (x / 2 ^ k))

  pub from_append : (r : ℕ) (xs ys : List ℕ) → check_from t r (xs ++ ys) ≡ check_from t (check_from t r xs) ys
  unfolding check_from
  from_append r [] ys = refl
  from_append r (x ∷ xs) ys = from_append (check_byte t r x) xs ys

  -- ---- a register of k bits stays one

  tap_le : {x : ℕ} → Bit x → t * x ≤ t
  tap_le b0 = omega (arith, mul-zero t)
  tap_le b1 = omega (arith, mul-one t)

  shift_lt : (k r : ℕ) → t < 2 ^ k → r < 2 ^ k → shift t r < 2 ^ k
  unfolding shift
  shift_lt k r ht hr = xor_lt k (r / 2) (t * (r % 2)) (omega arith) (omega (arith, tap_le (bit_of_lem r)))

  shifts_lt : (k n r : ℕ) → t < 2 ^ k → r < 2 ^ k → shifts t n r < 2 ^ k
  unfolding shifts
  shifts_lt k zero r ht hr = hr
  shifts_lt k (suc n) r ht hr = shifts_lt k n (shift t r) ht (shift_lt k r ht hr)

  pub byte_lt : (k r b : ℕ) → t < 2 ^ k → 256 ≤ 2 ^ k → r < 2 ^ k → check_byte t r b < 2 ^ k
  unfolding check_byte
  byte_lt k r b ht hk hr = shifts_lt k 8 (bit_xor r (b % 256)) ht (xor_lt k r (b % 256) hr (omega arith))

  pub from_lt : (k r : ℕ) (bs : List ℕ) → t < 2 ^ k → 256 ≤ 2 ^ k → r < 2 ^ k → check_from t r bs < 2 ^ k
  unfolding check_from
  from_lt k r [] ht hk hr = hr
  from_lt k r (b ∷ bs) ht hk hr = from_lt k (check_byte t r b) bs ht hk (byte_lt k r b ht hk hr)

-- ---- the remainder

-- a byte and its complement differ everywhere
opposite : (k : ℕ) → k < 256 → bit_xor k (255 - k) ≡ 255
opposite k h = eqb→eq (bit_xor k (255 - k)) 255 (at (λ j x. eqb (bit_xor j (255 - j)) 255) (replicate 256 0) tt k h)

-- a register with the complement of its low byte laid over
over : (r : ℕ) → bit_xor r (255 - r % 256) ≡ r / 256 * 256 + 255
over r =
    ap₂ bit_xor (sym (split r 8)) (sym (zero-add (255 - r % 256)))
    ∙ xor_block 8 (r / 256) 0 (r % 256) (255 - r % 256) (mod-lt r (pow_pos 8)) (omega arith)
    ∙ ap₂ (λ (x y : ℕ). x * 256 + y) (xor_zero_r (r / 256)) (opposite (r % 256) (mod-lt r (pow_pos 8)))

-- what is left of the register's own mark c after n check bytes
unfoldable pub residue : ℕ → ℕ → ℕ → ℕ
residue t zero c = c
residue t (suc n) c = residue t n (bit_xor (shifts t 8 255) (shifts t 8 c))

module _ (t : ℕ) where
  check_byte_lem : (r c : ℕ) → check_byte t (bit_xor r c) (255 - r % 256) ≡ bit_xor (r / 256) (bit_xor (shifts t 8 255) (shifts t 8 c))
  unfolding check_byte
  check_byte_lem r c =
      let b : (255 - r % 256) % 256 ≡ 255 - r % 256 = omega arith in
      ap (λ (x : ℕ). shifts t 8 (bit_xor (bit_xor r c) x)) b
      ∙ ap (shifts t 8) (xor_assoc r c (255 - r % 256) ∙ ap (bit_xor r) (xor_comm c (255 - r % 256))
      ∙ sym (xor_assoc r (255 - r % 256) c) ∙ ap (λ (x : ℕ). bit_xor x c) (over r))
      ∙ shifts_xor t 8 (r / 256 * 256 + 255) c
      ∙ ap (λ (x : ℕ). bit_xor x (shifts t 8 c))
      (let q : (r / 256 * 256 + 255) / 256 ≡ r / 256 = omega arith in
      let m : (r / 256 * 256 + 255) % 256 ≡ 255 = omega arith in
      shifts_split t 8 (r / 256 * 256 + 255) ∙ ap₂ (λ (x y : ℕ). bit_xor x (shifts t 8 y)) q m)
      ∙ xor_assoc (r / 256) (shifts t 8 255) (shifts t 8 c)

  check_bytes_lem : (n r c : ℕ) → r < 256 ^ n → check_from t (bit_xor r c) (check_bytes n r) ≡ residue t n c
  unfolding check_bytes check_from residue
  check_bytes_lem zero zero c h = refl
  check_bytes_lem zero (suc r) c h = absurd (omega (arith, h))
  check_bytes_lem (suc n) r c h =
      ap (λ (x : ℕ). check_from t x (check_bytes n (r / 256))) (check_byte_lem r c)
      ∙ check_bytes_lem n (r / 256) (bit_xor (shifts t 8 255) (shifts t 8 c)) (let e : 256 ^ suc n ≡ 256 ^ n * 256 = pow-suc 256 n in omega (arith, h, e))

  -- a register's own n check bytes leave the same in it, whatever it was
  pub remainder : (n r : ℕ) → r < 256 ^ n → check_from t r (check_bytes n r) ≡ residue t n 0
  remainder n r h = ap (λ (x : ℕ). check_from t x (check_bytes n r)) (sym (xor_zero_r r)) ∙ check_bytes_lem n r 0 h
