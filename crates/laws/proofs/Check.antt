-- The bit by bit check is the arithmetic of Shifts, at any width and polynomial.
-- Assumes nothing.
use mathlib.Core.Path.{◌≡◌, refl, sym, ap, ap₂, ◌∙◌}
use mathlib.Core.Bool.{Bool, true, false, cond, not, xor}
use mathlib.Core.List.{List, [], ◌∷◌, ◌++◌, map}
use Prim.Native.Nat.{ℕ, zero, suc, ◌+◌, ◌-◌, ◌*◌, ◌/◌, ◌%◌, ◌^◌, ◌<◌}
use native.Mathlib.Nat.{mul-zero, mul-one, zero-add, suc-add, mod-lt, pow-suc}
use native.Mathlib.Numerals.{add-one}
use native.Mathlib.Omega.{arith}
use lib.Dec.{eqb}
use lib.Pow.{mod-pow-add, pow_pos, shr-shr}
use lib.Bits.{bit_xor, xor_zero_l, xor_zero_r, xor_comm, xor_block, xor_shifted}
use Rattle.laws.specs.Check.{overlay, highest, lower, check_bit, check_bits, lowest_first, number_of, bits_of, bytes_of}
use Rattle.laws.proofs.Xor.{Bit, b0, b1, bit_of_lem, xor_assoc}
use Rattle.laws.proofs.Shifts.{shift, shifts, check_byte, check_from, check_bytes, shift_xor, shift_even}

abbrev one : Bool → ℕ
one b = cond b 1 0

odd : {x : ℕ} → Bit x → one (eqb x 1) ≡ x
odd b0 = refl
odd b1 = refl

-- the low bits of a number, without the lowest and with it
low_more : (k n : ℕ) → n % 2 ^ suc k ≡ n / 2 % 2 ^ k * 2 + n % 2
low_more k n = ap (λ (j : ℕ). n % 2 ^ j) (sym (add-one k)) ∙ mod-pow-add n k 1

one_lt : (b : Bool) → one b < 2
one_lt true = omega arith
one_lt false = omega arith

one_xor : (a b : Bool) → one (xor a b) ≡ bit_xor (one a) (one b)
unfolding xor
one_xor true true = refl
one_xor true false = refl
one_xor false true = refl
one_xor false false = refl

pub number_overlay : (xs ys : List Bool) → number_of (overlay xs ys) ≡ bit_xor (number_of xs) (number_of ys)
unfolding number_of overlay
number_overlay [] ys = sym (xor_zero_l (number_of ys))
number_overlay (x ∷ xs) [] = sym (xor_zero_r (number_of (x ∷ xs)))
number_overlay (x ∷ xs) (y ∷ ys) =
    ap₂ (λ (a b : ℕ). a * 2 + b) (number_overlay xs ys) (one_xor x y)
    ∙ sym (xor_block 1 (number_of xs) (number_of ys) (one x) (one y) (one_lt x) (one_lt y))

number_zero : (xs : List Bool) → number_of (xs ++ (false ∷ [])) ≡ number_of xs
unfolding number_of
number_zero [] = refl
number_zero (x ∷ xs) = ap (λ (n : ℕ). n * 2 + one x) (number_zero xs)

number_split : (r : List Bool) → number_of r ≡ number_of (lower r) * 2 + one (highest r)
unfolding number_of
number_split [] = refl
number_split (x ∷ xs) = refl

laid : (p : List Bool) (b : Bool) → number_of (cond b p []) ≡ number_of p * one b
unfolding number_of
laid p true = sym (mul-one (number_of p))
laid p false = sym (mul-zero (number_of p))

module _ (p : List Bool) where
  abbrev taps : ℕ
  taps = number_of p

  number_bit : (r : List Bool) (b : Bool) → number_of (check_bit p r b) ≡ shift taps (bit_xor (number_of r) (one b))
  unfolding check_bit shift
  number_bit r b =
      let h = highest r in
      let v = number_of (lower r) in
      let x : bit_xor (number_of r) (one b) ≡ v * 2 + one (xor h b) =
      ap₂ bit_xor (number_split r) (sym (zero-add (one b)))
      ∙ xor_block 1 v 0 (one h) (one b) (one_lt h) (one_lt b)
      ∙ ap₂ (λ (y z : ℕ). y * 2 + z) (xor_zero_r v) (sym (one_xor h b)) in
      let l = one_lt (xor h b) in
      let q : (v * 2 + one (xor h b)) / 2 ≡ v = omega (arith, l) in
      let m : (v * 2 + one (xor h b)) % 2 ≡ one (xor h b) = omega (arith, l) in
      number_overlay (lower r ++ (false ∷ [])) (cond (xor h b) p [])
      ∙ ap₂ bit_xor (number_zero (lower r)) (laid p (xor h b))
      ∙ sym (ap (λ (y : ℕ). bit_xor (y / 2) (taps * (y % 2))) x ∙ ap₂ (λ (y z : ℕ). bit_xor y (taps * z)) q m)

  -- k bits of a number through the register: the number's low k bits laid over it, and k steps
  pub number_bits : (k n : ℕ) (r : List Bool) → number_of (check_bits p r (lowest_first k n)) ≡ shifts taps k (bit_xor (number_of r) (n % 2 ^ k))
  unfolding check_bits lowest_first shifts
  number_bits zero n r =
      let z : n % 1 ≡ 0 = omega arith in
      sym (ap (bit_xor (number_of r)) z ∙ xor_zero_r (number_of r))
  number_bits (suc k) n r =
      let b = eqb (n % 2) 1 in
      let m = n / 2 % 2 ^ k in
      let o : one b ≡ n % 2 = odd (bit_of_lem n) in
      let e : n % 2 ^ suc k ≡ m * 2 + n % 2 = low_more k n in
      number_bits k (n / 2) (check_bit p r b)
      ∙ ap (λ (x : ℕ). shifts taps k (bit_xor x m)) (number_bit r b ∙ ap (λ (x : ℕ). shift taps (bit_xor (number_of r) x)) o)
      ∙ ap (shifts taps k)
      (ap (bit_xor (shift taps (bit_xor (number_of r) (n % 2)))) (sym (shift_even taps 0 m ∙ mul-one m))
      ∙ sym (shift_xor taps (bit_xor (number_of r) (n % 2)) (m * 2))
      ∙ ap (shift taps)
      (xor_assoc (number_of r) (n % 2) (m * 2)
      ∙ ap (bit_xor (number_of r)) (xor_comm (n % 2) (m * 2) ∙ xor_shifted m 1 (n % 2) (omega arith) ∙ sym e)))

  bits_append : (r xs ys : List Bool) → check_bits p r (xs ++ ys) ≡ check_bits p (check_bits p r xs) ys
  unfolding check_bits
  bits_append r [] ys = refl
  bits_append r (x ∷ xs) ys = bits_append (check_bit p r x) xs ys

  -- THE LAW: a run of bytes through the register, as arithmetic
  pub number_bytes : (r : List Bool) (bs : List ℕ) → number_of (check_bits p r (bits_of bs)) ≡ check_from taps (number_of r) bs
  unfolding bits_of check_bits check_from check_byte
  number_bytes r [] = refl
  number_bytes r (b ∷ bs) =
      ap number_of (bits_append r (lowest_first 8 b) (bits_of bs))
      ∙ number_bytes (check_bits p r (lowest_first 8 b)) bs
      ∙ ap (λ (x : ℕ). check_from taps x bs) (number_bits 8 b r)

-- a number's low bits, as a number again
pub number_lowest : (k n : ℕ) → number_of (lowest_first k n) ≡ n % 2 ^ k
unfolding number_of lowest_first
number_lowest zero n = omega arith
number_lowest (suc k) n =
    ap₂ (λ (a b : ℕ). a * 2 + b) (number_lowest k (n / 2)) (odd (bit_of_lem n)) ∙ sym (low_more k n)

-- ---- the check bytes of a register: its bits turned over, as bytes

complement : (k n : ℕ) → number_of (map not (lowest_first k n)) ≡ 2 ^ k - 1 - n % 2 ^ k
unfolding number_of lowest_first
complement zero n = omega arith
complement (suc k) n =
    let h : n / 2 % 2 ^ k < 2 ^ k = mod-lt (n / 2) (pow_pos k) in
    let e : 2 ^ suc k ≡ 2 ^ k * 2 = pow-suc 2 k in
    ap₂ (λ (a b : ℕ). a * 2 + b) (complement k (n / 2)) (turned (bit_of_lem n))
    ∙ omega (arith, h, e, low_more k n)
  where
    turned : {x : ℕ} → Bit x → one (not (eqb x 1)) ≡ 1 - x
    turned b0 = refl
    turned b1 = refl

lowest_split : (j k n : ℕ) → lowest_first (j + k) n ≡ lowest_first j n ++ lowest_first k (n / 2 ^ j)
unfolding lowest_first
lowest_split zero k n =
    let e : n / 1 ≡ n = omega arith in
    ap₂ lowest_first (zero-add k) (sym e)
lowest_split (suc j) k n =
    let o : 1 + j ≡ suc j = omega arith in
    ap (λ (m : ℕ). lowest_first m n) (suc-add j k)
    ∙ ap (λ (l : List Bool). eqb (n % 2) 1 ∷ l)
    (lowest_split j k (n / 2)
    ∙ ap (λ (m : ℕ). lowest_first j (n / 2) ++ lowest_first k m) (shr-shr n 1 j ∙ ap (λ (m : ℕ). n / 2 ^ m) o))

-- THE LAW: the complement of a register's bits, as n bytes
pub bytes_placed : (n c : ℕ) → bytes_of n (map not (lowest_first (n * 8) c)) ≡ check_bytes n c
unfolding bytes_of check_bytes lowest_first
bytes_placed zero c = refl
bytes_placed (suc n) c =
    let e : suc n * 8 ≡ 8 + n * 8 = omega arith in
    ap (λ (m : ℕ). bytes_of (suc n) (map not (lowest_first m c))) e
    ∙ ap (λ (l : List Bool). bytes_of (suc n) (map not l)) (lowest_split 8 (n * 8) c)
    ∙ ap₂ ◌∷◌ (complement 8 c) (bytes_placed n (c / 256))
