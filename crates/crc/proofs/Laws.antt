-- What the next rooms need of CRC-16: how the register goes on, that it stays one, its check bytes, and the manual's remainder.
-- Assumes nothing.
use mathlib.Core.Path.{◌≡◌, refl, sym, ap, ◌∙◌}
use mathlib.Core.Bool.{xor}
use mathlib.Core.List.{List, [], ◌∷◌, ◌++◌}
use Prim.Native.Nat.{ℕ, ◌-◌, ◌/◌, ◌%◌, ◌<◌}
use native.Mathlib.Omega.{arith}
use Rattle.laws.specs.Check.{coefficients, overlay, check_bit, check_bits, lowest_first, number_of, bits_of, bytes_of}
use Rattle.laws.proofs.Shifts.{shift, shifts, check_from, check_bytes, residue, from_append, from_lt, remainder}
use Rattle.laws.proofs.Check.{number_bytes, number_lowest, bytes_placed}
use Rattle.crc.specs.Crc16.{polynomial, register_of, crc_start, crc_from, crc_byte, check_bytes_of, crc_of}

-- the polynomial with X15 lowest
pub taps16 : number_of polynomial ≡ 0x8408
unfolding number_of
taps16 = refl

pub start_value : crc_start ≡ 0xFFFF
unfolding crc_start number_of
start_value = refl

-- the register as arithmetic
pub arithmetic : (c : ℕ) (bs : List ℕ) → crc_from c bs ≡ check_from 0x8408 (c % 65536) bs
unfolding crc_from
arithmetic c bs =
    number_bytes polynomial (register_of c) bs
    ∙ ap (λ (t : ℕ). check_from t (number_of (register_of c)) bs) taps16
    ∙ ap (λ (r : ℕ). check_from 0x8408 r bs) (number_lowest 16 c)

pub crc_lt : (c : ℕ) (bs : List ℕ) → crc_from c bs < 65536
crc_lt c bs = rw (arithmetic c bs) (from_lt 0x8408 16 (c % 65536) bs (omega arith) (omega arith) (omega arith))

-- two runs of bytes, one after the other
pub crc_append : (c : ℕ) (xs ys : List ℕ) → crc_from c (xs ++ ys) ≡ crc_from (crc_from c xs) ys
crc_append c xs ys =
    let m : crc_from c xs % 65536 ≡ crc_from c xs = omega (arith, crc_lt c xs) in
    arithmetic c (xs ++ ys) ∙ from_append 0x8408 (c % 65536) xs ys
    ∙ ap (λ (r : ℕ). check_from 0x8408 r ys) (sym (m ∙ arithmetic c xs))
    ∙ sym (arithmetic (crc_from c xs) ys)

pub crc_cons : (c b : ℕ) (bs : List ℕ) → crc_from c (b ∷ bs) ≡ crc_from (crc_byte c b) bs
crc_cons c b bs = crc_append c (b ∷ []) bs

-- no byte, no change
pub crc_none : (c : ℕ) → c < 65536 → crc_from c [] ≡ c
unfolding check_from
crc_none c h = arithmetic c [] ∙ omega arith

-- the check bytes as arithmetic
placed : (c : ℕ) → check_bytes_of c ≡ check_bytes 2 c
unfolding check_bytes_of
placed c = bytes_placed 2 c

pub check_bytes_lem : (c : ℕ) → check_bytes_of c ≡ (255 - c % 256) ∷ (255 - c / 256 % 256) ∷ []
unfolding check_bytes
check_bytes_lem c = placed c

-- THE MANUAL'S REMAINDER: payload and CRC through the calculator leave 0x1D0F, X15 highest, whatever the payload
pub remainder_1_d0_f : (bs : List ℕ) → register_of (crc_from crc_start (bs ++ crc_of bs)) ≡ coefficients 16 0x1D0F
unfolding crc_of lowest_first residue shifts shift
remainder_1_d0_f bs =
    let r = crc_from crc_start bs in
    let m : r % 65536 ≡ r = omega (arith, crc_lt crc_start bs) in
    ap register_of
    (crc_append crc_start bs (check_bytes_of r) ∙ arithmetic r (check_bytes_of r)
    ∙ ap (λ (x : ℕ). check_from 0x8408 x (check_bytes_of r)) m
    ∙ ap (check_from 0x8408 r) (placed r)
    ∙ remainder 0x8408 2 r (crc_lt crc_start bs))

-- "123456789" gives 6E 90
pub check_value : crc_of (0x31 ∷ 0x32 ∷ 0x33 ∷ 0x34 ∷ 0x35 ∷ 0x36 ∷ 0x37 ∷ 0x38 ∷ 0x39 ∷ []) ≡ 0x6E ∷ 0x90 ∷ []
unfolding crc_of check_bytes_of crc_from crc_start number_of check_bits check_bit overlay lowest_first bits_of bytes_of xor
check_value = refl
