-- One byte: the register's upper half moved down, and what the low byte alone leaves; by the table and without one.
-- Assumes nothing.
use mathlib.Core.Path.{◌≡◌, sym, ap, ap₂, ◌∙◌}
use mathlib.Core.Bool.{Bool, xor}
use mathlib.Core.List.{[], ◌∷◌}
use Prim.Native.Nat.{ℕ, ◌*◌, ◌/◌, ◌%◌, ◌<◌}
use native.Mathlib.Omega.{arith}
use lib.Dec.{eqb, eqb→eq}
use lib.ListN.{get_or}
use lib.Bits.{bit_xor, xor_zero_l, xor_zero_r, xor_shr}
use Rattle.laws.specs.Lists.{count_from}
use Rattle.laws.specs.Check.{overlay, check_bit, check_bits, lowest_first, number_of, bits_of}
use Rattle.laws.proofs.Table.{at}
use Rattle.laws.proofs.Shifts.{shift, shifts, check_byte, check_from, shifts_split}
use Rattle.crc.specs.Crc16.{crc_from, crc_byte, entries}
use Rattle.crc.proofs.Laws.{arithmetic}

-- what the low byte alone leaves: eight steps of it
alone : (k : ℕ) → k < 256 → crc_byte 0 k ≡ shifts 0x8408 8 k
unfolding check_from check_byte
alone k h =
    let m : k % 256 ≡ k = omega arith in
    arithmetic 0 (k ∷ []) ∙ ap (shifts 0x8408 8) (xor_zero_l (k % 256) ∙ m)

pub by_halves : (c b : ℕ) → c < 65536 → b < 256 → crc_byte c b ≡ bit_xor (c / 256) (crc_byte 0 (bit_xor c b % 256))
unfolding check_from check_byte
by_halves c b hc hb =
    let mc : c % 65536 ≡ c = omega arith in
    let mb : b % 256 ≡ b = omega arith in
    let db : b / 256 ≡ 0 = omega arith in
    let z = bit_xor c b in
    arithmetic c (b ∷ [])
    ∙ ap₂ (λ (x y : ℕ). shifts 0x8408 8 (bit_xor x y)) mc mb
    ∙ shifts_split 0x8408 8 z
    ∙ ap₂ bit_xor (xor_shr c b 8 ∙ ap (bit_xor (c / 256)) db ∙ xor_zero_r (c / 256)) (sym (alone (z % 256) (omega arith)))

-- without a table: what falls out, laid over itself four places on, goes back in at three places
abbrev pub spread : ℕ → ℕ
spread x = let o = bit_xor x (x * 16 % 256) in bit_xor (o * 256) (bit_xor (o * 8) (o / 16))

test : ℕ → ℕ → Bool
test k x = eqb (spread k) (shifts 0x8408 8 k)

pub by_moves : (k : ℕ) → k < 256 → spread k ≡ crc_byte 0 k
unfolding test shifts shift
by_moves k h = eqb→eq (spread k) (shifts 0x8408 8 k) (at test (count_from 0 256) tt k h) ∙ sym (alone k h)

right : ℕ → ℕ → Bool
right k x = eqb x (crc_byte 0 k)

-- THE TABLE'S RULE
pub by_table : (k : ℕ) → k < 256 → get_or entries k 0 ≡ crc_byte 0 k
unfolding right entries crc_from number_of check_bits check_bit overlay lowest_first bits_of xor
by_table k h = eqb→eq (get_or entries k 0) (crc_byte 0 k) (at right entries tt k h)
