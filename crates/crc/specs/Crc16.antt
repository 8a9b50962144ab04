-- CRC-16 as the manual's payload error protection has it: every parameter, and where the check bytes stand, in this one file.
use Rattle.std.specs.Prelude.{ℕ, Bool, not, List, [], ◌∷◌, map}
use Rattle.laws.specs.Lists.{count_from}
use Rattle.laws.specs.Check.{coefficients, check_bits, lowest_first, number_of, bits_of, bytes_of}

-- x^16 + x^12 + x^5 + 1, X15 to X0
abbrev pub polynomial : List Bool
polynomial = coefficients 16 0x1021

-- the register as a number: X15, which is first on the line, is its lowest bit
abbrev pub register_of : ℕ → List Bool
register_of c = lowest_first 16 c

-- the start value: all ones
unfoldable pub crc_start : ℕ
crc_start = number_of (coefficients 16 0xFFFF)

-- the register after a run of bytes, the least significant bit of each first
unfoldable pub crc_from : ℕ → List ℕ → ℕ
crc_from c bytes = number_of (check_bits polynomial (register_of c) (bits_of bytes))

abbrev pub crc_byte : ℕ → ℕ → ℕ
crc_byte c b = crc_from c (b ∷ [])

-- THE PLACEMENT: complemented, X15 first on the line, which is the least significant bit of the first byte
unfoldable pub check_bytes_of : ℕ → List ℕ
check_bytes_of c = bytes_of 2 (map not (register_of c))

-- the two check bytes of a message
unfoldable pub crc_of : List ℕ → List ℕ
crc_of bytes = check_bytes_of (crc_from crc_start bytes)

-- a constant table: the register after each byte, from a register of zeros
unfoldable pub entries : List ℕ
entries = map (crc_byte 0) (count_from 0 256)
