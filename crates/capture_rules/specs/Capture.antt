-- Document 01, "Captures": ten-bit characters, bit a first, packed most significant first, then zero bits to the end of the byte.
-- In a character's number a is the highest bit; a byte's most significant bit is its first. So both are `bits`, highest first.
use Rattle.std.specs.Prelude.{ℕ, ◌+◌, ◌-◌, ◌*◌, ◌/◌, ◌%◌, ◌<◌, ◌≡◌, Bool, not, ◌&&◌, List, ◌++◌, eqb, leb, length, drop, replicate}
use Rattle.laws.specs.Groups.{all_zero, bits_of, numbers}

-- some bytes are some characters packed: their bits are the characters' bits, and then zero bits, fewer than a byte
pub record Packed (characters bytes : List ℕ) : Type 0 where
  pub closing : ℕ
  pub fewer : closing < 8
  pub line : bits_of 8 bytes ≡ bits_of 10 characters ++ replicate closing 0

-- a capture of L bytes holds 8 times L divided by 10, rounded down, characters
abbrev pub character_count : ℕ → ℕ
character_count l = 8 * l / 10

unfoldable pub characters_of : List ℕ → List ℕ
characters_of capture = numbers 10 (character_count (length capture)) (bits_of 8 capture)

-- the bits after the last character
unfoldable pub closing_bits : List ℕ → List ℕ
closing_bits capture = drop (10 * character_count (length capture)) (bits_of 8 capture)

-- L with remainder 1 by 5 is refused, as is a nonzero closing bit, and a capture over 65,535 bytes
unfoldable pub legal : List ℕ → Bool
legal capture = leb (length capture) 65535 && (not (eqb (length capture % 5) 1) && all_zero (closing_bits capture))

-- so many bytes hold n characters: their bits up to the end of a byte
abbrev pub byte_count : ℕ → ℕ
byte_count n = (10 * n + 7) / 8

unfoldable pub pack_of : List ℕ → List ℕ
pack_of characters =
    numbers 8 (byte_count (length characters))
    (bits_of 10 characters ++ replicate (8 * byte_count (length characters) - 10 * length characters) 0)
