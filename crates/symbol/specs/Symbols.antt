-- Document 01, "Characters": a symbol is a byte and a control mark; which are control, writable, and open a packet.
use Rattle.std.specs.Prelude.{ℕ, ◌+◌, ◌*◌, Bool, true, false, ◌&&◌, ◌||◌, not, List, [], ◌∷◌, ◌++◌, map, eqb}
use Rattle.laws.specs.Lists.{one_of, count_from}
use Rattle.symbol.specs.declared.Symbol.{Symbol}

-- byte = 32 times y + x
abbrev pub byte_of : ℕ → ℕ → ℕ
byte_of x y = 32 * y + x

-- Dx.y and Kx.y, by their byte
abbrev pub data_symbol : ℕ → Symbol
data_symbol b = record { byte = b; control = false }

abbrev pub control_symbol : ℕ → Symbol
control_symbol b = record { byte = b; control = true }

-- the twelve control characters are K28.0 to K28.7, K23.7, K27.7, K29.7, K30.7
abbrev pub twelve : List ℕ
twelve = map (byte_of 28) (count_from 0 8) ++ (byte_of 23 7 ∷ byte_of 27 7 ∷ byte_of 29 7 ∷ byte_of 30 7 ∷ [])

unfoldable pub is_twelve : ℕ → Bool
is_twelve b = one_of b twelve

-- COM, IDL, SPP, SDP, CPP, CDP, ALN, SLP, SUP, EGP, EBP
abbrev pub named : List Symbol
named = map control_symbol (0xBC ∷ 0x1C ∷ 0x3C ∷ 0x5C ∷ 0x9C ∷ 0xDC ∷ 0x7C ∷ 0xF7 ∷ 0xFB ∷ 0xFD ∷ 0xFE ∷ [])

-- data of any byte, or control of the twelve
abbrev pub is_symbol : Symbol → Bool
is_symbol s = not s.control || is_twelve s.byte

-- the writer may be asked for any but K28.7
abbrev pub is_writable : Symbol → Bool
is_writable s = not (s.control && eqb s.byte (byte_of 28 7)) && is_symbol s

-- SDP opens a data packet, SPP a priority packet
abbrev pub opens_packet : Symbol → Bool
opens_packet s = s.control && (eqb s.byte 0x5C || eqb s.byte 0x3C)

-- SLP opens a link management packet
abbrev pub opens_lmp : Symbol → Bool
opens_lmp s = s.control && eqb s.byte 0xF7
