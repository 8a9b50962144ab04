-- What writing a packet comes to: its symbols, their characters from a disparity, the refusals, and what the output holds afterwards.
use Rattle.std.specs.Prelude.{ℕ, ◌+◌, ◌*◌, Bool, cond, not, List, [], ◌∷◌, ◌++◌, map, eqb, ltb, ℤ, length, drop, Result, Ok, Err}
use Rattle.std.proofs.Math.Option.{Option, none, some}
use Rattle.std.specs.Int.Bits.{bit_xor}
use Rattle.refusal.specs.declared.Refusal.{Refusal}
use Rattle.refusal.specs.Order.{Check, check, outcome, left, number_of}
use Rattle.symbol.specs.Symbols.{data_symbol}
use Rattle.symbol.specs.declared.Symbol.{Symbol}
use Rattle.character_rules.specs.Disparity.{is_disparity}
use Rattle.character_rules.specs.Writing.{characters_of, closing_of}
use Rattle.packet_rules.specs.declared.Written.{Written}
use Rattle.segment_size.specs.Sizes.{size_allowed}
use Rattle.packet_rules.specs.Answers.{Said, nothing, started, gave_byte, replied}
use Rattle.packet_rules.specs.Line.{SPP, SDP, SLP, closing, closing_said}

-- what one call writes: a data packet, a priority packet, or a retry LMP
pub data Packet : Type 0 where
  in_data : (channel : ℕ) (bytes : List ℕ) (bad : Bool) → Packet
  in_priority : (channel segment : ℕ) (bytes : List ℕ) (bad : Bool) → Packet
  retry : (nack : Bool) (number : ℕ) → Packet

-- SDP or SPP, the opening byte, the bytes, the closing
abbrev pub packet_symbols : Symbol → ℕ → List ℕ → Bool → List Symbol
packet_symbols start opening bytes bad = start ∷ data_symbol opening ∷ (map data_symbol bytes ++ closing bad opening bytes)

-- type 2, parameter 0 is ACK, 1 NACK
abbrev pub retry_byte : Bool → ℕ
retry_byte nack = cond nack 0x21 0x20

unfoldable pub symbols_of : Packet → List Symbol
symbols_of (in_data c bytes bad) = packet_symbols SDP c bytes bad
symbols_of (in_priority c g bytes bad) = packet_symbols SPP (16 * g + c) bytes bad
symbols_of (retry nack n) = SLP ∷ data_symbol (retry_byte nack) ∷ data_symbol n ∷ data_symbol (bit_xor (retry_byte nack) n) ∷ []

-- ---- the refusals: 1 a number out of range, 2 S not allowed or a segment over S bytes, 4 a packet of no bytes, 6 the output too short

abbrev pub packet_checks : ℕ → Packet → ℤ → ℕ → List Check
packet_checks s (in_data c bytes bad) d room =
    check 1 (not (is_disparity d)) ∷ check 1 (ltb 255 c) ∷ check 4 (eqb (length bytes) 0) ∷ check 6 (ltb room (length bytes + 6)) ∷ []
packet_checks s (in_priority c g bytes bad) d room =
    check 1 (not (is_disparity d)) ∷ check 1 (ltb 15 c) ∷ check 1 (ltb 15 g) ∷ check 2 (not (size_allowed s)) ∷ check 2 (ltb s (length bytes))
    ∷ check 4 (eqb (length bytes) 0) ∷ check 6 (ltb room (length bytes + 6)) ∷ []
packet_checks s (retry nack n) d room = check 1 (not (is_disparity d)) ∷ check 1 (ltb 15 n) ∷ check 6 (ltb room 4) ∷ []

-- ---- what a call answers, and what it leaves in the output

-- a refusal's number; or how many characters, and the closing disparity
pub record PacketWriting : Type 0 where
  pub refusal : Option ℕ
  pub count : Option ℕ
  pub disparity : Option ℤ

abbrev pub wrote : ℕ → ℤ → PacketWriting
wrote n e = record { refusal = none; count = some n; disparity = some e }

abbrev pub not_wrote : ℕ → PacketWriting
not_wrote n = record { refusal = some n; count = none; disparity = none }

abbrev pub written_says : Result Written Refusal → PacketWriting
written_says (Ok w) = wrote w.count w.disparity
written_says (Err r) = not_wrote (number_of r)

unfoldable pub packet_writing : ℕ → Packet → ℤ → List ℕ → PacketWriting
packet_writing s p d out = outcome (packet_checks s p d (length out)) not_wrote (wrote (length (symbols_of p)) (closing_of (symbols_of p) d))

-- nothing past the result is touched
unfoldable pub packet_output : ℕ → Packet → ℤ → List ℕ → List ℕ
packet_output s p d out = left (packet_checks s p d (length out)) out (characters_of (symbols_of p) d ++ drop (length (symbols_of p)) out)

-- ---- what reading it says

abbrev pub packet_said : Said → List ℕ → Bool → List Said
packet_said start bytes bad = nothing ∷ start ∷ (map gave_byte bytes ++ closing_said bad)

unfoldable pub said_for : Packet → List Said
said_for (in_data c bytes bad) = packet_said (started c none) bytes bad
said_for (in_priority c g bytes bad) = packet_said (started c (some g)) bytes bad
said_for (retry nack n) = nothing ∷ nothing ∷ nothing ∷ replied nack n ∷ []
