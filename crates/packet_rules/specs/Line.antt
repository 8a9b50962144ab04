-- A legal line, from document 01's sentences alone: who may stand where, and what the reader says of each symbol. It knows no state.
use Rattle.std.specs.Prelude.{ℕ, ◌+◌, ◌*◌, ◌≤◌, ◌<◌, ◌≡◌, Bool, false, cond, ◌&&◌, ◌||◌, List, [], ◌∷◌, ◌++◌, map, eqb, ltb, ℤ, length}
use Rattle.std.proofs.Math.Option.{none, some}
use Rattle.std.specs.Int.Bits.{bit_xor}
use Rattle.symbol.specs.Symbols.{data_symbol, control_symbol}
use Rattle.symbol.specs.declared.Symbol.{Symbol}
use Rattle.character_rules.specs.Answers.{Reading, clean}
use Rattle.crc.specs.Crc16.{crc_of}
use Rattle.packet_rules.specs.declared.Reader.{Reader}
use Rattle.packet_rules.specs.Answers.{Said, nothing, started, gave_byte, ended, replied}
use Rattle.packet_rules.specs.Step.{step_of}

-- ---- the symbols by their names

abbrev pub COM : Symbol
COM = control_symbol 0xBC

abbrev pub IDL : Symbol
IDL = control_symbol 0x1C

abbrev pub SPP : Symbol
SPP = control_symbol 0x3C

abbrev pub SDP : Symbol
SDP = control_symbol 0x5C

abbrev pub SLP : Symbol
SLP = control_symbol 0xF7

-- EBP where the mark is bad, else EGP
abbrev pub end_symbol : Bool → Symbol
end_symbol bad = cond bad (control_symbol 0xFE) (control_symbol 0xFD)

-- ---- from the channel byte to the end symbol, in either kind, and outside packets: IDL, the four symbols COM IDL IDL IDL, and LMPs

-- type 2, parameter 0 (ACK) or 1 (NACK), reserved zero
abbrev pub is_reply : ℕ → ℕ → Bool
is_reply t n = (eqb t 0x20 || eqb t 0x21) && ltb n 16

pub data Fill : List Symbol → List Said → Type 0 where
  idl : Fill (IDL ∷ []) (nothing ∷ [])
  com_idles : Fill (COM ∷ IDL ∷ IDL ∷ IDL ∷ []) (nothing ∷ nothing ∷ nothing ∷ nothing ∷ [])
  reply : (nack : Bool) (n : ℕ) → n < 16
      → Fill (SLP ∷ data_symbol (cond nack 0x21 0x20) ∷ data_symbol n ∷ data_symbol (bit_xor (cond nack 0x21 0x20) n) ∷ [])
      (nothing ∷ nothing ∷ nothing ∷ replied nack n ∷ [])
  other : (t n : ℕ) → is_reply t n ≡ false
      → Fill (SLP ∷ data_symbol t ∷ data_symbol n ∷ data_symbol (bit_xor t n) ∷ []) (nothing ∷ nothing ∷ nothing ∷ nothing ∷ [])

-- ---- a packet's own bytes, and what may stand among them

pub data Inside (Among : List Symbol → List Said → Type 0) : List ℕ → List Symbol → List Said → Type 0 where
  end : Inside Among [] [] []
  byte : (b : ℕ) {bs : List ℕ} {ss : List Symbol} {es : List Said} → Inside Among bs ss es → Inside Among (b ∷ bs) (data_symbol b ∷ ss) (gave_byte b ∷ es)
  among : {fs : List Symbol} {gs : List Said} {bs : List ℕ} {ss : List Symbol} {es : List Said}
      → Among fs gs → Inside Among bs ss es → Inside Among bs (fs ++ ss) (gs ++ es)

-- an end symbol, the opening byte again, and the CRC over the packet's own bytes
abbrev pub closing : Bool → ℕ → List ℕ → List Symbol
closing bad opening bytes = end_symbol bad ∷ data_symbol opening ∷ map data_symbol (crc_of bytes)

abbrev pub closing_said : Bool → List Said
closing_said bad = nothing ∷ nothing ∷ nothing ∷ ended bad ∷ []

-- SPP, a byte with the segment number in the upper four bits and the channel in the lower, 1 to S bytes
pub data PriorityLine (S : ℕ) : List Symbol → List Said → Type 0 where
  priority : (channel segment : ℕ) (bytes : List ℕ) (bad : Bool) {ss : List Symbol} {es : List Said}
      → channel < 16 → segment < 16 → 1 ≤ length bytes → length bytes ≤ S → Inside Fill bytes ss es
      → PriorityLine S (SPP ∷ data_symbol (16 * segment + channel) ∷ (ss ++ closing bad (16 * segment + channel) bytes))
      (nothing ∷ started channel (some segment) ∷ (es ++ closing_said bad))

-- a priority packet may stand inside a data packet
pub data Within (S : ℕ) : List Symbol → List Said → Type 0 where
  fill : {ss : List Symbol} {es : List Said} → Fill ss es → Within S ss es
  nested : {ss : List Symbol} {es : List Said} → PriorityLine S ss es → Within S ss es

-- SDP, the channel, one or more bytes
pub data DataLine (S : ℕ) : List Symbol → List Said → Type 0 where
  packet : (channel : ℕ) (bytes : List ℕ) (bad : Bool) {ss : List Symbol} {es : List Said}
      → channel < 256 → 1 ≤ length bytes → Inside (Within S) bytes ss es
      → DataLine S (SDP ∷ data_symbol channel ∷ (ss ++ closing bad channel bytes)) (nothing ∷ started channel none ∷ (es ++ closing_said bad))

-- outside packets: packets, what may stand among them, and D0.0, which is fill
pub data Outside (S : ℕ) : List Symbol → List Said → Type 0 where
  zeros : Outside S (data_symbol 0 ∷ []) (nothing ∷ [])
  within : {ss : List Symbol} {es : List Said} → Within S ss es → Outside S ss es
  data_packet : {ss : List Symbol} {es : List Said} → DataLine S ss es → Outside S ss es

-- THE LEGAL LINE: any of them, one after another
pub data LegalLine (S : ℕ) : List Symbol → List Said → Type 0 where
  empty : LegalLine S [] []
  then : {fs : List Symbol} {gs : List Said} {ss : List Symbol} {es : List Said}
      → Outside S fs gs → LegalLine S ss es → LegalLine S (fs ++ ss) (gs ++ es)

-- ---- what a reader says of a line of character results, and its state after them

unfoldable pub said_of : Reader → List Reading → List Said
said_of r [] = []
said_of r (g ∷ gs) = (step_of r g).said ∷ said_of (step_of r g).reader gs

unfoldable pub after_of : Reader → List Reading → Reader
after_of r [] = r
after_of r (g ∷ gs) = after_of (step_of r g).reader gs

-- these symbols, each read clean, at whatever disparities
pub data ReadClean : List Symbol → List Reading → Type 0 where
  nil : ReadClean [] []
  next : (s : Symbol) (d : ℤ) {ss : List Symbol} {gs : List Reading} → ReadClean ss gs → ReadClean (s ∷ ss) (clean s d ∷ gs)
