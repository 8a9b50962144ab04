-- Demand 2, of packets, as a predicate over any reader and any writer.
use Rattle.std.specs.Prelude.{ℕ, ◌≤◌, ◌<◌, ◌≡◌, true, List, [], ◌∷◌, ◌++◌, T, ltb, ℤ, length, take}
use Rattle.laws.specs.Lists.{all_of}
use Rattle.character_rules.specs.Disparity.{is_disparity}
use Rattle.character_rules.specs.Answers.{Reading}
use Rattle.character_rules.specs.Results.{readings_of, run_closing}
use Rattle.segment_size.specs.Sizes.{size_allowed}
use Rattle.packet_rules.specs.Answers.{Said}
use Rattle.packet_rules.specs.Packets.{Packet, in_data, in_priority, retry, symbols_of, said_for, PacketWriting, wrote}

-- a reader: states, a fresh one for each S, and what a step says and leaves
pub record PacketReader : Type 1 where
  pub State : Type 0
  pub fresh : ℕ → State
  pub says : State → Reading → Said
  pub next : State → Reading → State

-- a writer, given S, a packet, a disparity and an output: what it answers, and what it leaves in the output
pub record PacketWriter : Type 0 where
  pub answers : ℕ → Packet → ℤ → List ℕ → PacketWriting
  pub leaves : ℕ → Packet → ℤ → List ℕ → List ℕ

-- within the rules: numbers in range, bytes that are bytes, at least one, and no more than S in a priority packet
abbrev pub Allowed : ℕ → Packet → Type 0
Allowed s (in_data c bytes bad) = (c < 256) × (1 ≤ length bytes) × T (all_of (λ b. ltb b 256) bytes)
Allowed s (in_priority c g bytes bad) = (c < 16) × (g < 16) × (1 ≤ length bytes) × (length bytes ≤ s) × T (all_of (λ b. ltb b 256) bytes)
Allowed s (retry nack n) = n < 16

-- ---- a line of characters, read from a disparity

abbrev pub AllClean : List Reading → Type 0
AllClean [] = Unit {0}
AllClean (g ∷ gs) = (g.violation ≡ 0) × AllClean gs

module _ (reader : PacketReader) where
  abbrev pub says_of : reader.State → List Reading → List Said
  says_of r [] = []
  says_of r (g ∷ gs) = reader.says r g ∷ says_of (reader.next r g) gs

  abbrev pub left_of : reader.State → List Reading → reader.State
  left_of r [] = r
  left_of r (g ∷ gs) = left_of (reader.next r g) gs

-- what was written of a packet, read from that disparity, is the packet: said exactly, all characters clean, the closing disparity the same, the
-- reader fresh again
pub record ReadBack (reader : PacketReader) (s : ℕ) (p : Packet) (d e : ℤ) (characters : List ℕ) : Type 0 where
  pub clean : AllClean (readings_of characters d)
  pub said : says_of reader (reader.fresh s) (readings_of characters d) ≡ said_for p
  pub fresh : left_of reader (reader.fresh s) (readings_of characters d) ≡ reader.fresh s
  pub closes : run_closing characters d ≡ e

-- THE ROUND TRIP: into every output that is long enough the writer writes all of the packet's characters, and they read back
pub record PacketRoundTrip (reader : PacketReader) (writer : PacketWriter) : Type 0 where
  pub written : (s : ℕ) (p : Packet) (d : ℤ) (out : List ℕ) → size_allowed s ≡ true → Allowed s p → T (is_disparity d) → length (symbols_of p) ≤ length out
      → (e : ℤ) × (T (is_disparity e)) × (writer.answers s p d out ≡ wrote (length (symbols_of p)) e)
      × ReadBack reader s p d e (take (length (symbols_of p)) (writer.leaves s p d out))

-- ---- packets one after another: each written from the disparity that the one before it closed at, into an output of its own, the characters joined

pub data Sequence (writer : PacketWriter) (s : ℕ) : List Packet → ℤ → List ℕ → ℤ → Type 0 where
  last : (d : ℤ) → Sequence writer s [] d [] d
  first : (p : Packet) (out : List ℕ) (d e : ℤ) {ps : List Packet} {cs : List ℕ} {f : ℤ} → Allowed s p → length (symbols_of p) ≤ length out
      → writer.answers s p d out ≡ wrote (length (symbols_of p)) e → Sequence writer s ps e cs f
      → Sequence writer s (p ∷ ps) d (take (length (symbols_of p)) (writer.leaves s p d out) ++ cs) f

abbrev pub said_for_all : List Packet → List Said
said_for_all [] = []
said_for_all (p ∷ ps) = said_for p ++ said_for_all ps
