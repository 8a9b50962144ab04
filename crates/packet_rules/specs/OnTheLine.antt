-- Demand 2 on the line: the bits of packets written one after another, as a predicate over any packet writer.
use Rattle.std.specs.Prelude.{ℕ, ◌≤◌, ◌≡◌, true, List, [], ◌∷◌, ◌++◌, T, ℤ, take, replicate}
use Rattle.laws.specs.Bits.{bits}
use Rattle.character_rules.specs.Disparity.{is_disparity}
use Rattle.character_rules.specs.Line.{balance, within_three}
use Rattle.segment_size.specs.Sizes.{size_allowed}
use Rattle.packet_rules.specs.Packets.{Packet}
use Rattle.packet_rules.specs.RoundTrip.{PacketWriter, Sequence}

-- the bits of characters, a to j of each
abbrev pub bits_on_line : List ℕ → List ℕ
bits_on_line [] = []
bits_on_line (c ∷ cs) = bits 10 c ++ bits_on_line cs

-- counting from the start value, ones less zeros stay within three at each bit, and no bit is repeated more than five times running:
-- of what the writer left in memory, packet after packet
pub record PacketsBalanced (writer : PacketWriter) : Type 0 where
  pub within :
      (s : ℕ) → size_allowed s ≡ true → {ps : List Packet} {d : ℤ} {cs : List ℕ} {e : ℤ} → T (is_disparity d) → Sequence writer s ps d cs e
      → (n : ℕ) → T (within_three (balance d (take n (bits_on_line cs))))
  pub runs :
      (s : ℕ) → size_allowed s ≡ true → {ps : List Packet} {d : ℤ} {cs : List ℕ} {e : ℤ} → T (is_disparity d) → Sequence writer s ps d cs e
      → (before : List ℕ) (n x : ℕ) (after : List ℕ) → bits_on_line cs ≡ before ++ (replicate n x ++ after) → n ≤ 5
