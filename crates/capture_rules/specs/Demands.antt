-- What is asked of any packer and unpacker of captures, whatever they are made of.
use Rattle.std.specs.Prelude.{ℕ, ◌≤◌, ◌≡◌, List, T, length, take}
use Rattle.laws.specs.Groups.{all_below}
use Rattle.capture_rules.specs.Capture.{Packed, character_count, legal, byte_count}
use Rattle.capture_rules.specs.Calls.{Said, answered}

-- a call: from what it reads and what stands in the lent output, what it answers and what it leaves there
pub record Call : Type 0 where
  pub answer : List ℕ → List ℕ → Said
  pub leaves : List ℕ → List ℕ → List ℕ

-- characters that may be packed
pub record Packable (characters : List ℕ) : Type 0 where
  pub few : length characters ≤ 52428
  pub small : T (all_below 1024 characters)

-- a packer: into every output that is long enough it writes bytes that are the characters packed, and answers their number
pub record Packs (pack : Call) : Type 0 where
  pub answers : (characters old : List ℕ) → Packable characters → byte_count (length characters) ≤ length old → pack.answer characters old ≡ answered (byte_count (length characters))
  pub packed : (characters old : List ℕ) → Packable characters → byte_count (length characters) ≤ length old → Packed characters (take (byte_count (length characters)) (pack.leaves characters old))

-- there and back through lent memory: unpacking the bytes that the packer left gives the characters again
pub record RoundTrip (pack unpack : Call) : Type 0 where
  pub there : (characters old room : List ℕ) → Packable characters → byte_count (length characters) ≤ length old → length characters ≤ length room
      → unpack.answer (take (byte_count (length characters)) (pack.leaves characters old)) room ≡ answered (length characters)
  pub back : (characters old room : List ℕ) → Packable characters → byte_count (length characters) ≤ length old → length characters ≤ length room
      → take (length characters) (unpack.leaves (take (byte_count (length characters)) (pack.leaves characters old)) room) ≡ characters

-- and the other way: packing the characters of a legal capture gives its bytes again
pub record SameCapture (pack unpack : Call) : Type 0 where
  pub again : (capture room old : List ℕ) → T (all_below 256 capture) → T (legal capture) → character_count (length capture) ≤ length room → length capture ≤ length old
      → take (length capture) (pack.leaves (take (character_count (length capture)) (unpack.leaves capture room)) old) ≡ capture
