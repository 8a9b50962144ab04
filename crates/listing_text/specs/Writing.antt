-- Text that is put at an index of a piece: a lent output of 2,048 bytes.
use Rattle.std.specs.Prelude.{ℕ, ◌+◌, ◌≡◌, Bool, cond, List, [], ◌∷◌, ◌++◌, leb, length, take, drop}
use Rattle.listing_rules.specs.Text.{decimal, line_feed}

-- a line that ends in words, and one that ends in a number
abbrev pub worded_line : ℕ → List ℕ → List ℕ
worded_line place words = decimal place ++ words

abbrev pub numbered_line : ℕ → List ℕ → ℕ → List ℕ
numbered_line place words n = decimal place ++ (words ++ (decimal n ++ line_feed ∷ []))

-- so many bytes have room from an index on
abbrev pub has_room : ℕ → ℕ → Bool
has_room at n = leb (at + n) 2048

-- room for a text at the front; for words and a number; for words, two numbers and a line feed. A number has at most five digits
abbrev pub front_room : List ℕ → Bool
front_room text = has_room 0 (length text)

abbrev pub worded_room : ℕ → List ℕ → Bool
worded_room at words = has_room at (length words + 5)

abbrev pub numbered_room : ℕ → List ℕ → Bool
numbered_room at words = has_room at (length words + 11)

-- the output with a text at an index, and all else as it stood
abbrev pub with_text : ℕ → List ℕ → List ℕ → List ℕ
with_text at text old = take at old ++ text ++ drop (at + length text) old

-- what a call comes to: the index after the text and the output with it; where there is no room, the same index and the output as it stood
abbrev pub index_after : Bool → ℕ → List ℕ → ℕ
index_after room at text = cond room (at + length text) at

abbrev pub output_after : Bool → ℕ → List ℕ → List ℕ → List ℕ
output_after room at text old = cond room (with_text at text old) old

-- the same of a text that had room
pub record Wrote (at : ℕ) (text old new : List ℕ) (after : ℕ) : Type 0 where
  pub size : after ≡ at + length text
  pub whole : new ≡ with_text at text old
