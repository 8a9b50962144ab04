-- Document 01, "Characters": the blocks, and how the two of a symbol are chosen.
use Rattle.std.specs.Prelude.{ℕ, ◌+◌, ◌*◌, ◌-◌, ◌/◌, ◌%◌, Bool, cond, not, ◌&&◌, ◌||◌, List, [], ◌∷◌, eqb, get_or, ℤ, neg_ℤ}
use Rattle.symbol.specs.declared.Symbol.{Symbol}
use Rattle.character_rules.specs.Disparity.{is_plus}

-- six-bit blocks at −1, x from 0 to 31
unfoldable pub six_blocks : List ℕ
six_blocks =
    0b100111 ∷ 0b011101 ∷ 0b101101 ∷ 0b110001 ∷ 0b110101 ∷ 0b101001 ∷ 0b011001 ∷ 0b111000
    ∷ 0b111001 ∷ 0b100101 ∷ 0b010101 ∷ 0b110100 ∷ 0b001101 ∷ 0b101100 ∷ 0b011100 ∷ 0b010111
    ∷ 0b011011 ∷ 0b100011 ∷ 0b010011 ∷ 0b110010 ∷ 0b001011 ∷ 0b101010 ∷ 0b011010 ∷ 0b111010
    ∷ 0b110011 ∷ 0b100110 ∷ 0b010110 ∷ 0b110110 ∷ 0b001110 ∷ 0b101110 ∷ 0b011110 ∷ 0b101011
    ∷ []

-- four-bit blocks at −1, y from 0 to 7: of data, and of control
unfoldable pub four_blocks : List ℕ
four_blocks = 0b1011 ∷ 0b1001 ∷ 0b0101 ∷ 0b1100 ∷ 0b1101 ∷ 0b1010 ∷ 0b0110 ∷ 0b1110 ∷ []

unfoldable pub control_four_blocks : List ℕ
control_four_blocks = 0b1011 ∷ 0b0110 ∷ 0b1010 ∷ 0b1100 ∷ 0b1101 ∷ 0b0101 ∷ 0b1001 ∷ 0b0111 ∷ []

-- how many ones a block has
abbrev pub ones : ℕ → ℕ
ones b = b % 2 + b / 2 % 2 + b / 4 % 2 + b / 8 % 2 + b / 16 % 2 + b / 32 % 2

-- a block of twice `half` bits with another number of ones than of zeros
abbrev pub unbalanced : ℕ → ℕ → Bool
unbalanced half b = not (eqb (ones b) half)

-- an unbalanced block turns the disparity over
abbrev pub turned : ℕ → ℕ → ℤ → ℤ
turned half b d = cond (unbalanced half b) (neg_ℤ d) d

-- a block of the list at the disparity in force: complemented at +1 if it is one that changes there
abbrev pub in_force : ℕ → Bool → Bool → ℕ → ℕ
in_force all_ones changes plus b = cond (changes && plus) (all_ones - b) b

-- the six-bit block for x. Control: x = 28 has 001111, others use the list, and every block is complemented at +1.
-- Data: at +1 an unbalanced block, and that for x = 7, is complemented
abbrev pub six_listed : Bool → ℕ → ℕ
six_listed control x = cond (control && eqb x 28) 0b001111 (get_or six_blocks x 0)

abbrev pub six_changes : Bool → ℕ → ℕ → Bool
six_changes control x b = control || (unbalanced 3 b || eqb x 7)

unfoldable pub six_block : Bool → ℕ → Bool → ℕ
six_block control x plus = let b = six_listed control x in in_force 0b111111 (six_changes control x b) plus b

-- the four-bit block for y, by the lists: as before, with y = 3 for x = 7
abbrev pub four_listed : Bool → ℕ → ℕ
four_listed control y = cond control (get_or control_four_blocks y 0) (get_or four_blocks y 0)

abbrev pub four_changes : Bool → ℕ → ℕ → Bool
four_changes control y b = control || (unbalanced 2 b || eqb y 3)

unfoldable pub four_by_list : Bool → ℕ → Bool → ℕ
four_by_list control y plus = let b = four_listed control y in in_force 0b1111 (four_changes control y b) plus b

-- for data with y = 7: at −1 with x = 17, 18 or 20 the block is 0111; at +1 with x = 11, 13 or 14 it is 1000
abbrev pub alternate_at_minus : ℕ → Bool → Bool
alternate_at_minus x plus = not plus && (eqb x 17 || (eqb x 18 || eqb x 20))

abbrev pub alternate_at_plus : ℕ → Bool → Bool
alternate_at_plus x plus = plus && (eqb x 11 || (eqb x 13 || eqb x 14))

unfoldable pub four_block : Bool → ℕ → ℕ → Bool → ℕ
four_block control x y plus =
    let listed = four_by_list control y plus in
    cond (not control && eqb y 7)
    (cond (alternate_at_minus x plus) 0b0111 (cond (alternate_at_plus x plus) 0b1000 listed))
    listed

-- first the six-bit block for x, then the four-bit block for y, each chosen at the disparity in force when it begins
unfoldable pub first_block : Symbol → ℤ → ℕ
first_block s d = six_block s.control (s.byte % 32) (is_plus d)

unfoldable pub between : Symbol → ℤ → ℤ
between s d = turned 3 (first_block s d) d

unfoldable pub second_block : Symbol → ℤ → ℕ
second_block s d = four_block s.control (s.byte % 32) (s.byte / 32) (is_plus (between s d))

-- the symbol's character at a disparity: bits a to j, a the highest; and the closing disparity
unfoldable pub character : Symbol → ℤ → ℕ
character s d = first_block s d * 16 + second_block s d

unfoldable pub closing : Symbol → ℤ → ℤ
closing s d = turned 2 (second_block s d) (between s d)
