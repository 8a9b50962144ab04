-- A check of any width (a CRC): bits go through a register, one after the other. The register and the polynomial are the lists of their
-- coefficients, the highest first; the polynomial's own highest, which is always 1, is left out, so both are as long as the check is wide.
use Rattle.std.specs.Prelude.{ℕ, zero, suc, ◌+◌, ◌*◌, ◌/◌, ◌%◌, ◌^◌, Bool, false, cond, List, [], ◌∷◌, ◌++◌, eqb, take, drop}
use Rattle.std.specs.Bool.{xor}

-- the coefficients of a polynomial that is written as a number of k bits
abbrev pub coefficients : ℕ → ℕ → List Bool
coefficients zero n = []
coefficients (suc k) n = eqb (n / 2 ^ k % 2) 1 ∷ coefficients k n

-- two polynomials added without carry
unfoldable pub overlay : List Bool → List Bool → List Bool
overlay [] ys = ys
overlay (x ∷ xs) [] = x ∷ xs
overlay (x ∷ xs) (y ∷ ys) = xor x y ∷ overlay xs ys

abbrev pub highest : List Bool → Bool
highest [] = false
highest (x ∷ xs) = x

abbrev pub lower : List Bool → List Bool
lower [] = []
lower (x ∷ xs) = xs

-- one bit: the highest coefficient leaves, the others move up, and if what left differs from the bit that comes the polynomial is laid over them
unfoldable pub check_bit : List Bool → List Bool → Bool → List Bool
check_bit polynomial register b = overlay (lower register ++ (false ∷ [])) (cond (xor (highest register) b) polynomial [])

unfoldable pub check_bits : List Bool → List Bool → List Bool → List Bool
check_bits polynomial register [] = register
check_bits polynomial register (b ∷ bs) = check_bits polynomial (check_bit polynomial register b) bs

-- ---- bits in the order of a line that sends the least significant first

-- the lowest k bits of a number, and the number that has these bits
unfoldable pub lowest_first : ℕ → ℕ → List Bool
lowest_first zero n = []
lowest_first (suc k) n = eqb (n % 2) 1 ∷ lowest_first k (n / 2)

unfoldable pub number_of : List Bool → ℕ
number_of [] = 0
number_of (b ∷ bs) = number_of bs * 2 + cond b 1 0

-- the bits of a run of bytes
unfoldable pub bits_of : List ℕ → List Bool
bits_of [] = []
bits_of (b ∷ bs) = lowest_first 8 b ++ bits_of bs

-- n bytes with these bits
unfoldable pub bytes_of : ℕ → List Bool → List ℕ
bytes_of zero bits = []
bytes_of (suc n) bits = number_of (take 8 bits) ∷ bytes_of n (drop 8 bits)
