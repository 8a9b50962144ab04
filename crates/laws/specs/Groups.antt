-- Numbers of one width as a line of bits, and a line of bits as such numbers; bits stand highest first.
use Rattle.std.specs.Prelude.{ℕ, zero, suc, ◌+◌, ◌*◌, ◌^◌, Bool, List, [], ◌∷◌, ◌++◌, ltb, eqb, length, take, drop}
use Rattle.laws.specs.Bits.{bits}
use Rattle.laws.specs.Lists.{all_of}

-- each of a list is below m
abbrev pub all_below : ℕ → List ℕ → Bool
all_below m ns = all_of (λ (n : ℕ). ltb n m) ns

-- each of a list is zero
abbrev pub all_zero : List ℕ → Bool
all_zero ns = all_of (eqb 0) ns

-- the lowest k bits of each number, one number after the other
abbrev pub bits_of : ℕ → List ℕ → List ℕ
bits_of k [] = []
bits_of k (n ∷ ns) = bits k n ++ bits_of k ns

-- the number that some bits are
abbrev pub number : List ℕ → ℕ
number [] = 0
number (b ∷ bs) = b * 2 ^ length bs + number bs

-- n numbers of k bits each, from the front of a line
abbrev pub numbers : ℕ → ℕ → List ℕ → List ℕ
numbers k zero bs = []
numbers k (suc n) bs = number (take k bs) ∷ numbers k n (drop k bs)
