-- Document 01: disparity is −1 or +1, a signed number.
use Rattle.std.specs.Prelude.{ℕ, ◌*◌, ◌/◌, ◌%◌, ◌^◌, Bool, false, cond, ◌||◌, eqb, ℤ, pos, negsuc}

abbrev pub is_plus : ℤ → Bool
is_plus (pos n) = eqb n 1
is_plus (negsuc n) = false

abbrev pub is_minus : ℤ → Bool
is_minus (pos n) = false
is_minus (negsuc n) = eqb n 0

abbrev pub is_disparity : ℤ → Bool
is_disparity d = is_plus d || is_minus d

-- +1, or −1
abbrev pub disparity_of : Bool → ℤ
disparity_of plus = cond plus (pos 1) (negsuc 0)

-- of a number that holds a half for each disparity, that for −1 below, the half for p: 0 for −1 and 1 for +1
abbrev pub half_of : ℕ → ℕ → ℕ
half_of e p = e / 2 ^ (p * 16) % 65536
