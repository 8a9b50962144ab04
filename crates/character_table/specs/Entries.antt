-- How an entry of the reader's table holds the two results of a character: the symbol's number in the lowest nine bits, which both share; then
-- three bits for the violation and the new disparity at −1, and three for those at +1.
use Rattle.std.specs.Prelude.{ℕ, ◌+◌, ◌*◌, ◌/◌, ◌%◌, Bool, cond}

abbrev pub result_in : ℕ → Bool → ℕ
result_in e plus = cond plus (e % 512 + e / 4096 % 8 * 512) (e % 4096)
