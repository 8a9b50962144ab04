-- How many characters a piece takes.
use Rattle.std.specs.Prelude.{ℕ, cond, ltb}

-- as many of the characters that are left as a piece takes
abbrev pub block_length : ℕ → ℕ
block_length left = cond (ltb left 64) left 64
