-- The bits of a number, the highest first.
use Rattle.std.specs.Prelude.{ℕ, zero, suc, ◌/◌, ◌%◌, ◌^◌, List, [], ◌∷◌}

-- the lowest k bits of n
abbrev pub bits : ℕ → ℕ → List ℕ
bits zero n = []
bits (suc k) n = (n / 2 ^ k % 2) ∷ bits k n
