-- S, the segment size, which the packets and both ends of the retry share.
use Rattle.std.specs.Prelude.{Bool, [], ◌∷◌, ℕ}
use Rattle.laws.specs.Lists.{one_of}

-- S is 8, 16, 32 up to 1,024
unfoldable pub size_allowed : ℕ → Bool
size_allowed s = one_of s (8 ∷ 16 ∷ 32 ∷ 64 ∷ 128 ∷ 256 ∷ 512 ∷ 1024 ∷ [])
