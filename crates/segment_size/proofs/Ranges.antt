-- An allowed S lies from 8 to 1,024.
-- Assumes nothing.
use mathlib.Core.Path.{◌≡◌}
use mathlib.Core.Bool.{Bool, true, ◌&&◌}
use mathlib.Core.List.{[], ◌∷◌}
use Prim.Native.Nat.{ℕ, ◌≤◌}
use lib.Dec.{leb}
use borrow.Author.Tests.{leb-true}
use Rattle.laws.proofs.Bools.{T_true, true_t}
use Rattle.laws.proofs.Listed.{one_of_all}
use Rattle.laws.proofs.Cases.{first_true, second_true}
use Rattle.segment_size.specs.Sizes.{size_allowed}

pub size_range : (s : ℕ) → size_allowed s ≡ true → (8 ≤ s) × (s ≤ 1024)
unfolding size_allowed
size_range s q =
    let f : ℕ → Bool = λ n. leb 8 n && leb n 1024 in
    let t = T_true (f s) (one_of_all f (8 ∷ 16 ∷ 32 ∷ 64 ∷ 128 ∷ 256 ∷ 512 ∷ 1024 ∷ []) s tt (true_t (size_allowed s) q)) in
    (leb-true 8 s (first_true (leb 8 s) (leb s 1024) t), leb-true s 1024 (second_true (leb 8 s) (leb s 1024) t))
