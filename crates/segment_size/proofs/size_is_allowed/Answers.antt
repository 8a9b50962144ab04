-- The arm's keys are the list of sizes.
use mathlib.Core.Path.{sym}
use mathlib.Core.List.{List, [], ◌∷◌}
use Prim.Native.Nat.{ℕ}
use Rattle.segment_size.specs.Sizes.{size_allowed}
use Rattle.laws.proofs.Keys.{listed, not_listed}
use Rattle.segment_size.proofs.size_is_allowed.Goals as goal

abbrev sizes : List ℕ
sizes = 8 ∷ 16 ∷ 32 ∷ 64 ∷ 128 ∷ 256 ∷ 512 ∷ 1024 ∷ []

pub returns-in-8 : goal.returns-in-8
unfolding size_allowed
returns-in-8 c = sym (listed sizes _ c.in-8.is)

pub returns-in_default : goal.returns-in_default
unfolding size_allowed
returns-in_default c = sym (not_listed sizes _ c.in_default.in_default-own.rest.1)
