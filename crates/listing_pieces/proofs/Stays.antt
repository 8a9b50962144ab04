-- A listing that goes on stays as it was where its next piece is refused.
-- Assumes nothing.
use mathlib.Core.Path.{◌≡◌, refl, sym, ap}
use mathlib.Core.List.{List}
use Prim.Native.Nat.{ℕ}
use native.Mathlib.Omega.{arith}
use Rattle.std.specs.Prelude.{Err}
use Rattle.std.proofs.Math.Option.{Option, none, some}
use Rattle.refusal.specs.declared.Refusal.{Refusal}
use Rattle.refusal.proofs.Outcomes.{either_way}
use Rattle.listing_rules.specs.declared.Reached.{Reached}
use Rattle.listing_rules.specs.declared.Listing.TheVariants.{Going}
use Rattle.listing_rules.specs.Pieces.{Said, LaterAnswer, later_says, later_beside, refused, next_checks, done_says, next_says}

abbrev is_some : Option ℕ → ℕ
is_some none = 0
is_some (some n) = 1

module _ (capture : List ℕ) (p : Reached) where
  pub refused_stays : (n : ℕ) → (next_says capture (Going p)).refusal ≡ some n → (next_says capture (Going p)).listing ≡ Going p
  unfolding next_says
  refused_stays n =
      either_way (next_checks capture (Going p)) (λ (s : Said). s.refusal ≡ some n → s.listing ≡ Going p) (refused (Going p))
      (done_says capture (Going p))
      (λ _ e. let z : is_some none ≡ is_some (some n) = ap is_some e in absurd (omega arith)) (λ _ _. refl)

  -- the same, of the answer that `later_piece` gives
  pub later_stays : (r : Refusal) → later_says (Err r) ≡ later_beside (next_says capture (Going p)) → (next_says capture (Going p)).listing ≡ Going p
  later_stays r e = refused_stays _ (sym (ap (λ (a : LaterAnswer). a.refusal) e))
