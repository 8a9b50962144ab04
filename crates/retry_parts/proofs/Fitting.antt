-- Bytes that fit are laid.
-- Assumes nothing.
use mathlib.Core.Path.{◌≡◌, ap, ◌∙◌}
use mathlib.Core.Bool.{true}
use mathlib.Core.List.{List, ◌++◌}
use Prim.Native.Nat.{ℕ, ◌+◌, ◌-◌, ◌≤◌}
use native.Mathlib.Omega.{arith}
use lib.ListN.{length, take, drop}
use lib.Seq.{drop-drop}
use borrow.Author.Tests.{le-leb}
use borrow.Rule.Slice.PartMut.{put_mid}
use Rattle.laws.proofs.Cases.{cond_true}
use Rattle.retry_rules.specs.Lent.{laid}
use Rattle.retry_parts.specs.Fits.{fits_at, laid_if_fits}

module _ (old : List ℕ) (at : ℕ) (bytes : List ℕ) where
  pub fits_where : at + length bytes ≤ length old → fits_at old at bytes ≡ true
  fits_where h = le-leb (at + length bytes) (length old) h

  pub laid_where : at + length bytes ≤ length old → laid_if_fits old at bytes ≡ laid old at bytes
  laid_where h = cond_true (fits_at old at bytes) (laid old at bytes) old (fits_where h)

  -- the part of a slice from a place on, with the bytes in it
  pub part_laid : put_mid at (at + length bytes - at) old bytes ≡ laid old at bytes
  unfolding laid
  part_laid =
      let n : at + length bytes - at ≡ length bytes = omega arith in
      ap (λ (k : ℕ). take at old ++ (bytes ++ drop k (drop at old))) n
      ∙ ap (λ (l : List ℕ). take at old ++ (bytes ++ l)) (drop-drop (length bytes) at old)
