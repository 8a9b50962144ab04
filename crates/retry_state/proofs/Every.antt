-- A test of each number of a range, as `all` makes it, is one of every number below its end.
-- Assumes nothing.
use mathlib.Core.Path.{◌≡◌, refl, sym, ◌∙◌, ap}
use mathlib.Core.Bool.{Bool, ◌&&◌}
use Prim.Native.Nat.{ℕ, zero, suc, ◌+◌}
use native.Mathlib.Omega.{arith}
use Rattle.std.proofs.Math.Bool.{and_assoc, and-true}
use Rattle.std.specs.List.{list_all, range_with_len}
use Rattle.retry_rules.specs.Numbers.{every_below}

module _ (f : ℕ → Bool) where
  one_more : (a n : ℕ) → list_all f (range_with_len a (suc n)) ≡ (list_all f (range_with_len a n) && f (a + n))
  one_more a zero =
      let at : a + 0 ≡ a = omega arith in
      and-true (f a) ∙ ap f (sym at)
  one_more a (suc n) =
      let at : a + 1 + n ≡ a + suc n = omega arith in
      ap (λ b. f a && b) (one_more (a + 1) n ∙ ap (λ m. list_all f (range_with_len (a + 1) n) && f m) at)
      ∙ sym (and_assoc (f a) (list_all f (range_with_len (a + 1) n)) (f (a + suc n)))

  pub all_below : (n : ℕ) → list_all f (range_with_len 0 n) ≡ every_below n f
  all_below zero = refl
  all_below (suc n) =
      let at : 0 + n ≡ n = omega arith in
      one_more 0 n ∙ ap (λ m. list_all f (range_with_len 0 n) && f m) at ∙ ap (λ b. b && f n) (all_below n)
