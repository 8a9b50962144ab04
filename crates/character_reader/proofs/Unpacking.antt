-- A packed result taken apart, by cases over plain numbers.
-- Assumes nothing.
use mathlib.Core.Path.{◌≡◌, refl, ◌∙◌, ap}
use mathlib.Core.Bool.{Bool, true, false}
use Prim.Native.Nat.{ℕ, ◌/◌, ◌%◌}
use native.Mathlib.Omega.{arith}
use lib.Dec.{eqb}
use lib.IntN.{ℤ}
use borrow.Author.Tests.{eq-eqb, ne_eqb}
use Rattle.character_rules.specs.Disparity.{disparity_of}
use Rattle.character_rules.specs.Answers.{clean, wrong_disparity, invalid}
use Rattle.character_rules.specs.Results.{packed_symbol, packed_disparity, unpacked}
use Rattle.disparity.proofs.Signed.{again}

again_of : (p : Bool) → again (disparity_of p) ≡ disparity_of p
again_of true = refl
again_of false = refl

module _ (n : ℕ) (d : ℤ) (hd : d ≡ packed_disparity n) where
  same : again d ≡ packed_disparity n
  same = ap again hd ∙ again_of (eqb (n / 2048 % 2) 1)

  pub unpack_clean : n / 512 % 4 ≡ 0 → clean (packed_symbol n) (again d) ≡ unpacked n
  unfolding unpacked
  unpack_clean h = ap (clean (packed_symbol n)) same ∙ rw (eq-eqb (n / 512 % 4) 0 h)

  pub unpack_invalid : n / 512 % 4 ≡ 1 → invalid (again d) ≡ unpacked n
  unfolding unpacked
  unpack_invalid h = ap invalid same ∙ rw (ne_eqb (n / 512 % 4) 0 (λ g. absurd (omega (arith, g, h))), eq-eqb (n / 512 % 4) 1 h)

  pub unpack_wrong : (n / 512 % 4 ≡ 0 → ⊥) → (n / 512 % 4 ≡ 1 → ⊥) → wrong_disparity (packed_symbol n) (again d) ≡ unpacked n
  unfolding unpacked
  unpack_wrong g h = ap (wrong_disparity (packed_symbol n)) same ∙ rw (ne_eqb (n / 512 % 4) 0 g, ne_eqb (n / 512 % 4) 1 h)
