-- Whether a capture is legal, by its length and its last byte: the tests of a program in the order in which it makes them.
-- Assumes nothing.
use mathlib.Core.Path.{◌≡◌, refl, ap}
use mathlib.Core.Bool.{Bool, true, false, not, ◌&&◌}
use mathlib.Core.List.{List, [], ◌∷◌}
use Prim.Native.Nat.{ℕ, ◌-◌, ◌%◌, ◌^◌, ◌≤◌, ◌<◌}
use native.Mathlib.Nat.{suc-ne-zero}
use lib.Dec.{eqb}
use lib.ListN.{length, get_or}
use borrow.Author.Tests.{lt-leb, le-leb, eq-eqb, ne_eqb}
use Rattle.laws.specs.Groups.{all_zero}
use Rattle.capture_rules.specs.Capture.{closing_bits, legal}
use Rattle.capture_rules.proofs.Places.{closing_count, closing_by_place}

module _ (bytes : List ℕ) where
  -- over 65,535 bytes
  pub legal_long : 65535 < length bytes → legal bytes ≡ false
  unfolding legal
  legal_long h = ap (λ (b : Bool). b && (not (eqb (length bytes % 5) 1) && all_zero (closing_bits bytes))) (lt-leb (length bytes) 65535 h)

  -- remainder 1 by 5
  pub legal_one : length bytes ≤ 65535 → length bytes % 5 ≡ 1 → legal bytes ≡ false
  unfolding legal
  legal_one h e = simp (le-leb (length bytes) 65535 h, eq-eqb (length bytes % 5) 1 e)

  -- otherwise the last byte decides
  pub legal_last : length bytes ≤ 65535 → (length bytes % 5 ≡ 1 → ⊥) → legal bytes ≡ eqb (get_or bytes (length bytes - 1) 0 % 2 ^ closing_count (length bytes)) 0
  unfolding legal
  legal_last h e = simp (le-leb (length bytes) 65535 h, ne_eqb (length bytes % 5) 1 e, closing_by_place bytes)

-- the empty capture is legal
pub legal_empty : (bytes : List ℕ) → length bytes ≡ 0 → legal bytes ≡ true
unfolding legal closing_bits
legal_empty [] e = refl
legal_empty (b ∷ bs) e = absurd (suc-ne-zero (length bs) e)
