-- A result that is stored from the front of a lent list, one element after the other: its first k stand, and past them what stood there.
-- Assumes nothing.
use mathlib.Core.Path.{◌≡◌, sym, ap, ◌∙◌}
use mathlib.Core.List.{List, [], ◌∷◌, ◌++◌, append_assoc}
use Prim.Native.Nat.{ℕ, suc, ◌+◌, ◌≤◌, ◌<◌}
use native.Mathlib.Numerals.{add-one}
use native.Mathlib.Omega.{arith}
use lib.ListN.{length, get_or, set, take, drop, length-append, length-drop}
use lib.Seq.{take-suc, drop-cons, set_at, take_all, length-take-le}

module _ {A : Type 0} (result old : List A) where
  pub stored_length : (k : ℕ) → k ≤ length result → k ≤ length old → length (take k result ++ drop k old) ≡ length old
  stored_length k h g = simp (length-append, length-take-le k result h, length-drop) (omega arith)

  -- one more
  pub store_next : (d : A) (k : ℕ) → k < length result → k < length old → set (take k result ++ drop k old) k (get_or result k d) ≡ take (k + 1) result ++ drop (k + 1) old
  store_next d k h g =
      ap (λ (l : List A). set (take k result ++ l) k (get_or result k d)) (drop-cons old k d g)
      ∙ set_at (take k result) (get_or old k d) (drop (suc k) old) (get_or result k d) k (length-take-le k result (omega arith))
      ∙ sym (append_assoc (take k result) (get_or result k d ∷ []) (drop (suc k) old))
      ∙ ap (λ (l : List A). l ++ drop (suc k) old) (sym (take-suc result k d h))
      ∙ ap (λ (n : ℕ). take n result ++ drop n old) (sym (add-one k))

  -- all
  pub stored_all : (k : ℕ) → length result ≡ k → take k result ++ drop k old ≡ result ++ drop k old
  stored_all k e = ap (λ (l : List A). l ++ drop k old) (take_all k result (omega arith))
