-- Four characters in five bytes, and a result that is stored from the front of a list.
-- Assumes nothing.
use mathlib.Core.Path.{◌≡◌, refl, ap, ap₂, ◌∙◌}
use mathlib.Core.List.{List, ◌++◌}
use Prim.Native.Nat.{ℕ, ◌+◌, ◌*◌, ◌/◌, ◌%◌, ◌^◌, ◌≤◌, ◌<◌}
use native.Mathlib.Omega.{arith}
use lib.Dec.{T}
use lib.ListN.{length, get_or, set, take, drop}
use Rattle.std.proofs.lemmas.List.{take_all, drop_all, append-nil}
use Rattle.laws.specs.Groups.{all_below}
use Rattle.laws.proofs.Stores.{store_next}
use Rattle.capture_rules.specs.Capture.{character_count, characters_of}
use Rattle.capture_rules.proofs.Packing.{characters_length}
use Rattle.capture.proofs.Facts.{in_bytes}

-- a result stored from the front of a list: one more, and four more
module _ (result old : List ℕ) where
  abbrev Front : ℕ → List ℕ
  Front k = take k result ++ drop k old

  one_more : (k : ℕ) (xs : List ℕ) (v : ℕ) → k < length result → k < length old → xs ≡ Front k → v ≡ get_or result k 0 → set xs k v ≡ Front (k + 1)
  one_more k xs v h g e f = ap₂ (λ (l : List ℕ) (n : ℕ). set l k n) e f ∙ store_next result old 0 k h g

  four_more : (k : ℕ) (xs : List ℕ) (a b c d : ℕ) → k + 4 ≤ length result → k + 4 ≤ length old → xs ≡ Front k
      → a ≡ get_or result k 0 → b ≡ get_or result (k + 1) 0 → c ≡ get_or result (k + 2) 0 → d ≡ get_or result (k + 3) 0
      → set (set (set (set xs k a) (k + 1) b) (k + 2) c) (k + 3) d ≡ Front (k + 4)
  four_more k xs a b c d h g e ea eb ec ed =
      let two : k + 1 + 1 ≡ k + 2 = omega arith in
      let three : k + 2 + 1 ≡ k + 3 = omega arith in
      let four : k + 3 + 1 ≡ k + 4 = omega arith in
      one_more (k + 3) _ d (omega arith) (omega arith)
      (one_more (k + 2) _ c (omega arith) (omega arith)
      (one_more (k + 1) _ b (omega arith) (omega arith) (one_more k xs a (omega arith) (omega arith) e ea) eb ∙ ap Front two) ec ∙ ap Front three) ed
      ∙ ap Front four

  -- where all is stored it is the result
  pub filled : (xs : List ℕ) (k : ℕ) → xs ≡ Front k → length result ≤ k → length old ≤ k → xs ≡ result
  filled xs k e h g = e ∙ ap₂ (λ (front past : List ℕ). front ++ past) (take_all k result h) (drop_all k old g) ∙ append-nil result

-- the four characters of five bytes are stored
module _ (bytes old : List ℕ) (t : T (all_below 256 bytes)) (g : ℕ) (h : g < character_count (length bytes) / 4) (room : 4 * g + 4 ≤ length old) (xs : List ℕ)
    (e : xs ≡ take (4 * g) (characters_of bytes) ++ drop (4 * g) old) (ys : List ℕ)
    (stored : ys ≡ set (set (set (set xs (4 * g) ((get_or bytes (5 * g) 0 * 256 + get_or bytes (5 * g + 1) 0) / 2 ^ 6 % 1024))
    (4 * g + 1) ((get_or bytes (5 * g + 1) 0 * 256 + get_or bytes (5 * g + 2) 0) / 2 ^ 4 % 1024))
    (4 * g + 2) ((get_or bytes (5 * g + 2) 0 * 256 + get_or bytes (5 * g + 3) 0) / 2 ^ 2 % 1024))
    (4 * g + 3) ((get_or bytes (5 * g + 3) 0 * 256 + get_or bytes (5 * g + 4) 0) / 2 ^ 0 % 1024)) where
  -- one of them
  one_of : (j after : ℕ) → j < 4 → 2 * j + after ≡ 6
      → (get_or bytes (5 * g + j) 0 * 256 + get_or bytes (5 * g + (j + 1)) 0) / 2 ^ (after % 8) % 1024 ≡ get_or (characters_of bytes) (4 * g + j) 0
  one_of j after l s = in_bytes bytes t (4 * g + j) (5 * g + j) (5 * g + (j + 1)) after (omega arith) (omega arith) (omega arith) (omega arith)

  pub four_stored : ys ≡ take (4 * (g + 1)) (characters_of bytes) ++ drop (4 * (g + 1)) old
  four_stored =
      let long = characters_length bytes in
      let next : 4 * g + 4 ≡ 4 * (g + 1) = omega arith in
      stored ∙ four_more (characters_of bytes) old (4 * g) xs _ _ _ _ (omega arith) room e
      (in_bytes bytes t (4 * g) (5 * g) (5 * g + 1) 6 (omega arith) refl (omega arith) (omega arith))
      (one_of 1 4 (omega arith) refl)
      (one_of 2 2 (omega arith) refl)
      (one_of 3 0 (omega arith) refl)
      ∙ ap (λ (n : ℕ). take n (characters_of bytes) ++ drop n old) next
