-- Bytes laid over what stood: they are read back, and what lies before and after them is as it stood.
-- Assumes nothing.
use mathlib.Core.Path.{◌≡◌, refl, sym, ◌∙◌, ap}
use mathlib.Core.List.{List, ◌++◌, append_assoc}
use Prim.Native.Nat.{ℕ, ◌+◌, ◌-◌, ◌*◌, ◌≤◌, ◌<◌}
use native.Mathlib.Omega.{arith}
use native.Mathlib.Nat.{mul-le-mul_right, suc-mul, zero-add}
use lib.ListN.{length, take, drop, length-append, length-drop, take-append-drop}
use lib.Seq.{paste, length-take-le, take-length, take_at, drop_at, drop-drop, take-append-le, drop-append-le}
use Rattle.retry_rules.specs.Lent.{laid}

-- what is laid at the beginning stands before the rest
pub laid_first : (old bytes : List ℕ) → laid old 0 bytes ≡ bytes ++ drop (length bytes) old
unfolding laid
laid_first old bytes = ap (λ (k : ℕ). bytes ++ drop k old) (zero-add (length bytes))

-- the library's copy of all bytes
pub laid_paste : (old : List ℕ) (at : ℕ) (bytes : List ℕ) → paste old at bytes (length bytes) ≡ laid old at bytes
unfolding laid
laid_paste old at bytes =
    ap (λ (l : List ℕ). (take at old ++ l) ++ drop (at + length bytes) old) (take-length bytes)
    ∙ append_assoc (take at old) bytes (drop (at + length bytes) old)

module _ (old : List ℕ) (at : ℕ) (bytes : List ℕ) (fits : at + length bytes ≤ length old) where
  head_length : length (take at old) ≡ at
  head_length = length-take-le at old (omega arith)

  pub laid_length : length (laid old at bytes) ≡ length old
  unfolding laid
  laid_length =
      simp (length-append, length-drop) (omega (arith, head_length))

  -- the bytes themselves
  pub laid_same : take (length bytes) (drop at (laid old at bytes)) ≡ bytes
  unfolding laid
  laid_same =
      ap (take (length bytes)) (drop_at (take at old) (bytes ++ drop (at + length bytes) old) at head_length)
      ∙ take_at bytes (drop (at + length bytes) old) (length bytes) refl

  -- k bytes from a place on that end before them
  pub laid_before : (a k : ℕ) → a + k ≤ at → take k (drop a (laid old at bytes)) ≡ take k (drop a old)
  unfolding laid
  laid_before a k h =
      let h₁ : a ≤ length (take at old) = omega (arith, head_length) in
      let h₂ : k ≤ length (drop a (take at old)) = simp length-drop (omega (arith, head_length)) in
      let same : (q : List ℕ) → take k (drop a (take at old ++ q)) ≡ take k (drop a (take at old)) = λ q.
      ap (take k) (drop-append-le a (take at old) q h₁) ∙ take-append-le k (drop a (take at old)) q h₂ in
      same (bytes ++ drop (at + length bytes) old) ∙ sym (same (drop at old))
      ∙ ap (λ (l : List ℕ). take k (drop a l)) (take-append-drop at old)

  -- all from a place after them on
  pub laid_after : (a : ℕ) → at + length bytes ≤ a → drop a (laid old at bytes) ≡ drop a old
  unfolding laid
  laid_after a h =
      let n = at + length bytes in
      let q : n + (a - n) ≡ a = omega arith in
      let head : length (take at old ++ bytes) ≡ n = simp length-append (omega (arith, head_length)) in
      let past : drop n (laid old at bytes) ≡ drop n old =
      ap (drop n) (sym (append_assoc (take at old) bytes (drop n old))) ∙ drop_at (take at old ++ bytes) (drop n old) n head in
      ap (λ (k : ℕ). drop k (laid old at bytes)) (sym q) ∙ sym (drop-drop (a - n) n (laid old at bytes))
      ∙ ap (drop (a - n)) past ∙ drop-drop (a - n) n old ∙ ap (λ (k : ℕ). drop k old) q

-- buffer i of size S ends before buffer j begins
pub buffers_apart : (S i j : ℕ) → i < j → i * S + S ≤ j * S
buffers_apart S i j h = rw (← suc-mul i S) (mul-le-mul_right S h)
