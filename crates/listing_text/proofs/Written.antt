-- Text put after text: nothing, a copy, two parts, and what the whole output holds.
-- Assumes nothing.
use mathlib.Core.Path.{◌≡◌, sym, ap, ap₂, ◌∙◌}
use mathlib.Core.Bool.{Bool, true, false}
use mathlib.Core.List.{List, [], ◌++◌, append_assoc, append-nil}
use Prim.Native.Nat.{ℕ, ◌+◌, ◌≤◌, ◌<◌}
use native.Mathlib.Nat.{add_assoc, add-zero}
use native.Mathlib.Omega.{arith}
use lib.Dec.{leb}
use lib.ListN.{length, take, drop, length-append, drop_of_length-le}
use lib.Seq.{drop-drop, paste, paste-zero, take_all, take_at, drop_at, length-take-le}
use borrow.Author.Tests.{leb-true, leb-false}
use Rattle.laws.proofs.Cases.{by_test}
use Rattle.listing_text.specs.Writing.{with_text, index_after, output_after, Wrote}

pub wrote_none : (at : ℕ) (old : List ℕ) → Wrote at [] old old at
wrote_none at old = record { size = sym (add-zero at); whole = paste-zero old at [] }

-- the whole of a text, copied
pub wrote_copy : (at : ℕ) (text old new : List ℕ) (i : ℕ) → i ≡ length text → new ≡ paste old at text i → Wrote at text old new (at + i)
wrote_copy at text old new i e p =
    let all : take i text ≡ text = take_all i text (omega arith) in
    record {
      size = ap (λ (k : ℕ). at + k) e;
      whole = p ∙ ap₂ (λ (l : List ℕ) (k : ℕ). take at old ++ l ++ drop (at + k) old) all e;
    }

-- ---- a second text, after the first

module _ (at : ℕ) (xs ys old : List ℕ) where
  abbrev end : ℕ
  end = at + length xs

  abbrev mid : List ℕ
  mid = with_text at xs old

  front : at ≤ length old → take end mid ≡ take at old ++ xs
  front h = take_at (take at old ++ xs) (drop end old) end (length-append (take at old) xs ∙ ap (λ (k : ℕ). k + length xs) (length-take-le at old h))

  back : at ≤ length old → drop end mid ≡ drop end old
  back h = drop_at (take at old ++ xs) (drop end old) end (length-append (take at old) xs ∙ ap (λ (k : ℕ). k + length xs) (length-take-le at old h))

  -- an index past the output's end: the text stands at its end
  past : length old < at → (mid ≡ take at old ++ xs) × (length mid ≤ end) × (drop end old ≡ [])
  past h =
      let rest : drop end old ≡ [] = drop_of_length-le old {i = end} (omega arith) in
      let same : mid ≡ take at old ++ xs = ap (λ (l : List ℕ). take at old ++ xs ++ l) rest ∙ append-nil (take at old ++ xs) in
      let short : length (take at old) ≡ length old = ap length (take_all at old (omega arith)) in
      let long : length mid ≡ length (take at old) + length xs = ap length same ∙ length-append (take at old) xs in
      (same, omega arith, rest)

  taken : take end mid ≡ take at old ++ xs
  taken =
      by_test (leb at (length old)) (λ t. front (leb-true at (length old) t))
      (λ f. let p = past (leb-false at (length old) f) in take_all end mid p.1 ∙ p.0)

  dropped : drop end mid ≡ drop end old
  dropped =
      by_test (leb at (length old)) (λ t. back (leb-true at (length old) t))
      (λ f. let p = past (leb-false at (length old) f) in drop_of_length-le mid {i = end} p.1 ∙ sym p.2)

  text_more : with_text end ys mid ≡ with_text at (xs ++ ys) old
  text_more =
      let n = length ys in
      let size : end + n ≡ at + length (xs ++ ys) = add_assoc at (length xs) n ∙ ap (λ (k : ℕ). at + k) (sym (length-append xs ys)) in
      let rest : drop (end + n) mid ≡ drop (at + length (xs ++ ys)) old =
      sym (drop-drop n end mid) ∙ ap (drop n) dropped ∙ drop-drop n end old ∙ ap (λ (k : ℕ). drop k old) size in
      ap₂ (λ (l r : List ℕ). l ++ ys ++ r) taken rest
      ∙ ap (λ (l : List ℕ). l ++ drop (at + length (xs ++ ys)) old) (append_assoc (take at old) xs ys)

pub wrote_more : {at b c : ℕ} {xs ys old mid new : List ℕ} → Wrote at xs old mid b → Wrote b ys mid new c → Wrote at (xs ++ ys) old new c
wrote_more {at} {b} {c} {xs} {ys} {old} {mid} {new} v w =
    let n = length ys in
    record {
      size = w.size ∙ ap (λ (k : ℕ). k + n) v.size ∙ add_assoc at (length xs) n ∙ ap (λ (k : ℕ). at + k) (sym (length-append xs ys));
      whole = w.whole ∙ ap₂ (λ (k : ℕ) (l : List ℕ). with_text k ys l) v.size v.whole ∙ text_more at xs ys old;
    }

-- from the front on
pub wrote_whole : {xs old new : List ℕ} {b : ℕ} → Wrote 0 xs old new b → (b ≡ length xs) × (new ≡ xs ++ drop (length xs) old)
wrote_whole {xs} {old} {new} {b} w =
    let n : 0 + length xs ≡ length xs = omega arith in
    (w.size ∙ n, w.whole ∙ ap (λ (k : ℕ). xs ++ drop k old) n)

-- ---- what a call comes to, by its room

module _ (room : Bool) (at : ℕ) (text old new : List ℕ) (after : ℕ) where
  abbrev Comes : Type 0
  Comes = (after ≡ index_after room at text) × (new ≡ output_after room at text old)

  pub put_done : room ≡ true → Wrote at text old new after → Comes
  put_done e w = (w.size ∙ sym (rw e), w.whole ∙ sym (rw e))

  -- and back, for a caller that has room
  pub put_wrote : room ≡ true → Comes → Wrote at text old new after
  put_wrote e d = record { size = d.0 ∙ rw e; whole = d.1 ∙ rw e }

pub put_nothing : (room : Bool) (at : ℕ) (text old : List ℕ) → room ≡ false → (at ≡ index_after room at text) × (old ≡ output_after room at text old)
put_nothing room at text old e = (sym (rw e), sym (rw e))
