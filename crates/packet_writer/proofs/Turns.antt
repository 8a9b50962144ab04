-- One turn of a loop that writes a list of symbols.
-- Assumes nothing.
use mathlib.Core.Path.{◌≡◌, refl, ap, sym, ◌∙◌, subst}
use mathlib.Core.Bool.{Bool}
use mathlib.Core.List.{List, [], ◌∷◌, ◌++◌, map}
use Prim.Native.Nat.{ℕ, zero, suc, ◌+◌, ◌≤◌, ◌<◌}
use native.Mathlib.Numerals.{add-one}
use native.Mathlib.Nat.{le_of_suc-le-suc, not-suc-le-zero}
use native.Mathlib.Omega.{arith}
use lib.Dec.{T}
use lib.ListN.{length, get_or, take}
use lib.Seq.{take-suc, length-take-le}
use Rattle.laws.specs.Lists.{all_of}
use Rattle.laws.proofs.Bools.{and_left, and_right}
use Rattle.symbol.specs.declared.Symbol.{Symbol}
use Rattle.character_rules.specs.Disparity.{is_disparity}
use Rattle.character_rules.proofs.WriteLaws.{closing_is}
use Rattle.packet_rules.specs.declared.Written.{Written}
use Rattle.packet_writer.specs.Writing.{Wrote}
use Rattle.packet_writer.proofs.Laws.{wrote_more}

pub length_map : (f : ℕ → Symbol) (xs : List ℕ) → length (map f xs) ≡ length xs
length_map f [] = refl
length_map f (x ∷ xs) = ap suc (length_map f xs)

module _ (p : Written) (xs : List Symbol) (old : List ℕ) where
  -- how many are written after i turns
  pub count_at : (i : ℕ) (out : List ℕ) (q : Written) → i ≤ length xs → Wrote p (take i xs) old out q → q.count ≡ p.count + i
  count_at i out q h w = ap (λ (x : Written). x.count) w.next ∙ ap (λ (n : ℕ). p.count + n) (length-take-le i xs h)

  pub disparity_at : (i : ℕ) (out : List ℕ) (q : Written) → T (is_disparity p.disparity) → Wrote p (take i xs) old out q → T (is_disparity q.disparity)
  disparity_at i out q t w = subst (λ (x : Written). T (is_disparity x.disparity)) (sym w.next) (closing_is (take i xs) p.disparity t)

  -- and after one more
  pub one_turn : (i : ℕ) (z : Symbol) {mid new : List ℕ} {q r : Written} → i < length xs → p.count + length xs ≤ length old
      → Wrote p (take i xs) old mid q → Wrote q (get_or xs i z ∷ []) mid new r → Wrote p (take (i + 1) xs) old new r
  one_turn i z {mid} {new} {q} {r} h room w v =
      let n : length (take i xs) ≡ i = length-take-le i xs (omega arith) in
      let e : take (i + 1) xs ≡ take i xs ++ (get_or xs i z ∷ []) = ap (λ (k : ℕ). take k xs) (add-one i) ∙ take-suc xs i z h in
      subst (λ (l : List Symbol). Wrote p l old new r) (sym e) (wrote_more w v (omega arith))

-- what all of a list have, the one at i has
pub all_at : (g : Symbol → Bool) (xs : List Symbol) (i : ℕ) (z : Symbol) → T (all_of g xs) → i < length xs → T (g (get_or xs i z))
all_at g [] i z a h = absurd (not-suc-le-zero h)
all_at g (x ∷ xs) zero z a h = and_left (g x) (all_of g xs) a
all_at g (x ∷ xs) (suc i) z a h = all_at g xs i z (and_right (g x) (all_of g xs) a) (le_of_suc-le-suc h)
