-- Symbols written one after another; what writing a run of data bytes comes to, by its refusals; and the run taken a byte at a time.
-- Assumes nothing.
use mathlib.Core.Path.{◌≡◌, refl, sym, ◌∙◌, ap, ap₂, subst}
use mathlib.Core.Bool.{Bool, true, false, not}
use mathlib.Core.List.{List, [], ◌∷◌, ◌++◌, append_assoc, append-nil}
use Prim.Native.Nat.{ℕ, suc, ◌+◌, ◌≤◌, ◌<◌}
use native.Mathlib.Numerals.{add-one}
use native.Mathlib.Omega.{arith}
use lib.Dec.{T, ltb}
use lib.IntN.{ℤ}
use lib.ListN.{length, take, drop, get_or, set, length-set, take-append-drop}
use lib.Seq.{drop-cons, drop-length, take-suc-set}
use borrow.Author.Tests.{lt-ltb, le-ltb}
use Rattle.refusal.specs.Order.{Check, check, outcome, left}
use Rattle.symbol.specs.Symbols.{data_symbol}
use Rattle.symbol.specs.declared.Symbol.{Symbol}
use Rattle.character_rules.specs.Disparity.{is_disparity}
use Rattle.character_rules.specs.Blocks.{character, closing}
use Rattle.character_rules.specs.Answers.{RunWriting, run_written, not_run_written}
use Rattle.character_rules.specs.Writing.{characters_of, closing_of, run_characters, run_end, run_writing, run_stored}
use Rattle.character_rules.proofs.Disparities.{closing_disparity}
use Rattle.character_rules.proofs.RunLaws.{past_store}

-- ---- symbols one after another

-- written from a disparity they close at one
pub closing_is : (ss : List Symbol) (d : ℤ) → T (is_disparity d) → T (is_disparity (closing_of ss d))
unfolding closing_of
closing_is [] d t = t
closing_is (s ∷ ss) d t = closing_is ss (closing s d) (closing_disparity s d t)

pub length_characters : (ss : List Symbol) (d : ℤ) → length (characters_of ss d) ≡ length ss
unfolding characters_of
length_characters [] d = refl
length_characters (s ∷ ss) d = ap suc (length_characters ss (closing s d))

pub characters_append : (xs ys : List Symbol) (d : ℤ) → characters_of (xs ++ ys) d ≡ characters_of xs d ++ characters_of ys (closing_of xs d)
unfolding characters_of closing_of
characters_append [] ys d = refl
characters_append (x ∷ xs) ys d = ap (◌∷◌ (character x d)) (characters_append xs ys (closing x d))

pub closes_append : (xs ys : List Symbol) (d : ℤ) → closing_of (xs ++ ys) d ≡ closing_of ys (closing_of xs d)
unfolding closing_of
closes_append [] ys d = refl
closes_append (x ∷ xs) ys d = closes_append xs ys (closing x d)

-- ---- the refusals

abbrev checks_by : Bool → Bool → List Check
checks_by p s = check 1 (not p) ∷ check 6 s ∷ []

module _ (bs : List ℕ) (d : ℤ) (out : List ℕ) where
  abbrev answer_by : Bool → Bool → RunWriting
  answer_by p s = outcome (checks_by p s) not_run_written (run_written (run_end bs d))

  abbrev output_by : Bool → Bool → List ℕ
  output_by p s = left (checks_by p s) out (run_characters bs d ++ drop (length bs) out)

  -- the two sides of the contract, by the two tests
  by_tests : {p s : Bool} → is_disparity d ≡ p → ltb (length out) (length bs) ≡ s
      → (answer_by p s ≡ run_writing bs d (length out)) × (output_by p s ≡ run_stored bs d out)
  unfolding run_writing run_stored
  by_tests e g = (sym (λ i. answer_by (e i) (g i)), sym (λ i. output_by (e i) (g i)))

  pub write_bad : is_disparity d ≡ false → (not_run_written 1 ≡ run_writing bs d (length out)) × (out ≡ run_stored bs d out)
  write_bad e = by_tests e refl

  pub write_short : is_disparity d ≡ true → length out < length bs → (not_run_written 6 ≡ run_writing bs d (length out)) × (out ≡ run_stored bs d out)
  write_short e h = by_tests e (lt-ltb (length out) (length bs) h)

  pub write_done : is_disparity d ≡ true → length bs ≤ length out
      → (run_written (run_end bs d) ≡ run_writing bs d (length out)) × (run_characters bs d ++ drop (length bs) out ≡ run_stored bs d out)
  write_done e h = by_tests e (le-ltb (length out) (length bs) h)

-- ---- the characters, one at a time: what is done, and what remains

pub record Reached (bs : List ℕ) (d : ℤ) (old : List ℕ) (i : ℕ) (out : List ℕ) (z : ℤ) : Type 0 where
  pub place : i ≤ length bs
  pub room : length out ≡ length old
  pub stored : run_characters bs d ≡ take i out ++ run_characters (drop i bs) z
  pub rest : drop i out ≡ drop i old
  pub ends : run_end bs d ≡ run_end (drop i bs) z

pub at_start : (bs : List ℕ) (d : ℤ) (out : List ℕ) → Reached bs d out 0 out d
at_start bs d out = record { place = omega arith; room = refl; stored = refl; rest = refl; ends = refl }

module _ (bs : List ℕ) (d : ℤ) (old : List ℕ) (i : ℕ) (out : List ℕ) (z : ℤ) (c : ℕ) (y : ℤ)
    (reached : Reached bs d old i out z) (h : i < length bs) (fits : length bs ≤ length old)
    (hc : c ≡ character (data_symbol (get_or bs i 0)) z) (hy : y ≡ closing (data_symbol (get_or bs i 0)) z) where
  remain : run_characters (drop i bs) z ≡ c ∷ run_characters (drop (suc i) bs) y
  unfolding characters_of
  remain =
      ap (λ (l : List ℕ). run_characters l z) (drop-cons bs i 0 h)
      ∙ ap₂ (λ (k : ℕ) (x : ℤ). k ∷ run_characters (drop (suc i) bs) x) (sym hc) (sym hy)

  kept_characters : take i out ++ (c ∷ run_characters (drop (suc i) bs) y) ≡ take (suc i) (set out i c) ++ run_characters (drop (suc i) bs) y
  kept_characters =
      let room = reached.room in
      let ys = run_characters (drop (suc i) bs) y in
      sym (ap (λ (l : List ℕ). l ++ ys) (take-suc-set out i c (omega arith)) ∙ append_assoc (take i out) (c ∷ []) ys)

  -- one byte more
  pub one_more : Reached bs d old (i + 1) (set out i c) y
  unfolding closing_of
  one_more =
      subst (λ (n : ℕ). Reached bs d old n (set out i c) y) (sym (add-one i)) record {
        place = h;
        room = length-set out i c ∙ reached.room;
        stored = reached.stored ∙ ap (λ (l : List ℕ). take i out ++ l) remain ∙ kept_characters;
        rest = let room = reached.room in past_store out old i c (omega arith) reached.rest;
        ends = reached.ends ∙ ap (λ (l : List ℕ). run_end l z) (drop-cons bs i 0 h) ∙ ap (run_end (drop (suc i) bs)) (sym hy);
      }

-- the whole run
pub at_end_lem : (bs : List ℕ) (d : ℤ) (old : List ℕ) (i : ℕ) (out : List ℕ) (z : ℤ) → Reached bs d old i out z → i ≡ length bs
    → (z ≡ run_end bs d) × (out ≡ run_characters bs d ++ drop (length bs) old)
unfolding characters_of closing_of
at_end_lem bs d old i out z reached e =
    let none : drop i bs ≡ [] = ap (λ (k : ℕ). drop k bs) e ∙ drop-length bs in (
      sym (reached.ends ∙ ap (λ (l : List ℕ). run_end l z) none),
      sym (take-append-drop i out)
          ∙ ap₂ (λ (a b : List ℕ). a ++ b)
          (sym (append-nil (take i out)) ∙ sym (reached.stored ∙ ap (λ (l : List ℕ). take i out ++ run_characters l z) none))
          (reached.rest ∙ ap (λ (k : ℕ). drop k old) e),
    )
