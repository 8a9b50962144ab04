-- What reading a run comes to, by its refusals; and the run taken a character at a time.
-- Assumes nothing.
use mathlib.Core.Path.{◌≡◌, refl, sym, ◌∙◌, ap, ap₂, subst}
use mathlib.Core.Bool.{Bool, true, false, not, ◌||◌}
use mathlib.Core.List.{List, [], ◌∷◌, ◌++◌, append_assoc, append-nil}
use Prim.Native.Nat.{ℕ, zero, suc, ◌+◌, ◌≤◌, ◌<◌}
use native.Mathlib.Numerals.{add-one}
use native.Mathlib.Omega.{arith}
use lib.Dec.{T, leb, ltb, ltb→lt}
use lib.IntN.{ℤ}
use lib.ListN.{length, take, drop, get_or, set, length-set, take-append-drop}
use lib.Seq.{drop-cons, drop-length, take-suc-set, drop-set-lt, drop-drop}
use borrow.Author.Tests.{lt-ltb, le-ltb}
use Rattle.refusal.specs.Order.{Check, check, outcome, left}
use Rattle.laws.specs.Lists.{all_of}
use Rattle.laws.proofs.Bools.{and_left, and_right}
use Rattle.laws.proofs.Cases.{some_is_not_none}
use Rattle.character_rules.specs.Disparity.{is_plus, is_disparity, disparity_of}
use Rattle.character_rules.specs.Answers.{Reading, RunReading, run_read, not_run_read}
use Rattle.character_rules.specs.Reading.{reading}
use Rattle.character_rules.specs.Results.{packed, after_one, in_range, run_results, run_closing, run_reading, run_output, readings_of}
use Rattle.character_rules.proofs.Disparities.{by_sign}
use Rattle.character_rules.proofs.Packed.{after_disparity, after_plus}

-- ---- the refusals

abbrev checks_by : Bool → Bool → Bool → List Check
checks_by p q s = check 1 (not p || not q) ∷ check 6 s ∷ []

module _ (cs : List ℕ) (d : ℤ) (out : List ℕ) where
  abbrev answer_by : Bool → Bool → Bool → RunReading
  answer_by p q s = outcome (checks_by p q s) not_run_read (run_read (run_closing cs d))

  abbrev output_by : Bool → Bool → Bool → List ℕ
  output_by p q s = left (checks_by p q s) out (run_results cs d ++ drop (length cs) out)

  -- the two sides of the contract, by the three tests
  by_tests : {p q s : Bool} → is_disparity d ≡ p → all_of in_range cs ≡ q → ltb (length out) (length cs) ≡ s
      → (answer_by p q s ≡ run_reading cs d (length out)) × (output_by p q s ≡ run_output cs d out)
  unfolding run_reading run_output
  by_tests e f g = (sym (λ i. answer_by (e i) (f i) (g i)), sym (λ i. output_by (e i) (f i) (g i)))

  pub run_bad : is_disparity d ≡ false → (not_run_read 1 ≡ run_reading cs d (length out)) × (out ≡ run_output cs d out)
  run_bad e = by_tests e refl refl

  pub run_far : is_disparity d ≡ true → all_of in_range cs ≡ false → (not_run_read 1 ≡ run_reading cs d (length out)) × (out ≡ run_output cs d out)
  run_far e f = by_tests e f refl

  pub run_short : is_disparity d ≡ true → all_of in_range cs ≡ true → length out < length cs → (not_run_read 6 ≡ run_reading cs d (length out)) × (out ≡ run_output cs d out)
  run_short e f h = by_tests e f (lt-ltb (length out) (length cs) h)

  pub run_done : is_disparity d ≡ true → all_of in_range cs ≡ true → length cs ≤ length out → (run_read (run_closing cs d) ≡ run_reading cs d (length out))
      × (run_results cs d ++ drop (length cs) out ≡ run_output cs d out)
  run_done e f h = by_tests e f (le-ltb (length out) (length cs) h)

  -- a refused run leaves the output as it stood
  pub run_leaves : (n : ℕ) → not_run_read n ≡ run_reading cs d (length out) → run_output cs d out ≡ out
  unfolding run_reading run_output
  run_leaves n = go (is_disparity d) (all_of in_range cs) (ltb (length out) (length cs))
    where
      go : (p q s : Bool) → not_run_read n ≡ answer_by p q s → output_by p q s ≡ out
      go false q s e = refl
      go true false s e = refl
      go true true true e = refl
      go true true false e = absurd (some_is_not_none (sym (ap (λ (r : RunReading). r.disparity) e)))

-- ---- every character in range

-- a run in range is in range at each place
pub range_at : (cs : List ℕ) (i : ℕ) → T (all_of in_range cs) → i < length cs → get_or cs i 0 < 1024
range_at [] i t h = absurd (omega arith)
range_at (c ∷ cs) zero t h = ltb→lt c 1024 (and_left (in_range c) (all_of in_range cs) t)
range_at (c ∷ cs) (suc i) t h = range_at cs i (and_right (in_range c) (all_of in_range cs) t) (omega arith)

-- a run from a disparity ends at one
pub closing_run : (cs : List ℕ) (d : ℤ) → T (all_of in_range cs) → T (is_disparity d) → T (is_disparity (run_closing cs d))
closing_run [] d a t = t
closing_run (c ∷ cs) d a t =
    let h = ltb→lt c 1024 (and_left (in_range c) (all_of in_range cs) a) in
    closing_run cs (after_one c d) (and_right (in_range c) (all_of in_range cs) a) (after_disparity c d (omega arith) t)

pub disparity_is : (plus : Bool) → T (is_disparity (disparity_of plus))
disparity_is true = tt
disparity_is false = tt

-- the disparity that the next character is read at, from a packed result
pub next_read : (c : ℕ) (plus : Bool) (n : ℕ) → c < 1024 → n ≡ packed (reading c (disparity_of plus)) → after_one c (disparity_of plus) ≡ disparity_of (leb 2048 n)
next_read c plus n h e =
    let d = disparity_of plus in
    sym (by_sign (after_one c d) (after_disparity c d (omega arith) (disparity_is plus)))
    ∙ ap disparity_of (sym (after_plus c d (omega arith) (disparity_is plus)) ∙ ap (λ (k : ℕ). leb 2048 k) (sym e))

-- ---- two runs, one after the other

pub readings_append : (cs ds : List ℕ) (d : ℤ) → readings_of (cs ++ ds) d ≡ readings_of cs d ++ readings_of ds (run_closing cs d)
readings_append [] ds d = refl
readings_append (c ∷ cs) ds d = ap (λ (l : List Reading). reading c d ∷ l) (readings_append cs ds (after_one c d))

pub closing_append : (cs ds : List ℕ) (d : ℤ) → run_closing (cs ++ ds) d ≡ run_closing ds (run_closing cs d)
closing_append [] ds d = refl
closing_append (c ∷ cs) ds d = closing_append cs ds (after_one c d)

pub length_readings : (cs : List ℕ) (d : ℤ) → length (readings_of cs d) ≡ length cs
length_readings [] d = refl
length_readings (c ∷ cs) d = ap suc (length_readings cs (after_one c d))

-- ---- a store at a place: what lies past it is as it stood

pub past_store : (out old : List ℕ) (i r : ℕ) → i < length out → drop i out ≡ drop i old → drop (suc i) (set out i r) ≡ drop (suc i) old
past_store out old i r h rest =
    drop-set-lt (suc i) out i r (omega arith)
    ∙ ap (λ (n : ℕ). drop n out) (sym (add-one i))
    ∙ sym (drop-drop 1 i out) ∙ ap (drop 1) rest ∙ drop-drop 1 i old
    ∙ ap (λ (n : ℕ). drop n old) (add-one i)

-- ---- the results, one at a time: what is done, and what remains

pub record Reached (cs : List ℕ) (d : ℤ) (old : List ℕ) (i : ℕ) (out : List ℕ) (plus : Bool) : Type 0 where
  pub place : i ≤ length cs
  pub room : length out ≡ length old
  pub results : run_results cs d ≡ take i out ++ run_results (drop i cs) (disparity_of plus)
  pub rest : drop i out ≡ drop i old
  pub ends : run_closing cs d ≡ run_closing (drop i cs) (disparity_of plus)

pub at_start : (cs : List ℕ) (plus : Bool) (out : List ℕ) → Reached cs (disparity_of plus) out 0 out plus
at_start cs plus out = record { place = omega arith; room = refl; results = refl; rest = refl; ends = refl }

module _ (cs : List ℕ) (d : ℤ) (old : List ℕ) (i : ℕ) (out : List ℕ) (plus : Bool) (r : ℕ) (reached : Reached cs d old i out plus)
    (h : i < length cs) (g : get_or cs i 0 < 1024) (fits : length cs ≤ length old) (e : r ≡ packed (reading (get_or cs i 0) (disparity_of plus))) where
  next : after_one (get_or cs i 0) (disparity_of plus) ≡ disparity_of (leb 2048 r)
  next = next_read (get_or cs i 0) plus r g e

  remain : run_results (drop i cs) (disparity_of plus) ≡ r ∷ run_results (drop (suc i) cs) (disparity_of (leb 2048 r))
  remain =
      ap (λ (l : List ℕ). run_results l (disparity_of plus)) (drop-cons cs i 0 h)
      ∙ ap₂ (λ (k : ℕ) (z : ℤ). k ∷ run_results (drop (suc i) cs) z) (sym e) next

  stored : take i out ++ (r ∷ run_results (drop (suc i) cs) (disparity_of (leb 2048 r))) ≡ take (suc i) (set out i r) ++ run_results (drop (suc i) cs)
      (disparity_of (leb 2048 r))
  stored =
      let room = reached.room in
      let ys = run_results (drop (suc i) cs) (disparity_of (leb 2048 r)) in
      sym (ap (λ (l : List ℕ). l ++ ys) (take-suc-set out i r (omega arith)) ∙ append_assoc (take i out) (r ∷ []) ys)

  -- one character more
  pub one_more : Reached cs d old (i + 1) (set out i r) (leb 2048 r)
  one_more =
      subst (λ (n : ℕ). Reached cs d old n (set out i r) (leb 2048 r)) (sym (add-one i)) record {
        place = h;
        room = length-set out i r ∙ reached.room;
        results = reached.results ∙ ap (λ (l : List ℕ). take i out ++ l) remain ∙ stored;
        rest = let room = reached.room in past_store out old i r (omega arith) reached.rest;
        ends = reached.ends ∙ ap (λ (l : List ℕ). run_closing l (disparity_of plus)) (drop-cons cs i 0 h) ∙ ap (run_closing (drop (suc i) cs)) next;
      }

plus_is : (p : Bool) → is_plus (disparity_of p) ≡ p
plus_is true = refl
plus_is false = refl

-- the whole run
pub at_end_lem : (cs : List ℕ) (d : ℤ) (old : List ℕ) (i : ℕ) (out : List ℕ) (plus : Bool) → Reached cs d old i out plus → i ≡ length cs
    → (plus ≡ is_plus (run_closing cs d)) × (out ≡ run_results cs d ++ drop (length cs) old)
at_end_lem cs d old i out plus reached e =
    let n = length cs in
    let none : drop i cs ≡ [] = ap (λ (k : ℕ). drop k cs) e ∙ drop-length cs in (
      sym (ap is_plus (reached.ends ∙ ap (λ (l : List ℕ). run_closing l (disparity_of plus)) none) ∙ plus_is plus),
      sym (take-append-drop i out)
          ∙ ap₂ (λ (a b : List ℕ). a ++ b)
          (sym (append-nil (take i out)) ∙ sym (reached.results ∙ ap (λ (l : List ℕ). take i out ++ run_results l (disparity_of plus)) none))
          (reached.rest ∙ ap (λ (k : ℕ). drop k old) e),
    )
