-- A capture read a part at a time. What is done and what remains always make the whole: the law that a loop over the characters goes by.
-- Assumes nothing.
use mathlib.Core.Path.{◌≡◌, refl, sym, ◌∙◌, ap, ap₂, subst}
use mathlib.Core.Bool.{Bool, true}
use mathlib.Core.List.{List, [], ◌∷◌, ◌++◌, append_assoc}
use Prim.Native.Nat.{ℕ, suc, ◌+◌, ◌≤◌, ◌<◌}
use native.Mathlib.Numerals.{add-one}
use native.Mathlib.Omega.{arith}
use lib.Dec.{leb}
use lib.IntN.{ℤ}
use lib.ListN.{length, take, drop, get_or, set, length-set, take-append-drop}
use lib.Seq.{drop-cons, drop-length, take-suc-set, drop-set-lt}
use Rattle.character_rules.specs.Disparity.{disparity_of}
use Rattle.character_rules.specs.Reading.{reading}
use Rattle.character_rules.specs.Results.{packed, after_one, run_closing}
use Rattle.character_rules.proofs.RunLaws.{next_read}
use Rattle.packet_rules.specs.declared.Reader.{Reader}
use Rattle.packet_rules.specs.State.{well_formed}
use Rattle.packet_rules.specs.Step.{step_of}
use Rattle.packet_rules.specs.Line.{said_of, after_of}
use Rattle.packet_rules.proofs.Kept.{kept}
use Rattle.events_rules.specs.Numbers.{packed_event}
use Rattle.events_rules.specs.Events.{events_of, reader_after}

-- ---- one by one: the first character is read and given to the reader, and the others are read from where that left off

module _ (c : ℕ) (cs : List ℕ) (d : ℤ) (r : Reader) where
  pub events_one : events_of (c ∷ cs) d r ≡ packed_event (step_of r (reading c d)).said ∷ events_of cs (after_one c d) (step_of r (reading c d)).reader
  unfolding events_of said_of
  events_one = refl

  pub reader_one : reader_after (c ∷ cs) d r ≡ reader_after cs (after_one c d) (step_of r (reading c d)).reader
  unfolding reader_after after_of
  reader_one = refl

pub events_none : (d : ℤ) (r : Reader) → events_of [] d r ≡ []
unfolding events_of said_of
events_none d r = refl

pub reader_none : (d : ℤ) (r : Reader) → reader_after [] d r ≡ r
unfolding reader_after after_of
reader_none d r = refl

-- the reader after them keeps its rule if it did before
pub reader_kept : (cs : List ℕ) (d : ℤ) (r : Reader) → well_formed r ≡ true → well_formed (reader_after cs d r) ≡ true
reader_kept [] d r h = ap well_formed (reader_none d r) ∙ h
reader_kept (c ∷ cs) d r h =
    ap well_formed (reader_one c cs d r) ∙ reader_kept cs (after_one c d) (step_of r (reading c d)).reader (kept r (reading c d) h)

-- ---- a part of the characters

-- what a loop that stands at place i will leave of its output
abbrev pub whole : List ℕ → ℕ → Bool → Reader → List ℕ → List ℕ
whole cs i plus r out = take i out ++ (events_of (drop i cs) (disparity_of plus) r ++ drop (length cs) out)

-- from place i to place j: what will be left, the disparity and the state at the end are the same as seen from either
pub record Ran (cs : List ℕ) (i : ℕ) (p : Bool) (r : Reader) (old : List ℕ) (j : ℕ) (q : Bool) (s : Reader) (new : List ℕ) : Type 0 where
  pub forward : i ≤ j
  pub place : j ≤ length cs
  pub room : length new ≡ length old
  pub events : whole cs j q s new ≡ whole cs i p r old
  pub ends : run_closing (drop j cs) (disparity_of q) ≡ run_closing (drop i cs) (disparity_of p)
  pub after : reader_after (drop j cs) (disparity_of q) s ≡ reader_after (drop i cs) (disparity_of p) r
  pub rule : well_formed s ≡ true

module _ (cs : List ℕ) where
  pub ran_none : (i : ℕ) (p : Bool) (r : Reader) (out : List ℕ) → i ≤ length cs → well_formed r ≡ true → Ran cs i p r out i p r out
  ran_none i p r out h ok = record { forward = omega arith; place = h; room = refl; events = refl; ends = refl; after = refl; rule = ok }

  -- nothing read, the state written otherwise
  pub ran_same : (i : ℕ) (p : Bool) (r s : Reader) (out : List ℕ) → r ≡ s → i ≤ length cs → well_formed r ≡ true → Ran cs i p r out i p s out
  ran_same i p r s out e h ok = subst (λ (x : Reader). Ran cs i p r out i p x out) e (ran_none i p r out h ok)

  pub ran_then : {i j k : ℕ} {p q t : Bool} {r s u : Reader} {old mid new : List ℕ} → Ran cs i p r old j q s mid → Ran cs j q s mid k t u new → Ran cs i p r old k t u new
  ran_then a b =
      record {
        forward = let x = a.forward in let y = b.forward in omega arith;
        place = b.place;
        room = b.room ∙ a.room;
        events = b.events ∙ a.events;
        ends = b.ends ∙ a.ends;
        after = b.after ∙ a.after;
        rule = b.rule;
      }

  -- ---- one character, its packed result and its event

  module _ (i : ℕ) (p : Bool) (r : Reader) (out : List ℕ) (n e : ℕ) (s : Reader) (h : i < length cs) (g : get_or cs i 0 < 1024)
      (fits : length cs ≤ length out) (ok : well_formed r ≡ true) (result : n ≡ packed (reading (get_or cs i 0) (disparity_of p)))
      (event : e ≡ packed_event (step_of r (reading (get_or cs i 0) (disparity_of p))).said)
      (state : s ≡ (step_of r (reading (get_or cs i 0) (disparity_of p))).reader) where
    -- the disparity that the next character is read at
    next : after_one (get_or cs i 0) (disparity_of p) ≡ disparity_of (leb 2048 n)
    next = next_read (get_or cs i 0) p n g result

    remain : events_of (drop i cs) (disparity_of p) r ≡ e ∷ events_of (drop (suc i) cs) (disparity_of (leb 2048 n)) s
    remain =
        ap (λ (l : List ℕ). events_of l (disparity_of p) r) (drop-cons cs i 0 h)
        ∙ events_one (get_or cs i 0) (drop (suc i) cs) (disparity_of p) r
        ∙ (λ k. sym event k ∷ events_of (drop (suc i) cs) (next k) (sym state k))

    laid : whole cs (suc i) (leb 2048 n) s (set out i e) ≡ whole cs i p r out
    laid =
        let ys = events_of (drop (suc i) cs) (disparity_of (leb 2048 n)) s in
        let zs = drop (length cs) out in
        ap₂ (λ (a b : List ℕ). a ++ (ys ++ b)) (take-suc-set out i e (omega arith)) (drop-set-lt (length cs) out i e h)
        ∙ append_assoc (take i out) (e ∷ []) (ys ++ zs)
        ∙ ap (λ (l : List ℕ). take i out ++ (l ++ zs)) (sym remain)

    -- one character more
    pub ran_one : Ran cs i p r out (i + 1) (leb 2048 n) s (set out i e)
    ran_one =
        subst (λ (k : ℕ). Ran cs i p r out k (leb 2048 n) s (set out i e)) (sym (add-one i)) record {
          forward = omega arith;
          place = h;
          room = length-set out i e;
          events = laid;
          ends = sym (ap (λ (l : List ℕ). run_closing l (disparity_of p)) (drop-cons cs i 0 h) ∙ ap (run_closing (drop (suc i) cs)) next);
          after =
              sym (ap (λ (l : List ℕ). reader_after l (disparity_of p) r) (drop-cons cs i 0 h)
              ∙ reader_one (get_or cs i 0) (drop (suc i) cs) (disparity_of p) r
              ∙ (λ k. reader_after (drop (suc i) cs) (next k) (sym state k)));
          rule = ap well_formed state ∙ kept r (reading (get_or cs i 0) (disparity_of p)) ok;
        }

  -- ---- the whole

  module _ (p q : Bool) (r s : Reader) (old new : List ℕ) (n : ℕ) (ran : Ran cs 0 p r old n q s new) (all : n ≡ length cs) where
    none : drop n cs ≡ []
    none = ap (λ (k : ℕ). drop k cs) all ∙ drop-length cs

    pub all_ends : disparity_of q ≡ run_closing cs (disparity_of p)
    all_ends = sym (ap (λ (l : List ℕ). run_closing l (disparity_of q)) none) ∙ ran.ends

    pub all_after : s ≡ reader_after cs (disparity_of p) r
    all_after = sym (ap (λ (l : List ℕ). reader_after l (disparity_of q) s) none ∙ reader_none (disparity_of q) s) ∙ ran.after

    pub all_events : new ≡ events_of cs (disparity_of p) r ++ drop (length cs) old
    all_events =
        sym (take-append-drop n new)
        ∙ ap₂ (λ (l : List ℕ) (k : ℕ). take n new ++ (l ++ drop k new))
        (sym (ap (λ (l : List ℕ). events_of l (disparity_of q) s) none ∙ events_none (disparity_of q) s)) all
        ∙ ran.events
