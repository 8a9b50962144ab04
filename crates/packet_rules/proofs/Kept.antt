-- Every state that the step hands back keeps the rule if the given one did, and so does a fresh one.
-- Assumes nothing.
use mathlib.Core.Path.{◌≡◌, refl}
use mathlib.Core.Bool.{true, false, ◌&&◌}
use mathlib.Core.List.{◌∷◌}
use Prim.Native.Nat.{ℕ, ◌+◌, ◌-◌}
use native.Mathlib.Omega.{arith}
use borrow.Author.Tests.{lt-ltb, le-leb, leb-true, leb-false, eq-eqb, eqb-true, not-false}
use lib.Dec.{leb, ltb, eqb}
use Rattle.laws.proofs.Cases.{first_true, second_true}
use Rattle.character_rules.specs.Answers.{Reading}
use Rattle.crc.specs.Crc16.{crc_start, crc_byte}
use Rattle.packet_rules.specs.declared.Opener.TheVariants.{Sdp, Spp, Slp}
use Rattle.packet_rules.specs.declared.Kind.{Kind}
use Rattle.packet_rules.specs.declared.Kind.TheVariants.{Data, Idl, Com, Opens, Closes, NoPlace, Unsupported}
use Rattle.packet_rules.specs.Open.{OpenData, OpenPriority, open_data, open_priority}
use Rattle.std.specs.Prelude.{Some, None}
use Rattle.packet_rules.specs.declared.Due.{Due}
use Rattle.packet_rules.specs.declared.Due.TheVariants.{Channel, Opening, Closing, FirstCrc, SecondCrc, LmpType, LmpNumber, LmpCheck}
use Rattle.packet_rules.specs.declared.Phase.{Phase}
use Rattle.packet_rules.specs.declared.Phase.TheVariants.{Free, Next, Idles, Dropping}
use Rattle.packet_rules.specs.declared.Reader.{Reader}
use Rattle.packet_rules.specs.Answers.{Said, Answer, nothing, violated, ended}
use Rattle.packet_rules.specs.State.{no_priority, outside, has_byte, data_rule, priority_rule, due_rule, phase_rule, well_formed, fresh}
use Rattle.segment_size.specs.Sizes.{size_allowed}
use Rattle.packet_rules.specs.Violations.{is_full, conditions, violation_of}
use Rattle.packet_rules.specs.Step.{answer, user_byte, free_move, closes_own, due_move, byte_of, idles_after, move, broken, awakens, dropped, judged, kind_in, read_of, step_checks, refused_step, step_of}
use Rattle.packet_rules.proofs.Choice.{either, by_outcome}
use Rattle.packet_rules.proofs.Lowest.{NoneOf, lowest_none}

abbrev st : ℕ → OpenData → OpenPriority → Phase → Reader
st s d p w = record { size = s; packet = d; priority = p; phase = w }

abbrev pub Keeps : Answer → Type 0
Keeps a = well_formed a.reader ≡ true

module _ (s : ℕ) (ok : size_allowed s ≡ true) where
  keep : (d : OpenData) (p : OpenPriority) (w : Phase) → data_rule d ≡ true → priority_rule s p ≡ true → phase_rule d p w ≡ true
      → well_formed (st s d p w) ≡ true
  unfolding well_formed
  keep d p w a b c = simp (ok, a, b, c)

  started_data_lem : (b : ℕ) → data_rule (open_data b false crc_start) ≡ true
  started_data_lem b = eq-eqb crc_start crc_start refl

  started_priority_lem : (b : ℕ) → priority_rule s (open_priority b 0 crc_start) ≡ true
  started_priority_lem b = simp (le-leb 0 s (omega arith), eq-eqb crc_start crc_start refl)

  module _ (d : OpenData) (p : OpenPriority) (dr : data_rule d ≡ true) (pr : priority_rule s p ≡ true) where
    -- what closes the own packet, or all
    own : (said : Said) (w : Phase) → Keeps (closes_own said p (st s d p w))
    own said w = go p
      where
        go : (q : OpenPriority) → Keeps (closes_own said q (st s d p w))
        go None = keep None None Free refl refl refl
        go (Some inner) = keep d None Free dr refl refl

    break : (n : ℕ) (w : Phase) → Keeps (broken n (st s d p w))
    unfolding broken
    break n w =
        either Keeps (eqb n 7) _ _ (λ e. keep d p Free dr pr refl)
        (λ e. either Keeps (eqb n 6) _ _ (λ f. own (violated n) w) (λ f. keep None None Dropping refl refl refl))

    due : (x : Due) (b : ℕ) (w : Phase) → due_rule d p x ≡ true → Keeps (due_move x b (st s d p w))
    due Channel b w h = keep (open_data b false crc_start) p Free (started_data_lem b) pr refl
    due Opening b w h = keep d (open_priority b 0 crc_start) Free dr (started_priority_lem b) refl
    due (Closing bad) b w h = keep d p (Next (FirstCrc bad)) dr pr h
    due (FirstCrc bad) b w h = keep d p (Next (SecondCrc bad b)) dr pr h
    due (SecondCrc bad a) b w h = own (ended bad) w
    due LmpType b w h = keep d p (Next (LmpNumber b)) dr pr refl
    due (LmpNumber t) b w h = keep d p (Next (LmpCheck t b)) dr pr refl
    due (LmpCheck t n) b w h = keep d p Free dr pr refl

    idles : (n : ℕ) → phase_rule d p (Idles n) ≡ true → phase_rule d p (idles_after n) ≡ true
    idles n h =
        either (λ (w : Phase). phase_rule d p w ≡ true) (leb n 1) Free (Idles (n - 1)) (λ e. refl)
        (λ e. simp (lt-ltb 0 (n - 1) (omega (arith, leb-false n 1 e)), le-leb (n - 1) 3 (omega (arith, leb-true n 3 (second_true (ltb 0 n) (leb n 3) h)))))

  user : (d : OpenData) (p : OpenPriority) (b : ℕ) (w : Phase) → data_rule d ≡ true → priority_rule s p ≡ true → is_full s p ≡ false
      → Keeps (user_byte d p b (st s d p w))
  user d (Some inner) b w dr pr h =
      keep d (open_priority inner.opening (inner.count + 1) (crc_byte inner.register b)) Free dr
      (simp (le-leb (inner.count + 1) s (omega (arith, leb-false s inner.count h)), lt-ltb 0 (inner.count + 1) (omega arith))) refl
  user (Some outer) None b w dr pr h = keep (open_data outer.channel true (crc_byte outer.register b)) None Free refl refl refl
  user None None b w dr pr h = keep None None Free refl refl refl

  module _ (d : OpenData) (p : OpenPriority) (dr : data_rule d ≡ true) (pr : priority_rule s p ≡ true) where
    free : (k : Kind) → NoneOf (conditions (st s d p Free) k) → Keeps (free_move k (st s d p Free))
    free (Data b) h = user d p b Free dr pr h.1.1.1.1.1.1.1.0
    free Idl h = keep d p Free dr pr refl
    free Com h = keep d p (Idles 3) dr pr refl
    free (Opens Sdp) h = keep d p (Next Channel) dr pr (not-false (outside d p) h.1.0)
    free (Opens Spp) h = keep d p (Next Opening) dr pr (not-false (no_priority p) h.1.0)
    free (Opens Slp) h = keep d p (Next LmpType) dr pr refl
    free (Closes bad) h = keep d p (Next (Closing bad)) dr pr (not-false (has_byte d p) h.1.1.1.1.1.0)
    free NoPlace h = keep d p Free dr pr refl
    free Unsupported h = keep d p Free dr pr refl

    moves : (w : Phase) (k : Kind) → phase_rule d p w ≡ true → NoneOf (conditions (st s d p w) k) → Keeps (move w k (st s d p w))
    moves Free k wr h = free k h
    moves (Next x) k wr h = due d p dr pr x (byte_of k) (Next x) wr
    moves (Idles n) k wr h = keep d p (idles_after n) dr pr (idles d p dr pr n wr)
    moves Dropping k wr h = keep d p Dropping dr pr wr

    judges : (w : Phase) (g : Reading) (k : Kind) → phase_rule d p w ≡ true → Keeps (judged (violation_of (st s d p w) g k) k (st s d p w))
    unfolding violation_of
    judges w g k wr =
        let r = st s d p w in
        let bs = eqb g.violation 1 ∷ eqb g.violation 2 ∷ conditions r k in
        either Keeps (eqb (violation_of r g k) 0) _ _
        (λ e. moves w k wr (lowest_none 0 bs (eqb-true (violation_of r g k) 0 e)).1.1) (λ e. break d p dr pr (violation_of r g k) w)

    -- an opening symbol ends the dropping: nothing is open, so it may stand
    awake : (k : Kind) → outside d p ≡ true → phase_rule d p (awakens k) ≡ true
    awake (Data b) h = h
    awake Idl h = h
    awake Com h = h
    awake (Opens Sdp) h = h
    awake (Opens Spp) h = go p h
      where
        go : (q : OpenPriority) → outside d q ≡ true → no_priority q ≡ true
        go None e = refl
        go (Some inner) e = e
    awake (Opens Slp) h = refl
    awake (Closes bad) h = h
    awake NoPlace h = h
    awake Unsupported h = h

    drops : (g : Reading) (k : Kind) → outside d p ≡ true → Keeps (dropped g k (st s d p Dropping))
    unfolding dropped
    drops g k h =
        either (λ (w : Phase). Keeps (answer nothing d p w (st s d p Dropping))) (eqb g.violation 0) (awakens k) Dropping
        (λ e. keep d p (awakens k) dr pr (awake k h)) (λ e. keep d p Dropping dr pr h)

    reads : (w : Phase) (g : Reading) (k : Kind) → phase_rule d p w ≡ true → Keeps (read_of (st s d p w) g k)
    unfolding read_of
    reads Free g k wr = judges Free g k wr
    reads (Next x) g k wr = judges (Next x) g k wr
    reads (Idles n) g k wr = judges (Idles n) g k wr
    reads Dropping g k wr = drops g k wr

-- a refused step hands back the state that it was given, and any other is a step of the reader
pub kept : (r : Reader) (g : Reading) → well_formed r ≡ true → Keeps (step_of r g)
unfolding step_of well_formed
kept r g h =
    let s = size_allowed r.size in
    let d = data_rule r.packet in
    let p = priority_rule r.size r.priority in
    let w = phase_rule r.packet r.priority r.phase in
    let dpw = second_true s (d && (p && w)) h in
    let pw = second_true d (p && w) dpw in
    let k = kind_in g.symbol in
    by_outcome Keeps (step_checks r g) (refused_step r) (read_of r g k) (λ n. h)
    (reads r.size (first_true s (d && (p && w)) h) r.packet r.priority (first_true d (p && w) dpw) (first_true p w pw) r.phase g k
    (second_true p w pw))

pub fresh_kept : (s : ℕ) → size_allowed s ≡ true → well_formed (fresh s) ≡ true
fresh_kept s ok = keep s ok None None Free refl refl refl
