-- The pieces, one after another from a fresh listing, are exactly the listing, and they end.
-- Assumes nothing.
use mathlib.Core.Path.{◌≡◌, refl, sym, ap, ap₂, ◌∙◌, subst}
use mathlib.Core.Bool.{true, false, ◌&&◌}
use mathlib.Core.List.{List, [], ◌∷◌, ◌++◌, append_assoc, append-nil}
use Prim.Native.Nat.{ℕ, zero, suc, ◌+◌, ◌≤◌, ◌<◌}
use native.Mathlib.Nat.{add_assoc, add-zero}
use native.Mathlib.Omega.{arith}
use lib.Dec.{T, ltb, leb}
use lib.ListN.{length, take, drop, length-append, length-drop, take-append-drop}
use lib.Seq.{take-append_seam, drop-drop, drop-length}
use borrow.Author.Tests.{lt-ltb, le-ltb, le-leb, leb-true, ltb-true, ltb-false}
use Rattle.laws.specs.Lists.{all_of}
use Rattle.laws.proofs.Bools.{T_true, true_t}
use Rattle.laws.proofs.Cases.{by_test, both_true, first_true, second_true}
use Rattle.laws.proofs.Groups.{all_take, all_drop}
use Rattle.refusal.specs.Order.{refusal_of}
use Rattle.character_rules.specs.Disparity.{is_disparity}
use Rattle.character_rules.specs.Results.{run_closing, in_range, readings_of}
use Rattle.character_rules.proofs.RunLaws.{closing_run, readings_append, length_readings}
use Rattle.capture_rules.specs.Capture.{character_count, characters_of, legal}
use Rattle.capture_rules.proofs.Packing.{characters_length, characters_below}
use Rattle.packet_rules.specs.declared.Reader.{Reader}
use Rattle.packet_rules.specs.Answers.{Said as EventSaid}
use Rattle.segment_size.specs.Sizes.{size_allowed}
use Rattle.packet_rules.specs.State.{well_formed}
use Rattle.packet_rules.specs.Step.{step_of}
use Rattle.packet_rules.specs.Line.{said_of, after_of}
use Rattle.packet_rules.proofs.Kept.{kept, fresh_kept}
use Rattle.character_rules.specs.Answers.{Reading}
use Rattle.listing_rules.specs.declared.Reached.{Reached}
use Rattle.listing_rules.specs.declared.Listing.{Listing}
use Rattle.listing_rules.specs.declared.Listing.TheVariants.{Fresh, Going, Ended}
use Rattle.listing_rules.specs.Lines.{lines_from, events_in, header, end_line, refused_line, said_of_capture, listing_of}
use Rattle.listing_rules.specs.Pieces.{wrote, keeps_rule, start, next_characters, said_of_run, after_run, is_going, piece_of, listing_after, next_checks, done_says, next_says, next_leaves}
use Rattle.listing_rules.specs.Demand.{Lister, HandsOut, all, piece, Lists}
use Rattle.listing_rules.proofs.Runs.{said_append, lines_append, events_append, length_said, events_few}

-- ---- the rule is kept

pub after_kept : (r : Reader) (gs : List Reading) → well_formed r ≡ true → well_formed (after_of r gs) ≡ true
unfolding after_of
after_kept r [] h = h
after_kept r (g ∷ gs) h = after_kept (step_of r g).reader gs (kept r g h)

module _ (cs : List ℕ) (p : Reached) where
  pub length_said_of_run : length (said_of_run cs p) ≡ length cs
  length_said_of_run = length_said p.reader (readings_of cs p.disparity) ∙ length_readings cs p.disparity

  -- what the rule says, part by part
  module _ (k : keeps_rule p ≡ true) where
    pub rule_events : p.events ≤ p.place
    unfolding keeps_rule
    rule_events = leb-true p.events p.place (first_true _ _ k)

    pub rule_disparity : is_disparity p.disparity ≡ true
    unfolding keeps_rule
    rule_disparity = first_true _ _ (second_true (leb p.events p.place) _ k)

    pub rule_reader : well_formed p.reader ≡ true
    unfolding keeps_rule
    rule_reader = second_true (is_disparity p.disparity) _ (second_true (leb p.events p.place) _ k)

  pub run_kept : T (all_of in_range cs) → keeps_rule p ≡ true → keeps_rule (after_run cs p) ≡ true
  unfolding keeps_rule
  run_kept a k =
      let n = length_said_of_run in
      let few = events_few (said_of_run cs p) in
      let ev = rule_events k in
      let d = run_closing cs p.disparity in
      let r = after_of p.reader (readings_of cs p.disparity) in
      both_true (leb (p.events + events_in (said_of_run cs p)) (p.place + length cs)) (is_disparity d && well_formed r)
      (le-leb (p.events + events_in (said_of_run cs p)) (p.place + length cs) (omega arith))
      (both_true (is_disparity d) (well_formed r) (T_true (is_disparity d) (closing_run cs p.disparity a (true_t (is_disparity p.disparity) (rule_disparity k))))
      (after_kept p.reader (readings_of cs p.disparity) (rule_reader k)))

pub start_kept : keeps_rule start ≡ true
unfolding keeps_rule size_allowed
start_kept = both_true _ _ refl (both_true _ _ refl (fresh_kept 8 refl))

-- ---- what is left to list from a place on

abbrev rest_of : List ℕ → Reached → List ℕ
rest_of cs p = lines_from p.place (said_of_run cs p) ++ end_line (p.place + length cs) (p.events + events_in (said_of_run cs p))

module _ (cs ds : List ℕ) (p : Reached) where
  said_both : said_of_run (cs ++ ds) p ≡ said_of_run cs p ++ said_of_run ds (after_run cs p)
  said_both =
      ap (said_of p.reader) (readings_append cs ds p.disparity)
      ∙ said_append p.reader (readings_of cs p.disparity) (readings_of ds (run_closing cs p.disparity))

  -- a run in two parts: the lines of the first, and what is left after it
  rest_both : rest_of (cs ++ ds) p ≡ lines_from p.place (said_of_run cs p) ++ rest_of ds (after_run cs p)
  rest_both =
      let es = said_of_run cs p in
      let fs = said_of_run ds (after_run cs p) in
      let n = length_said_of_run cs p in
      let size : p.place + length (cs ++ ds) ≡ p.place + length cs + length ds = ap (λ (k : ℕ). p.place + k) (length-append cs ds)
      ∙ sym (add_assoc p.place (length cs) (length ds)) in
      let count : p.events + events_in (es ++ fs) ≡ p.events + events_in es + events_in fs = ap (λ (k : ℕ). p.events + k) (events_append es fs)
      ∙ sym (add_assoc p.events (events_in es) (events_in fs)) in
      ap₂ (λ (l : List EventSaid) (k : ℕ). lines_from p.place l ++ end_line k (p.events + events_in l)) said_both size
      ∙ ap₂ (λ (l : List ℕ) (k : ℕ). l ++ end_line (p.place + length cs + length ds) k)
      (lines_append p.place es fs ∙ ap (λ (k : ℕ). lines_from p.place es ++ lines_from (p.place + k) fs) n) count
      ∙ append_assoc (lines_from p.place es) (lines_from (p.place + length cs) fs) (end_line (p.place + length cs + length ds) (p.events + events_in es + events_in fs))

rest_end : (p : Reached) → rest_of [] p ≡ end_line p.place p.events
unfolding lines_from events_in said_of
rest_end p = ap₂ end_line (add-zero p.place) (add-zero p.events)

-- ---- our lister

abbrev pub ours : Lister
ours = record { answers = next_says; leaves = next_leaves }

-- a call that is not refused
module _ (capture : List ℕ) (l : Listing) (free : refusal_of (next_checks capture l) ≡ 0) where
  pub not_refused : next_says capture l ≡ done_says capture l
  unfolding next_says
  not_refused = rw free

  pub leaves_piece : (old : List ℕ) → next_leaves capture l old ≡ piece_of capture l ++ drop (length (piece_of capture l)) old
  unfolding next_leaves
  leaves_piece old = rw free

  front : (old : List ℕ) → take (length (piece_of capture l)) (next_leaves capture l old) ≡ piece_of capture l
  front old = ap (take (length (piece_of capture l))) (leaves_piece old) ∙ take-append_seam (piece_of capture l) (drop (length (piece_of capture l)) old)

-- a listing that goes on in its own capture is not refused
module _ (capture : List ℕ) (p : Reached) (ok : legal capture ≡ true) (k : keeps_rule p ≡ true) (h : p.place ≤ character_count (length capture)) where
  pub going_free : refusal_of (next_checks capture (Going p)) ≡ 0
  unfolding next_checks
  going_free = simp (ok, k, le-leb p.place (character_count (length capture)) h)

ended : (capture : List ℕ) → HandsOut ours capture Ended []
unfolding next_checks
ended capture = all Ended Ended (not_refused capture Ended refl)

-- ---- the first n of a list

drop_taken : {A : Type 0} (n : ℕ) (xs : List A) → drop n xs ≡ drop (length (take n xs)) xs
drop_taken zero xs = refl
drop_taken (suc n) [] = refl
drop_taken (suc n) (x ∷ xs) = drop_taken n xs

taken_few : {A : Type 0} (n : ℕ) (xs : List A) → length (take n xs) ≤ length xs
taken_few zero xs = omega arith
taken_few (suc n) [] = omega arith
taken_few (suc n) (x ∷ xs) = let h = taken_few n xs in omega arith

taken_one : {A : Type 0} (n : ℕ) (xs : List A) → 0 < length xs → 1 ≤ length (take (suc n) xs)
taken_one n [] h = absurd (omega arith)
taken_one n (x ∷ xs) h = omega arith

module _ (capture : List ℕ) (ok : legal capture ≡ true) where
  pub nexts_range : (place : ℕ) → T (all_of in_range (next_characters capture place))
  nexts_range place = all_take in_range 64 (drop place (characters_of capture)) (all_drop in_range place (characters_of capture) (characters_below capture))

  -- the last line
  from_end : (p : Reached) → keeps_rule p ≡ true → p.place ≡ character_count (length capture)
      → HandsOut ours capture (Going p) (rest_of (drop p.place (characters_of capture)) p)
  unfolding piece_of listing_after
  from_end p k e =
      let free = going_free capture p ok k (omega arith) in
      let out : is_going capture p ≡ false = le-ltb p.place (character_count (length capture)) (omega arith) in
      let bytes : piece_of capture (Going p) ≡ end_line p.place p.events = rw out in
      let after : listing_after capture (Going p) ≡ Ended = rw out in
      let none : drop p.place (characters_of capture) ≡ [] = ap (λ (n : ℕ). drop n (characters_of capture)) (e ∙ sym (characters_length capture))
      ∙ drop-length (characters_of capture) in
      subst (HandsOut ours capture (Going p))
      (ap (λ (l : List ℕ). l ++ []) bytes ∙ append-nil (end_line p.place p.events) ∙ sym (ap (λ (l : List ℕ). rest_of l p) none ∙ rest_end p))
      (piece (Going p) Ended (piece_of capture (Going p)) (not_refused capture (Going p) free ∙ ap (wrote (length (piece_of capture (Going p)))) after)
      (λ old h. front capture (Going p) free old) (ended capture))

  -- the next characters, and what is left after them
  from_place : (p : Reached) → keeps_rule p ≡ true → p.place < character_count (length capture)
      → HandsOut ours capture (Going (after_run (next_characters capture p.place) p)) (rest_of
      (drop (p.place + length (next_characters capture p.place)) (characters_of capture)) (after_run (next_characters capture p.place) p))
      → HandsOut ours capture (Going p) (rest_of (drop p.place (characters_of capture)) p)
  unfolding piece_of listing_after
  from_place p k h later =
      let free = going_free capture p ok k (omega arith) in
      let cs = next_characters capture p.place in
      let all_left = drop p.place (characters_of capture) in
      let on : is_going capture p ≡ true = lt-ltb p.place (character_count (length capture)) h in
      let bytes : piece_of capture (Going p) ≡ lines_from p.place (said_of_run cs p) = rw on in
      let after : listing_after capture (Going p) ≡ Going (after_run cs p) = rw on in
      let rest : drop 64 all_left ≡ drop (p.place + length cs) (characters_of capture) = drop_taken 64 all_left
      ∙ drop-drop (length cs) p.place (characters_of capture) in
      subst (HandsOut ours capture (Going p))
      (ap (λ (x : List ℕ). x ++ rest_of (drop (p.place + length cs) (characters_of capture)) (after_run cs p)) bytes
      ∙ ap (λ (x : List ℕ). lines_from p.place (said_of_run cs p) ++ rest_of x (after_run cs p)) (sym rest)
      ∙ sym (ap (λ (x : List ℕ). rest_of x p) (sym (take-append-drop 64 all_left)) ∙ rest_both cs (drop 64 all_left) p))
      (piece (Going p) (Going (after_run cs p)) (piece_of capture (Going p))
      (not_refused capture (Going p) free ∙ ap (wrote (length (piece_of capture (Going p)))) after)
      (λ old g. front capture (Going p) free old) later)

  from : (fuel : ℕ) (p : Reached) → keeps_rule p ≡ true → p.place ≤ character_count (length capture) → character_count (length capture) < p.place + fuel
      → HandsOut ours capture (Going p) (rest_of (drop p.place (characters_of capture)) p)
  from zero p k h f = absurd (omega arith)
  from (suc fuel) p k h f =
      by_test (ltb p.place (character_count (length capture)))
      (λ t. let g = ltb-true p.place (character_count (length capture)) t in
      let cs = next_characters capture p.place in
      let l = characters_length capture in
      let d = length-drop p.place (characters_of capture) in
      let n = taken_few 64 (drop p.place (characters_of capture)) in
      let m : 1 ≤ length cs = taken_one 63 (drop p.place (characters_of capture)) (omega arith) in
      from_place p k g (from fuel (after_run cs p) (run_kept cs p (nexts_range p.place) k) (omega arith) (omega arith)))
      (λ t. let g = ltb-false p.place (character_count (length capture)) t in from_end p k (omega arith))

-- ---- from a fresh listing

-- a refused capture: the one line
fresh_refused : (capture : List ℕ) → legal capture ≡ false → HandsOut ours capture Fresh (listing_of capture)
unfolding piece_of listing_after next_checks listing_of
fresh_refused capture out =
    let bytes : piece_of capture Fresh ≡ refused_line = rw out in
    let after : listing_after capture Fresh ≡ Ended = rw out in
    let whole : listing_of capture ≡ refused_line = rw out in
    subst (HandsOut ours capture Fresh) (append-nil (piece_of capture Fresh) ∙ bytes ∙ sym whole)
    (piece Fresh Ended (piece_of capture Fresh) (not_refused capture Fresh refl ∙ ap (wrote (length (piece_of capture Fresh))) after)
    (λ old h. front capture Fresh refl old) (ended capture))

-- a legal one: the header, and the rest from place 0
fresh_legal : (capture : List ℕ) → legal capture ≡ true → HandsOut ours capture Fresh (listing_of capture)
unfolding piece_of listing_after next_checks listing_of
fresh_legal capture ok =
    let bytes : piece_of capture Fresh ≡ header = rw ok in
    let after : listing_after capture Fresh ≡ Going start = rw ok in
    let es = said_of_capture capture in
    let n : length (characters_of capture) ≡ 0 + length (characters_of capture) = omega arith in
    let m : events_in es ≡ 0 + events_in es = omega arith in
    let whole : listing_of capture ≡ header ++ rest_of (characters_of capture) start = rw ok (ap₂ (λ (x y : ℕ). header ++ (lines_from 0 es ++ end_line x y)) n m) in
    subst (HandsOut ours capture Fresh) (ap (λ (x : List ℕ). x ++ rest_of (characters_of capture) start) bytes ∙ sym whole)
    (piece Fresh (Going start) (piece_of capture Fresh) (not_refused capture Fresh refl ∙ ap (wrote (length (piece_of capture Fresh))) after)
    (λ old h. front capture Fresh refl old)
    (from capture ok (suc (character_count (length capture))) start start_kept (omega arith) (omega arith)))

-- THE THEOREM
pub ours_lists : Lists ours
ours_lists = record { whole = from_fresh }
  where
    from_fresh : (capture : List ℕ) → HandsOut ours capture Fresh (listing_of capture)
    from_fresh capture = by_test (legal capture) (fresh_legal capture) (fresh_refused capture)
