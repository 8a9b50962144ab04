-- A block of characters that was taken, read and listed is the next piece.
-- Assumes nothing.
use mathlib.Core.Path.{◌≡◌, refl, sym, ap, ap₂, ◌∙◌, subst}
use mathlib.Core.Bool.{true, false}
use mathlib.Core.List.{List, [], ◌∷◌, ◌++◌, map}
use mathlib.Core.Option.{Option, none, some}
use Prim.Native.Nat.{ℕ, zero, suc, ◌+◌, ◌-◌, ◌≤◌, ◌<◌}
use native.Mathlib.Omega.{arith}
use lib.Dec.{T, ltb, ltb→lt}
use lib.IntN.{ℤ}
use lib.ListN.{length, take, drop, length-drop}
use lib.Seq.{take_at, take_all, length-take-le}
use borrow.Author.Tests.{lt-ltb, le-ltb, le-leb, ltb-true, ltb-false}
use Rattle.laws.specs.Lists.{all_of}
use Rattle.laws.proofs.Bools.{and_left, and_right, T_true, true_t}
use Rattle.laws.proofs.Cases.{by_cases}
use Rattle.character_rules.specs.Disparity.{is_disparity}
use Rattle.std.specs.Prelude.{Result, Ok, Err}
use Rattle.std.specs.Result.{IsOk}
use Rattle.refusal.specs.declared.Refusal.{Refusal}
use Rattle.character_rules.specs.Answers.{Reading, RunReading, run_read, run_says}
use Rattle.character_rules.specs.Results.{unpacked, after_one, in_range, run_results, run_closing, run_reading, run_output, readings_of}
use Rattle.character_rules.proofs.Packed.{unpacked_reading, after_disparity}
use Rattle.character_rules.proofs.RunLaws.{run_done}
use Rattle.capture_rules.specs.Capture.{character_count, characters_of, legal}
use Rattle.capture_rules.proofs.Packing.{characters_length}
use Rattle.packet_rules.specs.Line.{said_of, after_of}
use Rattle.listing_rules.specs.declared.Reached.{Reached}
use Rattle.listing_rules.specs.declared.Listing.{Listing}
use Rattle.listing_rules.specs.declared.Listing.TheVariants.{Going, Ended}
use Rattle.listing_rules.specs.declared.Piece.{Piece}
use Rattle.listing_rules.specs.Lines.{lines_from, events_in, end_line}
use Rattle.listing_rules.specs.Pieces.{keeps_rule, next_characters, said_of_run, after_run, is_going, piece_of, listing_after}
use Rattle.listing_rules.proofs.Whole.{rule_disparity, nexts_range}
use Rattle.listing_lines.specs.declared.Progress.{Progress}
use Rattle.listing_text.specs.Writing.{Wrote}
use Rattle.listing_lines.specs.Results.{takes, Listed}
use Rattle.listing_pieces.specs.Blocks.{block_length}
use Rattle.listing_rules.specs.Pieces.{Puts}
use Rattle.listing_text.proofs.Written.{wrote_whole}

abbrev piece : ℕ → Listing → Piece
piece n l = record { length = n; listing = l }

-- ---- as many as are left, at most 64

pub block_low : (n : ℕ) → block_length n ≤ 64
block_low n = by_cases (λ (k : ℕ). k ≤ 64) (ltb n 64) (λ t. let h = ltb-true n 64 t in omega arith) (λ t. omega arith)

pub block_fits : (n : ℕ) → block_length n ≤ n
block_fits n = by_cases (λ (k : ℕ). k ≤ n) (ltb n 64) (λ t. omega arith) (λ t. let h = ltb-false n 64 t in omega arith)

block_taken : {A : Type 0} (xs : List A) → take (block_length (length xs)) xs ≡ take 64 xs
block_taken xs =
    by_cases (λ (k : ℕ). take k xs ≡ take 64 xs) (ltb (length xs) 64)
    (λ t. let h = ltb-true (length xs) 64 t in take_all (length xs) xs (omega arith) ∙ sym (take_all 64 xs (omega arith)))
    (λ t. refl)

pub taken_low : {A : Type 0} (n : ℕ) (xs : List A) (k : ℕ) → n ≤ k → length (take n xs) ≤ k
taken_low zero xs k h = omega arith
taken_low (suc n) [] k h = omega arith
taken_low (suc n) (x ∷ xs) zero h = absurd (omega arith)
taken_low (suc n) (x ∷ xs) (suc k) h = let g = taken_low n xs k (omega arith) in omega arith

-- ---- packed results, taken apart, are the readings

unpacked_run : (cs : List ℕ) (d : ℤ) → T (all_of in_range cs) → T (is_disparity d) → map unpacked (run_results cs d) ≡ readings_of cs d
unpacked_run [] d a t = refl
unpacked_run (c ∷ cs) d a t =
    let h = ltb→lt c 1024 (and_left (in_range c) (all_of in_range cs) a) in
    ap₂ (λ (r : Reading) (l : List Reading). r ∷ l) (unpacked_reading c d (omega arith) t)
    (unpacked_run cs (after_one c d) (and_right (in_range c) (all_of in_range cs) a) (after_disparity c d (omega arith) t))

length_run : (cs : List ℕ) (d : ℤ) → length (run_results cs d) ≡ length cs
length_run [] d = refl
length_run (c ∷ cs) d = ap suc (length_run cs (after_one c d))

-- ---- the block

ok_or : (r : Result ℤ Refusal) → ((m : Refusal) → r ≡ Err m → ⊥) → IsOk r
ok_or (Ok d) f = refl
ok_or (Err m) f = absurd (f m refl)

abbrev is_some : Option ℤ → ℕ
is_some none = 0
is_some (some d) = 1

abbrev the_one : ℤ → Option ℤ → ℤ
the_one d none = d
the_one d (some e) = e

module _ (capture : List ℕ) (p : Reached) (ok : legal capture ≡ true) (k : keeps_rule p ≡ true) (h : p.place < character_count (length capture))
    (n : ℕ) (en : n ≡ block_length (character_count (length capture) - p.place)) where
  abbrev cs : List ℕ
  cs = next_characters capture p.place

  abbrev left : List ℕ
  left = drop p.place (characters_of capture)

  size_left : length left ≡ character_count (length capture) - p.place
  size_left = length-drop p.place (characters_of capture) ∙ ap (λ (m : ℕ). m - p.place) (characters_length capture)

  taken : take n left ≡ cs
  taken = ap (λ (m : ℕ). take m left) (en ∙ ap block_length (sym size_left)) ∙ block_taken left

  few : n ≤ character_count (length capture) - p.place
  few = let f = block_fits (character_count (length capture) - p.place) in omega arith

  size : length cs ≡ n
  size = ap length (sym taken) ∙ length-take-le n left (let s = size_left in let f = few in omega arith)

  ranged : all_of in_range cs ≡ true
  ranged = T_true (all_of in_range cs) (nexts_range capture ok p.place)

  signed : is_disparity p.disparity ≡ true
  signed = rule_disparity cs p k

  -- the characters, at the front of an array
  pub held : (zeros part rest : List ℕ) → 64 ≤ length zeros → part ≡ take (length (take n zeros)) left → take n (part ++ rest) ≡ take n left
  held zeros part rest room e =
      let low = block_low (character_count (length capture) - p.place) in
      let long : length (take n zeros) ≡ n = length-take-le n zeros (omega arith) in
      let same : part ≡ take n left = e ∙ ap (λ (m : ℕ). take m left) long in
      take_at part rest n (ap length (same ∙ taken) ∙ size) ∙ same

  -- the characters and their results, as the code holds them
  module _ (characters zeros out : List ℕ) (d : ℤ) (r : Result ℤ Refusal) (room : 64 ≤ length zeros)
      (hold : characters ≡ take n left) (ed : d ≡ p.disparity) (said : run_says r ≡ run_reading characters d (length zeros))
      (output : out ≡ run_output characters d zeros) where
    ours : characters ≡ cs
    ours = hold ∙ taken

    fits : length cs ≤ length zeros
    fits = let s = size in let f = block_low (character_count (length capture) - p.place) in omega arith

    done : (run_says r ≡ run_read (run_closing cs p.disparity)) × (out ≡ run_results cs p.disparity ++ drop (length cs) zeros)
    done =
        let f = run_done cs p.disparity zeros signed ranged fits in (
          said ∙ ap₂ (λ (l : List ℕ) (z : ℤ). run_reading l z (length zeros)) ours ed ∙ sym f.0,
          output ∙ ap₂ (λ (l : List ℕ) (z : ℤ). run_output l z zeros) ours ed ∙ sym f.1,
        )

    -- it is not refused
    never_refused : (m : Refusal) → r ≡ Err m → ⊥
    never_refused m f =
        let z : is_some none ≡ is_some (some (run_closing cs p.disparity)) = ap (λ (x : RunReading). is_some x.disparity)
        (sym (ap run_says f) ∙ done.0) in
        omega arith

    pub is_read : IsOk r
    is_read = ok_or r never_refused

    module _ (e again : ℤ) (is : r ≡ Ok e) (ea : again ≡ e) (old new : List ℕ) (q : Progress)
        (l : Listed p.place (take n out) (record { at = 0; events = p.events; reader = p.reader }) old new q) where
      closes : again ≡ run_closing cs p.disparity
      closes = ea ∙ ap (λ (x : RunReading). the_one e x.disparity) (sym (ap run_says is) ∙ done.0)

      readings : map unpacked (take n out) ≡ readings_of cs p.disparity
      readings =
          ap (map unpacked)
          (ap (take n) done.1 ∙ take_at (run_results cs p.disparity) (drop (length cs) zeros) n (length_run cs p.disparity ∙ size))
          ∙ unpacked_run cs p.disparity (true_t (all_of in_range cs) ranged) (true_t (is_disparity p.disparity) signed)

      lines : lines_from p.place (said_of p.reader (map unpacked (take n out))) ≡ piece_of capture (Going p)
      unfolding piece_of
      lines = ap (λ (gs : List Reading). lines_from p.place (said_of p.reader gs)) readings
          ∙ sym (rw (lt-ltb p.place (character_count (length capture)) h))

      after : listing_after capture (Going p) ≡ Going (after_run cs p)
      unfolding listing_after
      after = rw (lt-ltb p.place (character_count (length capture)) h)

      whole : (q.at ≡ length (piece_of capture (Going p))) × (new ≡ piece_of capture (Going p) ++ drop (length (piece_of capture (Going p))) old)
      whole = wrote_whole (subst (λ (t : List ℕ). Wrote 0 t old new q.at) lines l.text)

      reached : record { place = p.place + n; events = q.events; disparity = again; reader = q.reader } ≡ after_run cs p
      reached =
          let a : p.place + n ≡ p.place + length cs = ap (λ (m : ℕ). p.place + m) (sym size) in
          let b : q.events ≡ p.events + events_in (said_of_run cs p) = l.events
          ∙ ap (λ (gs : List Reading). p.events + events_in (said_of p.reader gs)) readings in
          let c : q.reader ≡ after_of p.reader (readings_of cs p.disparity) = l.reader ∙ ap (after_of p.reader) readings in
          λ i. record { place = a i; events = b i; disparity = closes i; reader = c i }

      pub block_is : Puts capture (Going p) old
          (record { length = q.at; listing = Going (record { place = p.place + n; events = q.events; disparity = again; reader = q.reader }) }) new
      block_is = record { says = ap₂ piece whole.0 (ap Going reached ∙ sym after); whole = whole.1 }

-- ---- the results are a block

pub block_takes : (results : List ℕ) (p : Reached) → length results ≤ 64 → p.place ≤ 52428 → p.events ≤ 52428 → takes results p ≡ true
block_takes results p a b c = simp (le-leb (length results) 64 a, le-leb p.place 52428 b, le-leb p.events 52428 c)

-- ---- the last line

pub end_is : (capture : List ℕ) (p : Reached) (n : ℕ) (old new : List ℕ) → character_count (length capture) ≤ p.place
    → n ≡ length (end_line p.place p.events) → new ≡ end_line p.place p.events ++ drop (length (end_line p.place p.events)) old
    → Puts capture (Going p) old (record { length = n; listing = Ended }) new
unfolding piece_of listing_after
end_is capture p n old new h a b =
    let out : is_going capture p ≡ false = le-ltb p.place (character_count (length capture)) h in
    let bytes : end_line p.place p.events ≡ piece_of capture (Going p) = sym (rw out) in
    let after : Ended ≡ listing_after capture (Going p) = sym (rw out) in
    record { says = ap₂ piece (a ∙ ap length bytes) after; whole = b ∙ ap (λ (t : List ℕ). t ++ drop (length t) old) bytes }
