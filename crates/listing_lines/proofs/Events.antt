-- An event's line: the words between its numbers, that it is short, and that it is put where there is room.
-- Assumes nothing.
use mathlib.Core.Path.{◌≡◌}
use mathlib.Core.Bool.{true, false}
use mathlib.Core.List.{List, [], ◌∷◌, ◌++◌}
use Prim.Native.Nat.{ℕ, ◌+◌, ◌≤◌}
use native.Mathlib.Omega.{arith}
use lib.ListN.{length, length-append}
use borrow.Author.Tests.{le-leb}
use Rattle.packet_rules.specs.declared.Event.{Event}
use Rattle.packet_rules.specs.declared.Event.TheVariants.{Nothing, StartData, StartPriority, Byte, End, Lmp, Violation as Violates}
use Rattle.packet_rules.specs.Answers.{event_says}
use Rattle.listing_rules.specs.Text.{decimal, space, line_feed, start_word, data_word, priority_word, violation_word, end_word, bad_word, good_word, lmp_word}
use Rattle.listing_rules.specs.Text.{ack_word, nack_word}
use Rattle.listing_rules.specs.Lines.{fields_of, event_line}
use Rattle.listing_text.specs.Writing.{worded_line, numbered_line, worded_room, numbered_room, index_after, output_after, Wrote}
use Rattle.listing_text.proofs.Decimal.{decimal_short}
use Rattle.listing_text.proofs.Written.{put_wrote}

-- ---- the words, with the spaces about them

abbrev pub start_data : List ℕ
start_data = space ∷ (start_word ++ (space ∷ (data_word ++ space ∷ [])))

abbrev pub start_priority : List ℕ
start_priority = space ∷ (start_word ++ (space ∷ (priority_word ++ space ∷ [])))

abbrev pub violation : List ℕ
violation = space ∷ (violation_word ++ space ∷ [])

abbrev pub end_bad : List ℕ
end_bad = space ∷ (end_word ++ (space ∷ (bad_word ++ line_feed ∷ [])))

abbrev pub end_good : List ℕ
end_good = space ∷ (end_word ++ (space ∷ (good_word ++ line_feed ∷ [])))

abbrev pub lmp_nack : List ℕ
lmp_nack = space ∷ (lmp_word ++ (space ∷ (nack_word ++ space ∷ [])))

abbrev pub lmp_ack : List ℕ
lmp_ack = space ∷ (lmp_word ++ (space ∷ (ack_word ++ space ∷ [])))

-- ---- at most 32 bytes

worded_short : (place : ℕ) (w : List ℕ) → length w ≤ 27 → length (worded_line place w) ≤ 32
worded_short place w h = let l = length-append (decimal place) w in let d = decimal_short place in omega arith

numbered_short : (place n : ℕ) (w : List ℕ) → length w ≤ 21 → length (numbered_line place w n) ≤ 32
numbered_short place n w h =
    let l = length-append w (decimal n ++ line_feed ∷ []) in
    let m = length-append (decimal n) (line_feed ∷ []) in
    let d = decimal_short n in
    worded_short place (w ++ (decimal n ++ line_feed ∷ [])) (omega arith)

pub event_short : (place : ℕ) (e : Event) → length (event_line place (fields_of (event_says e))) ≤ 32
event_short place Nothing = omega arith
event_short place (Byte b) = omega arith
event_short place (StartData c) = numbered_short place c start_data (omega arith)
event_short place (StartPriority c n) = numbered_short place c start_priority (omega arith)
event_short place (Violates n) = numbered_short place n violation (omega arith)
event_short place (End true) = worded_short place end_bad (omega arith)
event_short place (End false) = worded_short place end_good (omega arith)
event_short place (Lmp true n) = numbered_short place n lmp_nack (omega arith)
event_short place (Lmp false n) = numbered_short place n lmp_ack (omega arith)

-- ---- with 32 bytes of room it is put

module _ (place at : ℕ) (words old new : List ℕ) (after : ℕ) (h : at ≤ 2016) where
  pub worded_wrote : length words ≤ 27 → (after ≡ index_after (worded_room at words) at (worded_line place words))
      × (new ≡ output_after (worded_room at words) at (worded_line place words) old) → Wrote at (worded_line place words) old new after
  worded_wrote l = put_wrote (worded_room at words) at (worded_line place words) old new after (le-leb (at + (length words + 5)) 2048 (omega arith))

  pub numbered_wrote : (n : ℕ) → length words ≤ 21 → (after ≡ index_after (numbered_room at words) at (numbered_line place words n))
      × (new ≡ output_after (numbered_room at words) at (numbered_line place words n) old) → Wrote at (numbered_line place words n) old new after
  numbered_wrote n l = put_wrote (numbered_room at words) at (numbered_line place words n) old new after (le-leb (at + (length words + 11)) 2048 (omega arith))
