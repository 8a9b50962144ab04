-- A whole capture read: its characters one after another, each at the disparity that the one before it gave, and each result given to the packet reader.
use Rattle.std.specs.Prelude.{ℕ, not, List, [], ◌∷◌, ◌++◌, map, ltb, ℤ, length, drop}
use Rattle.refusal.specs.Order.{Check, check, outcome, left}
use Rattle.character_rules.specs.Disparity.{is_disparity}
use Rattle.character_rules.specs.Results.{readings_of, run_closing}
use Rattle.capture_rules.specs.Capture.{character_count, characters_of}
use Rattle.capture_rules.specs.Calls.{readable}
use Rattle.packet_rules.specs.declared.Reader.{Reader}
use Rattle.packet_rules.specs.State.{well_formed}
use Rattle.packet_rules.specs.Line.{said_of, after_of}
use Rattle.events_rules.specs.Answers.{CaptureRead}
use Rattle.events_rules.specs.Numbers.{packed_event}

-- what a reader says of characters, an event for each, and its state after them
unfoldable pub events_of : List ℕ → ℤ → Reader → List ℕ
events_of cs d r = map packed_event (said_of r (readings_of cs d))

unfoldable pub reader_after : List ℕ → ℤ → Reader → Reader
reader_after cs d r = after_of r (readings_of cs d)

-- 8: no legal capture; 1: a state that breaks its rule, no disparity; 6: fewer places than characters
abbrev pub capture_checks : List ℕ → Reader → ℤ → ℕ → List Check
capture_checks capture r d room =
    readable capture
    ∷ check 1 (not (well_formed r))
    ∷ check 1 (not (is_disparity d))
    ∷ check 6 (ltb room (character_count (length capture)))
    ∷ []

abbrev pub not_read_capture : Reader → ℤ → ℕ → CaptureRead
not_read_capture r d n = record { refusal = n; count = 0; disparity = d; reader = r }

-- THE ANSWER, for an output with so many places
unfoldable pub capture_read : List ℕ → Reader → ℤ → ℕ → CaptureRead
capture_read capture r d room =
    outcome (capture_checks capture r d room) (not_read_capture r d)
    record {
      refusal = 0;
      count = character_count (length capture);
      disparity = run_closing (characters_of capture) d;
      reader = reader_after (characters_of capture) d r;
    }

-- what the output holds afterwards
unfoldable pub events_left : List ℕ → Reader → ℤ → List ℕ → List ℕ
events_left capture r d old =
    left (capture_checks capture r d (length old)) old (events_of (characters_of capture) d r ++ drop (character_count (length capture)) old)
