-- Document 01, "Captures": the service pane holds the capture and a place in it and moves by one character. Places run from 0 to the
-- number of characters. A move past either end leaves the place as it was and says so.
use Rattle.std.specs.Prelude.{ℕ, ◌+◌, ◌-◌, Bool, true, false, not, cond, List, [], ◌∷◌, ltb, leb, length, Option, Some, None, Result, Ok, Err}
use Rattle.refusal.specs.declared.Refusal.{Refusal}
use Rattle.refusal.specs.Order.{Check, check, number_of, outcome}
use Rattle.capture_rules.specs.Capture.{character_count}
use Rattle.capture_rules.specs.Calls.{Said, answered, refused, readable}

-- the pane's rule
abbrev pub is_place : List ℕ → ℕ → Bool
is_place capture place = leb place (character_count (length capture))

-- 8: the capture is not legal; 1: the pane breaks its rule
unfoldable pub pane_checks : List ℕ → ℕ → List Check
pane_checks capture place = readable capture ∷ check 1 (not (is_place capture place)) ∷ []

-- the place where the pane stands
unfoldable pub place_says : List ℕ → ℕ → Said
place_says capture place = outcome (pane_checks capture place) refused (answered place)

-- what a move of the pane comes to: its place afterwards, whether it moved, and the refusal's number (0: not refused)
pub record Move : Type 0 where
  pub place : ℕ
  pub moved : Bool
  pub refusal : ℕ

abbrev pub moved_to : ℕ → Move
moved_to place = record { place = place; moved = true; refusal = 0 }

-- the place as it was
abbrev pub stayed : ℕ → ℕ → Move
stayed place refusal = record { place = place; moved = false; refusal = refusal }

-- what a move from a place answers: the place that it leads to, if it moves
abbrev pub move_says : ℕ → Result (Option ℕ) Refusal → Move
move_says place (Ok (Some next)) = moved_to next
move_says place (Ok None) = stayed place 0
move_says place (Err r) = stayed place (number_of r)

-- what a pane that stands at a place afterwards answers: whether it moved
abbrev pub moved_says : ℕ → Result Bool Refusal → Move
moved_says place (Ok moved) = record { place = place; moved = moved; refusal = 0 }
moved_says place (Err r) = stayed place (number_of r)

-- one character forward, and one back
unfoldable pub forward_from : List ℕ → ℕ → Move
forward_from capture place = outcome (pane_checks capture place) (stayed place) (cond (ltb place (character_count (length capture))) (moved_to (place + 1)) (stayed place 0))

unfoldable pub back_from : List ℕ → ℕ → Move
back_from capture place = outcome (pane_checks capture place) (stayed place) (cond (ltb 0 place) (moved_to (place - 1)) (stayed place 0))
