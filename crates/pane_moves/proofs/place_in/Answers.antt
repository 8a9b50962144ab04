-- Each refusal in its order, and the place.
use mathlib.Core.Path.{sym, ◌∙◌}
use native.Mathlib.Omega.{arith}
use Rattle.capture.proofs.Taken.{taken_is_legal, taken_count, refused_illegal, says_8}
use Rattle.capture_rules.proofs.Panes.{place_illegal, place_outside, place_inside}
use Rattle.pane_moves.proofs.place_in.Goals as goal

pub returns-in_err-new : goal.returns-in_err-new
returns-in_err-new c = let e = c.in_err-new.ensures in
    says_8 _ _ e _ c.from_residual.ensures.1 ∙ sym (place_illegal _ _ (refused_illegal _ _ e))

pub returns-then-place-count : goal.returns-then-place-count
returns-then-place-count c = let taken = c.in_ok-new.field-0 in let e = c.in_ok-new.ensures in
    let n = taken_count _ taken e in sym (place_inside _ _ (taken_is_legal _ taken e) (omega arith))

pub returns-else-place-count : goal.returns-else-place-count
returns-else-place-count c = let taken = c.in_ok-new.field-0 in let e = c.in_ok-new.ensures in
    let n = taken_count _ taken e in sym (place_outside _ _ (taken_is_legal _ taken e) (omega arith))
