-- Each refusal in its order, then the move and the end.
use mathlib.Core.Path.{sym, ap, ◌∙◌}
use native.Mathlib.Omega.{arith}
use Rattle.capture.proofs.Taken.{taken_is_legal, taken_count, refused_illegal, refused_8}
use Rattle.capture_rules.specs.Panes.{move_says, stayed}
use Rattle.capture_rules.proofs.Answers.{handed_back}
use Rattle.capture_rules.proofs.Panes.{forward_illegal, forward_outside, forward_moves, forward_at_end}
use Rattle.pane_moves.proofs.forward_from.Goals as goal

pub returns-in_err-new : goal.returns-in_err-new
returns-in_err-new c = let e = c.in_err-new.ensures in
    ap (move_says c.args.place) (handed_back _ _ c.from_residual.ensures.1) ∙ ap (stayed c.args.place) (refused_8 _ _ e) ∙ sym (forward_illegal _ _ (refused_illegal _ _ e))

pub returns-then-count-place : goal.returns-then-count-place
returns-then-count-place c = let taken = c.in_ok-new.field-0 in let e = c.in_ok-new.ensures in
    let n = taken_count _ taken e in sym (forward_outside _ _ (taken_is_legal _ taken e) (omega arith))

pub returns-then-place-count : goal.returns-then-place-count
returns-then-place-count c = let taken = c.in_ok-new.field-0 in let e = c.in_ok-new.ensures in
    let n = taken_count _ taken e in sym (forward_moves _ _ (taken_is_legal _ taken e) (omega arith) (omega arith))

pub returns-else-place-count : goal.returns-else-place-count
returns-else-place-count c = let taken = c.in_ok-new.field-0 in let e = c.in_ok-new.ensures in
    let n = taken_count _ taken e in sym (forward_at_end _ _ (taken_is_legal _ taken e) (omega arith) (omega arith))
