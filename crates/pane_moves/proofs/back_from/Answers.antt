-- The refusals of the place, then the move and the start.
use Rattle.std.specs.Prelude.{ℕ, ◌≡◌, ◌≤◌, ◌-◌, List, Option, Some, None, Ok, SomeIff}
use mathlib.Core.Path.{sym, ap, ◌∙◌}
use native.Mathlib.Omega.{arith}
use Rattle.capture_rules.specs.Calls.{answered}
use Rattle.capture_rules.specs.Panes.{place_says, back_from, move_says, moved_to}
use Rattle.capture_rules.proofs.Answers.{handed_back}
use Rattle.capture_rules.proofs.Panes.{back_refused, place_answered, back_moves, back_at_start}
use Rattle.pane_moves.proofs.back_from.Goals as goal

pub returns-in_err-place_in : goal.returns-in_err-place_in
returns-in_err-place_in c = ap (move_says c.args.place) (handed_back _ _ c.from_residual.ensures.1) ∙ sym (back_refused _ _ _ c.in_err-place_in.ensures)

-- the place before, if there is one, is where a move back leads
leads : (capture : List ℕ) (place p : ℕ) (o : Option ℕ) → answered p ≡ place_says capture place → SomeIff o (1 ≤ p) (p - 1) → move_says place (Ok o) ≡ back_from capture place
leads capture place p (Some q) e h =
    let a = place_answered capture place p e in
    let same = a.2 in
    let above = h.0 in
    let less : q ≡ place - 1 = omega (arith, same, h) in
    ap moved_to less ∙ sym (back_moves capture place a.0 a.1 (omega (arith, same, above)))
leads capture place p None e h =
    let a = place_answered capture place p e in
    let same = a.2 in
    sym (back_at_start capture place a.0 a.1 (omega (arith, same, h)))

pub returns : goal.returns
returns c = leads _ _ _ _ c.in_ok-place_in.ensures c.checked_sub.ensures
