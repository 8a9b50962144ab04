-- Each refusal in its order, and the character.
use Rattle.std.specs.Prelude.{ℕ, ◌<◌, ◌≤◌}
use mathlib.Core.Path.{sym, ap, subst, ◌∙◌}
use Rattle.capture_rules.specs.Calls.{answered}
use Rattle.capture_rules.proofs.Laws.{character_illegal, character_nowhere, character_found}
use Rattle.capture.proofs.Taken.{taken_is_legal, taken_count, refused_illegal, says_8}
use Rattle.capture.proofs.character_at.Goals as goal

pub returns-in_err-new : goal.returns-in_err-new
returns-in_err-new c = let e = c.in_err-new.ensures in
    says_8 _ _ e _ c.from_residual.ensures.1 ∙ sym (character_illegal _ _ (refused_illegal _ _ e))

pub returns-then-count : goal.returns-then-count
returns-then-count c = let taken = c.in_ok-new.field-0 in let e = c.in_ok-new.ensures in
    ap answered c.character_of.ensures
    ∙ sym (character_found _ _ (taken_is_legal _ taken e) (subst (λ (n : ℕ). c.args.place < n) (c.count.ensures ∙ taken_count _ taken e) c.if-count.true))

pub returns-else-count : goal.returns-else-count
returns-else-count c = let taken = c.in_ok-new.field-0 in let e = c.in_ok-new.ensures in
    sym (character_nowhere _ _ (taken_is_legal _ taken e) (subst (λ (n : ℕ). n ≤ c.args.place) (c.count.ensures ∙ taken_count _ taken e) c.if-count.false))
