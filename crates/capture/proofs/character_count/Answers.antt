-- The refusal, and the number of the capture that was taken.
use mathlib.Core.Path.{sym, ap, ◌∙◌}
use Rattle.capture_rules.specs.Calls.{answered}
use Rattle.capture_rules.proofs.Laws.{count_illegal, count_legal}
use Rattle.capture.proofs.Taken.{taken_is_legal, taken_count, refused_illegal, says_8}
use Rattle.capture.proofs.character_count.Goals as goal

pub returns-in_err-new : goal.returns-in_err-new
returns-in_err-new c = let e = c.in_err-new.ensures in
    says_8 _ _ e _ c.from_residual.ensures.1 ∙ sym (count_illegal _ (refused_illegal _ _ e))

pub returns : goal.returns
returns c = let taken = c.in_ok-new.field-0 in let e = c.in_ok-new.ensures in
    ap answered (c.count.ensures ∙ taken_count _ taken e) ∙ sym (count_legal _ (taken_is_legal _ taken e))
