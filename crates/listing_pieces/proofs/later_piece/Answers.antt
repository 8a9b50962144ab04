-- Each refusal in its order, and the piece.
use Rattle.std.specs.Prelude.{ℕ, List}
use mathlib.Core.Path.{sym, subst, ◌∙◌}
use native.Mathlib.Omega.{arith}
use Rattle.capture_rules.proofs.Answers.{handed_back}
use Rattle.capture.proofs.Taken.{taken_same, taken_is_legal, taken_count, refused_illegal, refused_8}
use Rattle.listing_rules.specs.Pieces.{Puts}
use Rattle.listing_rules.specs.declared.Listing.TheVariants.{Going}
use Rattle.listing_pieces.proofs.Nexts.{bad_capture, broken_rule, past_the_end, later_comes}
use Rattle.listing_pieces.proofs.later_piece.Goals as goal

pub returns-in_err-capture : goal.returns-in_err-capture
returns-in_err-capture c =
    let a = c.args in
    let e = c.in_err-capture.ensures in
    bad_capture a.capture.now a.p a.out.now _ _ (handed_back _ _ c.from_residual.ensures.1) (refused_8 _ _ e) (refused_illegal _ _ e)

pub returns-then-not-keeps_rule : goal.returns-then-not-keeps_rule
returns-then-not-keeps_rule c =
    let a = c.args in
    let e = c.in_ok-capture.ensures in
    broken_rule a.capture.now a.p a.out.now (taken_is_legal _ c.in_ok-capture.capture e) (sym c.keeps_rule.ensures ∙ c.if-not-keeps_rule.true)

pub returns-then-count-p : goal.returns-then-count-p
returns-then-count-p c =
    let a = c.args in
    let taken = c.in_ok-capture.capture in
    let e = c.in_ok-capture.ensures in
    let n = taken_count _ taken e in
    past_the_end a.capture.now a.p a.out.now (taken_is_legal _ taken e) (sym c.keeps_rule.ensures ∙ c.if-not-keeps_rule.false) (omega arith)

pub returns : goal.returns
returns c =
    let a = c.args in
    let taken = c.in_ok-capture.capture in
    let e = c.in_ok-capture.ensures in
    let n = taken_count _ taken e in
    later_comes a.capture.now a.p a.out.now (taken_is_legal _ taken e) (sym c.keeps_rule.ensures ∙ c.if-not-keeps_rule.false)
    c.lines_or_end.result c.lines_or_end.new.out (omega arith)
    (subst (λ (b : List ℕ). Puts b (Going a.p) a.out.now c.lines_or_end.result c.lines_or_end.new.out) (taken_same _ taken e) c.lines_or_end.ensures)
