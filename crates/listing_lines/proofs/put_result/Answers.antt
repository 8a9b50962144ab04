-- One step, and its line.
use mathlib.Core.Path.{◌≡◌, refl, sym, ap, ◌∙◌}
use mathlib.Core.Bool.{Bool, cond}
use native.Mathlib.Omega.{arith}
use Rattle.std.specs.Prelude.{Result}
use Rattle.refusal.specs.declared.Refusal.{Refusal}
use Rattle.packet_rules.specs.declared.Event.{Event}
use Rattle.packet_rules.specs.Answers.{answer_says, event_says}
use Rattle.listing_rules.specs.Lines.{fields_of, listed}
use Rattle.listing_lines.proofs.Lines.{listed_one, listed_short, listed_nothing}
use Rattle.listing_lines.proofs.put_result.Goals as goal

pub returns-in_default : goal.returns-in_default
returns-in_default c =
    let a = c.args in
    let none : listed (fields_of (answer_says c.step.result)) ≡ 0 =
    ap (λ (x : Result Event Refusal). listed (fields_of (answer_says x))) c.in_default.is in (
      listed_nothing a.place a.res a.p a.out.now c.unpack_result-decoded.result _ _ c.unpack_result-decoded.ensures c.step.ensures.0
          c.step.ensures.1 none,
      omega arith,
    )

pub returns-then-not-has_line : goal.returns-then-not-has_line
returns-then-not-has_line c =
    let a = c.args in
    let none : listed (fields_of (event_says c.in-Ok.event)) ≡ 0 =
    sym c.has_line.ensures ∙ ap (λ (b : Bool). cond b 1 0) c.if-not-has_line.true in (
      listed_nothing a.place a.res a.p a.out.now c.unpack_result-decoded.result _ _ c.unpack_result-decoded.ensures
          (sym (ap answer_says c.in-Ok.is) ∙ c.step.ensures.0) c.step.ensures.1 none,
      omega arith,
    )

pub returns : goal.returns
returns c =
    let a = c.args in
    let decoded = c.unpack_result-decoded in
    let said = sym (ap answer_says c.in-Ok.is) ∙ c.step.ensures.0 in
    let one : 1 ≡ listed (fields_of (event_says c.in-Ok.event)) =
    sym (ap (λ (b : Bool). cond b 1 0) c.if-not-has_line.false) ∙ c.has_line.ensures in (
      listed_one a.place a.res a.p a.out.now c.put_event.new.out decoded.result _ _ c.put_event.result 1 decoded.ensures said c.step.ensures.1
          c.put_event.ensures one,
      listed_short a.place a.res a.p a.out.now c.put_event.new.out decoded.result _ _ c.put_event.result 1 decoded.ensures said c.step.ensures.1
          c.put_event.ensures one c.in-Ok.event refl,
    )
