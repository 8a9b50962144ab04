-- By the test of the rule; then the code's way through the step is what the rules say.
use mathlib.Core.Path.{sym, ap, ◌∙◌}
use Rattle.packet_rules.specs.Answers.{Answer, answer_says}
use Rattle.packet_reader.proofs.Agree.{says_step, leaves_step, ill_formed_with}
use Rattle.packet_reader.proofs.step.Goals as goal

pub returns-then-not-is_well_formed : goal.returns-then-not-is_well_formed
returns-then-not-is_well_formed g c =
    let e = ill_formed_with c.args.reader.now c.args.res (sym c.is_well_formed.ensures ∙ c.if-not-is_well_formed.true) in
    (ap (λ (a : Answer). a.said) e, ap (λ (a : Answer). a.reader) e)

pub returns : goal.returns
returns g c =
    let r = c.args.reader.now in
    let ok = sym c.is_well_formed.ensures ∙ c.if-not-is_well_formed.false in (
      ap answer_says c.advance.ensures.0 ∙ says_step r c.args.res ok,
      c.advance.ensures.1 ∙ leaves_step r c.args.res ok,
    )
