-- The character's result, the reader's step and the event, which is stored: one character more.
use mathlib.Core.Path.{refl, ap, ◌∙◌}
use Rattle.std.specs.Prelude.{Result}
use Rattle.refusal.specs.declared.Refusal.{Refusal}
use Rattle.packet_rules.specs.declared.Event.{Event}
use Rattle.events_rules.specs.Numbers.{packed_answer}
use Rattle.events_rules.proofs.Numbers.{packed_says}
use Rattle.events.proofs.Steps.{one_is}
use Rattle.events.proofs.read_one.Goals as goal

pub returns : goal.returns
returns c = let a = c.args in (
  one_is a.source.now a.from a.events.now c.requires.0 c.requires.1 c.result_at-result.result c.event_number.result c.unpack_result.result _
      c.result_at-result.ensures c.unpack_result.ensures
      (c.event_number.ensures ∙ ap (λ (x : Result Event Refusal). packed_answer x) c.advance-answer.ensures.0 ∙ packed_says _) c.advance-answer.ensures.1,
  refl,
)

pub invariant_of-result : goal.invariant_of-result
invariant_of-result c = let a = c.args in
    record {
      rule = (one_is a.source.now a.from a.events.now c.requires.0 c.requires.1 c.result_at-result.result c.event_number.result c.unpack_result.result _
          c.result_at-result.ensures c.unpack_result.ensures
          (c.event_number.ensures ∙ ap (λ (x : Result Event Refusal). packed_answer x) c.advance-answer.ensures.0 ∙ packed_says _) c.advance-answer.ensures.1).rule;
    }
