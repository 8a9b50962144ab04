-- A refusal is answered with its number, and leaves all as it stood.
use mathlib.Core.Path.{ap, ◌∙◌}
use Rattle.retry_rules.specs.declared.Sender.{Sender}
use Rattle.retry_rules.specs.Answers.{TickAnswer}
use Rattle.retry_rules.specs.Tick.{tick_of}
use Rattle.host_retry_rules.proofs.Called.{refused_refusal, refused_lent}
use Rattle.host_calls.specs.SenderCalls.{Ticks, ticks}
use Rattle.host_replies.proofs.buzz_sender_tick.Goals as goal

pub returns-in-Err : goal.returns-in-Err
unfolding ticks
returns-in-Err c =
    let e = ap (λ (a : TickAnswer). a.refusal) c.in-Err.ensures.0 ∙ ap (λ (s : Sender). (tick_of s).refusal) c.sender_in-state.ensures in
    let kept = refused_lent _ _ _ c.in-Err.refusal e in
    (c.from.ensures ∙ refused_refusal _ _ _ c.in-Err.refusal e, ap (λ (t : Ticks). t.sender) kept, ap (λ (t : Ticks). t.fell) kept)
