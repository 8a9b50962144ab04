-- A refusal is answered with its number, and leaves all as it stood.
use mathlib.Core.Path.{ap, ◌∙◌}
use Rattle.retry_rules.specs.Answers.{Begun}
use Rattle.host_retry_rules.proofs.Called.{refused_refusal, refused_lent}
use Rattle.host_calls.specs.ReceiverCalls.{begins_receiver}
use Rattle.host_receiver.proofs.buzz_receiver_fresh.Goals as goal

pub returns-in-Err : goal.returns-in-Err
unfolding begins_receiver
returns-in-Err c =
    let e = ap (λ (a : Begun). a.refusal) c.in-Err.ensures in
    (c.from.ensures ∙ refused_refusal _ _ _ c.in-Err.refused e, refused_lent _ _ _ c.in-Err.refused e)
