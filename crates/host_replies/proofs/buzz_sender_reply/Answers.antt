-- A refusal is answered with its number, and leaves all as it stood.
use mathlib.Core.Path.{ap, ◌∙◌}
use Rattle.retry_rules.specs.declared.Sender.{Sender}
use Rattle.retry_rules.specs.Reply.{reply_of}
use Rattle.host_rules.specs.Numbers.{mark_of}
use Rattle.host_retry_rules.proofs.Called.{refused_refusal, refused_lent}
use Rattle.host_calls.specs.SenderCalls.{hears}
use Rattle.host_replies.proofs.buzz_sender_reply.Goals as goal

pub returns-in-Err : goal.returns-in-Err
unfolding hears
returns-in-Err c =
    let e = c.in-Err.ensures.0 ∙ ap (λ (s : Sender). (reply_of s (mark_of c.args.nack) c.args.number).refusal) c.sender_in-state.ensures in
    (c.from.ensures ∙ refused_refusal _ _ _ c.in-Err.refusal e, refused_lent _ _ _ c.in-Err.refusal e)
