-- The sender stays; a refusal is answered with its number, and leaves all as it stood.
use mathlib.Core.Path.{sym, ap, ◌∙◌}
use Rattle.retry_rules.specs.declared.Sender.{Sender}
use Rattle.retry_rules.specs.Reply.{damaged_reply_of}
use Rattle.retry_rules.proofs.Errs.{damaged_reply_leaves}
use Rattle.host_retry_rules.specs.SenderBytes.{sender_in, sender_bytes}
use Rattle.host_retry_rules.proofs.Called.{done_refusal, done_lent, refused_refusal, refused_lent}
use Rattle.host_calls.specs.SenderCalls.{hears_damaged}
use Rattle.host_replies.proofs.buzz_sender_damaged_reply.Goals as goal

pub returns-in-Ok : goal.returns-in-Ok
unfolding hears_damaged
returns-in-Ok c =
    let given = c.sender_in-state.ensures in
    let e = c.in-Ok.ensures ∙ ap (λ (s : Sender). (damaged_reply_of s).refusal) given in (
      done_refusal _ _ _ e,
      c.sender_bytes.ensures ∙ ap sender_bytes (given ∙ sym (damaged_reply_leaves (sender_in c.args.sender.now))) ∙ done_lent _ _ _ e,
    )

pub returns-in-Err : goal.returns-in-Err
unfolding hears_damaged
returns-in-Err c =
    let e = c.in-Err.ensures ∙ ap (λ (s : Sender). (damaged_reply_of s).refusal) c.sender_in-state.ensures in
    (c.from.ensures ∙ refused_refusal _ _ _ c.in-Err.refused e, refused_lent _ _ _ c.in-Err.refused e)
