-- A refusal is answered with its number, and leaves all as it stood.
use mathlib.Core.Path.{refl, ap, ◌∙◌}
use lib.ListN.{length}
use Rattle.retry_rules.specs.declared.Sender.{Sender}
use Rattle.retry_rules.specs.Answers.{SendAnswer}
use Rattle.retry_rules.specs.Send.{send_of, send_output}
use Rattle.host_retry_rules.proofs.Called.{not_zero}
use Rattle.host_calls.specs.SenderCalls.{Sends}
use Rattle.host_calls.proofs.SenderLaws.{send_refused}
use Rattle.host_offers.proofs.buzz_sender_send.Goals as goal

pub returns-in-Err : goal.returns-in-Err
returns-in-Err c =
    let a = c.args in
    let old : Sends = record {
      sender = a.sender.now;
      output = a.output.now;
      sent = a.sent.now;
      number = a.number.now;
      channel = a.channel.now;
      bad = a.bad.now;
      size = a.bytes.now;
    } in
    let given = c.sender_in-state.ensures in
    let e = ap (λ (x : SendAnswer). x.refusal) c.in-Err.ensures.0
    ∙ ap (λ (s : Sender). (send_of s (length a.buffers.now) (length a.output.now)).refusal) given in
    let output = c.in-Err.ensures.2 ∙ ap (λ (s : Sender). send_output s a.buffers.now a.output.now) given in
    rw (send_refused a.buffers.now old _ refl (not_zero c.in-Err.refusal _ e))
    (c.from-in-Err.ensures ∙ e, refl, output, refl, refl, refl, refl, refl)
