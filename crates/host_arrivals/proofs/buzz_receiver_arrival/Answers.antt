-- A refusal is answered with its number, and leaves all as it stood.
use mathlib.Core.Path.{refl, ap, ◌∙◌}
use lib.ListN.{length}
use Rattle.retry_rules.specs.declared.Receiver.{Receiver}
use Rattle.retry_rules.specs.Answers.{ArrivalAnswer}
use Rattle.retry_rules.specs.Arrival.{arrival_of, arrival_output}
use Rattle.host_rules.specs.Numbers.{mark_of}
use Rattle.host_retry_rules.proofs.Called.{not_zero}
use Rattle.host_calls.specs.ReceiverCalls.{Arrives}
use Rattle.host_calls.proofs.ReceiverLaws.{arrival_refused}
use Rattle.host_arrivals.proofs.buzz_receiver_arrival.Goals as goal

pub returns-in-Err : goal.returns-in-Err
returns-in-Err c =
    let a = c.args in
    let old : Arrives = record {
      receiver = a.receiver.now;
      output = a.output.now;
      delivered = a.delivered.now;
      channel = a.delivered_channel.now;
      bad = a.delivered_bad.now;
      size = a.delivered_length.now;
      nack = a.nack.now;
      reply = a.reply.now;
    } in
    let given = c.receiver_in-state.ensures in
    let e = ap (λ (x : ArrivalAnswer). x.refusal) c.in-Err.ensures.0
    ∙ ap (λ (r : Receiver). (arrival_of r a.number a.channel (mark_of a.bad) (length a.bytes.now) (mark_of a.room) (length a.output.now)).refusal) given in
    let output = c.in-Err.ensures.2
    ∙ ap (λ (r : Receiver). arrival_output r a.number a.channel a.bytes.now (mark_of a.room) a.output.now) given in
    rw (arrival_refused a.number a.channel a.bad a.bytes.now a.room old _ refl (not_zero c.in-Err.refusal _ e))
    (c.from-in-Err.ensures ∙ e, refl, output, refl, refl, refl, refl, refl, refl)
