-- By what is told: an event's numbers, or a refusal, which leaves all as it stood.
use mathlib.Core.Path.{refl, ap, ◌∙◌}
use Rattle.host_steps.specs.Told.{answer_told_says}
use Rattle.host_steps.proofs.Telling.{told_answer}
use Rattle.host_calls.specs.PacketCalls.{Steps}
use Rattle.host_packet_reader.proofs.Told.{told_done, told_refusal}
use Rattle.host_packet_reader.proofs.buzz_reader_step.Goals as goal

pub returns-in-Ok : goal.returns-in-Ok
returns-in-Ok c =
    let a = c.args in
    let old : Steps = record { reader = a.reader.now; event = a.event.now; value = a.value.now; number = a.number.now } in
    rw (told_done a.violation a.byte a.control old _ _ (ap answer_told_says c.in-Ok.ensures ∙ told_answer _) c.step-said.ensures.0) (refl, c.step-said.ensures.1, refl, refl, refl)

pub returns-in-Err : goal.returns-in-Err
returns-in-Err c =
    let a = c.args in
    let old : Steps = record { reader = a.reader.now; event = a.event.now; value = a.value.now; number = a.number.now } in
    rw (told_refusal a.violation a.byte a.control old _ _ (ap answer_told_says c.in-Err.ensures ∙ told_answer _) c.step-said.ensures.0) (c.from.ensures, c.step-said.ensures.1, refl, refl, refl)
