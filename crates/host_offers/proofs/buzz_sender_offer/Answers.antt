-- A refusal is answered with its number, and leaves all as it stood.
use mathlib.Core.Path.{refl, ap, ◌∙◌}
use lib.ListN.{length}
use Rattle.retry_rules.specs.declared.Sender.{Sender}
use Rattle.retry_rules.specs.Answers.{OfferAnswer}
use Rattle.retry_rules.specs.Offer.{offer_of, offer_buffers}
use Rattle.host_rules.specs.Numbers.{mark_of}
use Rattle.host_retry_rules.proofs.Called.{not_zero}
use Rattle.host_calls.specs.SenderCalls.{Offers}
use Rattle.host_calls.proofs.SenderLaws.{offer_refused}
use Rattle.host_offers.proofs.buzz_sender_offer.Goals as goal

pub returns-in-Err : goal.returns-in-Err
returns-in-Err c =
    let a = c.args in
    let old : Offers = record { sender = a.sender.now; buffers = a.buffers.now; number = a.number.now } in
    let given = c.sender_in-state.ensures in
    let e = ap (λ (x : OfferAnswer). x.refusal) c.in-Err.ensures.0
    ∙ ap (λ (s : Sender). (offer_of s (length a.buffers.now) a.channel (mark_of a.bad) (length a.bytes.now)).refusal) given in
    let buffers = c.in-Err.ensures.2 ∙ ap (λ (s : Sender). offer_buffers s a.buffers.now a.channel a.bytes.now) given in
    rw (offer_refused a.channel a.bad a.bytes.now old _ refl (not_zero c.in-Err.refusal _ e)) (c.from-in-Err.ensures ∙ e, refl, buffers, refl)
