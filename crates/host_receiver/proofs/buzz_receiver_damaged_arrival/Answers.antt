-- The reply goes out, and the receiver stays; a refusal is answered with its number, and leaves all as it stood.
use Rattle.std.proofs.Common.{ℕ, List, rules, slice_index_or}
use mathlib.Core.Path.{sym, ap, ◌∙◌}
use Rattle.retry_rules.specs.declared.Receiver.{Receiver}
use Rattle.retry_rules.specs.Answers.{ArrivalAnswer, arrival_beside}
use Rattle.retry_rules.specs.Arrival.{damaged_arrival_of}
use Rattle.retry_receiver.proofs.Leaves.{damaged_leaves}
use Rattle.host_rules.specs.Numbers.{mark_number}
use Rattle.host_retry_rules.specs.ReceiverBytes.{receiver_in, receiver_bytes}
use Rattle.host_retry_rules.proofs.Called.{done_refusal, done_lent, refused_refusal, refused_lent}
use Rattle.host_calls.specs.ReceiverCalls.{ArrivesDamaged, arrives_damaged}
use Rattle.host_receiver.proofs.Stays.{receiver_stays}
use Rattle.host_receiver.proofs.buzz_receiver_damaged_arrival.Goals as goal

pub returns-in-Ok : goal.returns-in-Ok
unfolding arrives_damaged
returns-in-Ok c =
    let given = c.receiver_in-state.ensures in
    let said = c.in-Ok.ensures ∙ ap (λ (r : Receiver). arrival_beside (damaged_arrival_of r)) given in
    let e = ap (λ (a : ArrivalAnswer). a.refusal) said in
    let made = done_lent _ _ _ e in (
      done_refusal _ _ _ e,
      sym (receiver_stays c.args.receiver.now (search rules) (search rules)) ∙ ap receiver_bytes (sym (damaged_leaves (receiver_in c.args.receiver.now)))
          ∙ ap (λ (t : ArrivesDamaged). t.receiver) made,
      ap (λ (l : List ℕ). slice_index_or l 0 0) c.reply_numbers.ensures ∙ ap (λ (a : ArrivalAnswer). mark_number a.nack) said
          ∙ ap (λ (t : ArrivesDamaged). t.nack) made,
      ap (λ (l : List ℕ). slice_index_or l 1 0) c.reply_numbers.ensures ∙ ap (λ (a : ArrivalAnswer). a.number) said
          ∙ ap (λ (t : ArrivesDamaged). t.reply) made,
    )

pub returns-in-Err : goal.returns-in-Err
unfolding arrives_damaged
returns-in-Err c =
    let e = ap (λ (a : ArrivalAnswer). a.refusal) c.in-Err.ensures
    ∙ ap (λ (r : Receiver). (damaged_arrival_of r).refusal) c.receiver_in-state.ensures in
    let kept = refused_lent _ _ _ c.in-Err.refusal e in (
      c.from.ensures ∙ refused_refusal _ _ _ c.in-Err.refusal e,
      ap (λ (t : ArrivesDamaged). t.receiver) kept,
      ap (λ (t : ArrivesDamaged). t.nack) kept,
      ap (λ (t : ArrivesDamaged). t.reply) kept,
    )
