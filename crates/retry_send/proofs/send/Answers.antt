-- Each way out is one of the rules' own.
use mathlib.Core.Path.{ap, ◌∙◌}
use native.Mathlib.Omega.{arith}
use Rattle.retry_rules.specs.declared.Counters.{Counters}
use Rattle.retry_rules.specs.declared.Sender.{Sender}
use Rattle.retry_rules.specs.Answers.{SendAnswer}
use Rattle.retry_parts.proofs.Fitting.{laid_where}
use Rattle.retry_send.proofs.Sending.{Given, Passed, passed, few, within, part_length, refuses, sends_nothing, sends}
use Rattle.retry_send.proofs.send.Goals as goal

pub returns-in_err-may_send : goal.returns-in_err-may_send
returns-in_err-may_send c =
    let v : Given = record { sender = c.args.sender.now; buffers = c.args.buffers.now; output = c.args.output.now } in
    refuses v _ c.in_err-may_send.ensures _ c.from_residual.ensures.1

pub returns-then-c : goal.returns-then-c
returns-then-c c =
    let v : Given = record { sender = c.args.sender.now; buffers = c.args.buffers.now; output = c.args.output.now } in
    let p : Passed v = passed v c.in_ok-may_send.ensures in
    sends_nothing v p c.if-c.true

pub slice_bounds-lay-end : goal.slice_bounds-lay-end
slice_bounds-lay-end c =
    let v : Given = record { sender = c.args.sender.now; buffers = c.args.buffers.now; output = c.args.output.now } in
    let p : Passed v = passed v c.in_ok-may_send.ensures in
    let n = c.from.ensures ∙ ap (λ (a : SendAnswer). a.length) c.due-segment.ensures in
    (within v p c.if-c.false _ _ c.buffer_of-from.ensures n).ends

pub one_sent-sender-requires : goal.one_sent-sender-requires
one_sent-sender-requires c =
    let v : Given = record { sender = c.args.sender.now; buffers = c.args.buffers.now; output = c.args.output.now } in
    let p : Passed v = passed v c.in_ok-may_send.ensures in
    few v p c.if-c.false

pub returns : goal.returns
returns c =
    let v : Given = record { sender = c.args.sender.now; buffers = c.args.buffers.now; output = c.args.output.now } in
    let p : Passed v = passed v c.in_ok-may_send.ensures in
    let more = c.if-c.false in
    let from = c.buffer_of-from.ensures in
    let n = c.from.ensures ∙ ap (λ (a : SendAnswer). a.length) c.due-segment.ensures in
    sends v p more _ _ _ _ _ c.due-segment.ensures
    (ap (λ (k : Counters). let s : Sender = record { counters = k; slots = c.args.sender.now.slots } in s) c.one_sent-sender.ensures) from n
    (c.lay.ensures.1 ∙ laid_where _ 0 _ (omega (arith, part_length v p more _ _ (within v p more _ _ from n))))
