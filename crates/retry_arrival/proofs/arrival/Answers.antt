-- Each way out is one of the rules' own.
use mathlib.Core.Path.{sym, ◌∙◌}
use native.Mathlib.Omega.{arith}
use Rattle.retry_parts.proofs.Fitting.{laid_where}
use Rattle.retry_arrival.proofs.Arriving.{Given, Passed, passed, fits_output, fits_length, refuses, delivers, keeps}
use Rattle.retry_arrival.proofs.arrival.Goals as goal

pub returns-in_err-may_arrive : goal.returns-in_err-may_arrive
returns-in_err-may_arrive c =
    let v : Given = record { receiver = c.args.receiver.now; number = c.args.number; channel = c.args.channel; bad = c.args.bad; bytes = c.args.bytes.now; room = c.args.room; output = c.args.output.now } in
    refuses v _ c.in_err-may_arrive.ensures _ c.from_residual.ensures.1

pub overflow_cast-number : goal.overflow_cast-number
overflow_cast-number c =
    let v : Given = record { receiver = c.args.receiver.now; number = c.args.number; channel = c.args.channel; bad = c.args.bad; bytes = c.args.bytes.now; room = c.args.room; output = c.args.output.now } in
    let p : Passed v = passed v c.in_ok-may_arrive.ensures in
    omega (arith, p.number_lt)

pub returns-then-not-is_wanted : goal.returns-then-not-is_wanted
returns-then-not-is_wanted c =
    let v : Given = record { receiver = c.args.receiver.now; number = c.args.number; channel = c.args.channel; bad = c.args.bad; bytes = c.args.bytes.now; room = c.args.room; output = c.args.output.now } in
    let p : Passed v = passed v c.in_ok-may_arrive.ensures in
    keeps v p _ (sym c.is_wanted.ensures ∙ c.if-not-is_wanted.true) c.reply_to.ensures

pub overflow_cast-result : goal.overflow_cast-result
overflow_cast-result c =
    let v : Given = record { receiver = c.args.receiver.now; number = c.args.number; channel = c.args.channel; bad = c.args.bad; bytes = c.args.bytes.now; room = c.args.room; output = c.args.output.now } in
    let p : Passed v = passed v c.in_ok-may_arrive.ensures in
    omega (arith, p.number_lt)

pub overflow_cast-delivered : goal.overflow_cast-delivered
overflow_cast-delivered c =
    let v : Given = record { receiver = c.args.receiver.now; number = c.args.number; channel = c.args.channel; bad = c.args.bad; bytes = c.args.bytes.now; room = c.args.room; output = c.args.output.now } in
    let p : Passed v = passed v c.in_ok-may_arrive.ensures in
    omega (arith, p.channel_lt)

pub overflow_cast-delivered-2 : goal.overflow_cast-delivered-2
overflow_cast-delivered-2 c =
    let v : Given = record { receiver = c.args.receiver.now; number = c.args.number; channel = c.args.channel; bad = c.args.bad; bytes = c.args.bytes.now; room = c.args.room; output = c.args.output.now } in
    let p : Passed v = passed v c.in_ok-may_arrive.ensures in
    omega (arith, fits_length v p)

pub returns : goal.returns
returns c =
    let v : Given = record { receiver = c.args.receiver.now; number = c.args.number; channel = c.args.channel; bad = c.args.bad; bytes = c.args.bytes.now; room = c.args.room; output = c.args.output.now } in
    let p : Passed v = passed v c.in_ok-may_arrive.ensures in
    let t = sym c.is_wanted.ensures ∙ c.if-not-is_wanted.false in
    let d = delivers v p _ t (c.lay.ensures.1 ∙ laid_where _ 0 _ (omega (arith, fits_output v p t))) in
    (d.0, c.advanced.ensures ∙ d.1, d.2)
