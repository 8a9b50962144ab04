-- Each way out is one of the rules' own.
use mathlib.Core.Path.{ap, ◌∙◌}
use Prim.Native.Nat.{ℕ}
use native.Mathlib.Omega.{arith}
use Rattle.retry_rules.specs.Lent.{laid}
use Rattle.retry_parts.proofs.Fitting.{laid_where}
use Rattle.retry_offer.proofs.Offering.{Given, Passed, passed, fits_buffer, fits_length, refuses, stores}
use Rattle.retry_offer.proofs.offer.Goals as goal

pub returns-in_err-may_offer : goal.returns-in_err-may_offer
returns-in_err-may_offer c =
    let v : Given = record { sender = c.args.sender.now; buffers = c.args.buffers.now; channel = c.args.channel; bad = c.args.bad; bytes = c.args.bytes.now } in
    refuses v _ c.in_err-may_offer.ensures _ c.from_residual.ensures.1

pub overflow_cast-channel : goal.overflow_cast-channel
overflow_cast-channel c =
    let v : Given = record { sender = c.args.sender.now; buffers = c.args.buffers.now; channel = c.args.channel; bad = c.args.bad; bytes = c.args.bytes.now } in
    let p : Passed v = passed v c.in_ok-may_offer.ensures in
    omega (arith, p.channel_lt)

pub overflow_cast-bytes : goal.overflow_cast-bytes
overflow_cast-bytes c =
    let v : Given = record { sender = c.args.sender.now; buffers = c.args.buffers.now; channel = c.args.channel; bad = c.args.bad; bytes = c.args.bytes.now } in
    let p : Passed v = passed v c.in_ok-may_offer.ensures in
    omega (arith, fits_length v p)

pub stored_in-requires : goal.stored_in-requires
stored_in-requires c =
    let v : Given = record { sender = c.args.sender.now; buffers = c.args.buffers.now; channel = c.args.channel; bad = c.args.bad; bytes = c.args.bytes.now } in
    let p : Passed v = passed v c.in_ok-may_offer.ensures in
    p.free

pub returns : goal.returns
returns c =
    let v : Given = record { sender = c.args.sender.now; buffers = c.args.buffers.now; channel = c.args.channel; bad = c.args.bad; bytes = c.args.bytes.now } in
    let p : Passed v = passed v c.in_ok-may_offer.ensures in
    let at = c.buffer_of.ensures in
    let d = stores v p _ _ c.stored_in.ensures
    (c.lay.ensures.1 ∙ laid_where _ _ _ (fits_buffer v p _ at) ∙ ap (λ (k : ℕ). laid v.buffers k v.bytes) at) in
    (ap (λ (k : ℕ). record { refusal = 0; number = k }) c.after.ensures ∙ d.0, d.1, d.2)
