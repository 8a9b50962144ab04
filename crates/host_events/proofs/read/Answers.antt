-- The refusals in their order; then the capture is read.
use mathlib.Core.Path.{refl, sym, ap, ◌∙◌}
use Rattle.std.proofs.lemmas.Result.{err_from_is_err_and}
use Rattle.refusal.specs.Order.{number_of, refusal_says}
use Rattle.host_rules.specs.ReaderBytes.{reader_bytes}
use Rattle.host_calls.specs.EventCalls.{ReadsCapture}
use Rattle.host_calls.proofs.EventLaws.{capture_illegal, capture_stateless, capture_refused, capture_done}
use Rattle.host_events.proofs.read.Goals as goal

pub returns-then-not-is_legal : goal.returns-then-not-is_legal
returns-then-not-is_legal c =
    let a = c.args in
    let old : ReadsCapture = record { reader = a.bytes.now; disparity = a.disparity.now; events = a.events.now; count = a.count.now } in
    rw (capture_illegal a.capture.now old (sym c.is_legal.ensures ∙ c.if-not-is_legal.true)) (refl, refl, refl, refl, refl)

pub returns-in_err-reader : goal.returns-in_err-reader
returns-in_err-reader c =
    let a = c.args in
    let old : ReadsCapture = record { reader = a.bytes.now; disparity = a.disparity.now; events = a.events.now; count = a.count.now } in
    let legal = sym c.is_legal.ensures ∙ c.if-not-is_legal.false in
    let p = err_from_is_err_and c.from_residual.result c.from_residual.ensures.1 in
    rw (capture_stateless a.capture.now old legal _ c.in_err-reader.ensures) (ap refusal_says p.1 ∙ ap number_of p.2, refl, refl, refl, refl)

pub returns-in_err-count : goal.returns-in_err-count
returns-in_err-count c =
    let a = c.args in
    let old : ReadsCapture = record { reader = a.bytes.now; disparity = a.disparity.now; events = a.events.now; count = a.count.now } in
    let legal = sym c.is_legal.ensures ∙ c.if-not-is_legal.false in
    let read = c.in_err-count.ensures in
    let p = err_from_is_err_and c.from_residual-in_err-count.result c.from_residual-in_err-count.ensures.1 in
    rw (capture_refused a.capture.now old legal _ c.in_ok-reader.ensures _ read.0)
    (ap refusal_says p.1 ∙ ap number_of p.2, refl, read.2, read.3, refl)

pub returns : goal.returns
returns c =
    let a = c.args in
    let old : ReadsCapture = record { reader = a.bytes.now; disparity = a.disparity.now; events = a.events.now; count = a.count.now } in
    let legal = sym c.is_legal.ensures ∙ c.if-not-is_legal.false in
    let read = c.in_ok-count.ensures in
    rw (capture_done a.capture.now old legal _ c.in_ok-reader.ensures _ read.0)
    (refl, c.reader_bytes.ensures ∙ ap reader_bytes read.1, read.2, read.3, refl)
