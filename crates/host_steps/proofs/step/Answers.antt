-- Each way out by what led there: bytes of no state, numbers of no result, a step that is refused, and one that is not.
use Rattle.host_steps.proofs.Ways.{no_reader, no_result, no_step, steps}
use Rattle.host_steps.proofs.step.Goals as goal

pub returns-in_err-reader : goal.returns-in_err-reader
returns-in_err-reader c = no_reader _ _ _ _ _ _ c.in_err-reader.ensures c.from_residual.ensures.1

pub returns-in_err-decoded : goal.returns-in_err-decoded
returns-in_err-decoded c = no_result _ _ _ _ _ c.in_ok-reader.ensures _ _ c.in_err-decoded.ensures c.from_residual-in_err-decoded.ensures.1

pub returns-in_err-event : goal.returns-in_err-event
returns-in_err-event c =
    no_step _ _ _ _ _ c.in_ok-reader.ensures _ c.in_ok-decoded.ensures _ _ c.in_err-event.ensures.0 c.from_residual-in_err-event.ensures.1

pub returns : goal.returns
returns c =
    steps _ _ _ _ _ c.in_ok-reader.ensures _ c.in_ok-decoded.ensures _ _ _ c.in_ok-event.ensures.0 c.step.ensures.1 c.reader_bytes.ensures
