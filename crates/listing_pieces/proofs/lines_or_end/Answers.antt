-- The lines of the next characters, or the last line.
use native.Mathlib.Omega.{arith}
use Rattle.listing_pieces.proofs.Blocks.{end_is}
use Rattle.listing_pieces.proofs.lines_or_end.Goals as goal

pub returns : goal.returns
returns c =
    let a = c.args in
    end_is a.capture.bytes.now a.p c.put_end.result a.out.now c.put_end.new.out (omega arith) c.put_end.ensures.0 c.put_end.ensures.1
