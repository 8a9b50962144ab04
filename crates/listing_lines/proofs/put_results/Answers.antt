-- After i turns the lines of the first i results stand.
use mathlib.Core.Path.{sym, ◌∙◌}
use native.Mathlib.Omega.{arith}
use lib.Seq.{length-take-le}
use Rattle.listing_lines.proofs.Lines.{listed_none, listed_next, listed_few, block_fits}
use Rattle.listing_lines.proofs.put_results.Goals as goal

pub loop-i-init : goal.loop-i-init
loop-i-init c = (listed_none _ _ _, omega arith)

pub put_result-p-requires : goal.put_result-p-requires
put_result-p-requires c =
    let f = block_fits c.args.results.now c.args.from
    (sym c.is_block.ensures ∙ c.if-not-is_block.false) in
    let l = c.loop-i in
    let g = listed_few l.invariant.0 in
    let n = length-take-le l.i c.args.results.now (omega arith) in
    (omega (arith, f.0), omega (arith, f.0, f.2))

pub loop-i-preserved : goal.loop-i-preserved
loop-i-preserved c =
    let l = c.loop-i in
    let e = c.put_result-p.ensures in (
      listed_next c.args.results.now c.args.from.place _ l.p c.put_result-p.result c.args.out.now l.out
          c.put_result-p.new.out l.i l.invariant.0 (omega arith) e.0,
      omega (arith, e.1),
    )
