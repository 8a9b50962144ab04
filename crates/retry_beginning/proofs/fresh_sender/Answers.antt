-- Not refused, T and S fit.
use Rattle.std.proofs.Common.{sym, arith}
use Rattle.segment_size.proofs.Ranges.{size_range}
use Rattle.retry_rules.proofs.Seen.{fresh_seen}
use Rattle.retry_beginning.proofs.fresh_sender.Goals as goal

pub overflow_cast-columns : goal.overflow_cast-columns
overflow_cast-columns c =
    let h = fresh_seen c.args.columns c.args.size (sym c.in_ok-may_begin.ensures) in
    omega (arith, h.most)

pub overflow_cast-size : goal.overflow_cast-size
overflow_cast-size c =
    let h = fresh_seen c.args.columns c.args.size (sym c.in_ok-may_begin.ensures) in
    omega (arith, size_range c.args.size h.size)
