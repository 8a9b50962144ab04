-- Not refused, the number is a segment's.
use Rattle.std.proofs.Common.{sym, arith}
use Rattle.retry_rules.proofs.Seen.{reply_seen}
use Rattle.retry_replies.proofs.reply.Goals as goal

pub overflow_cast-number : goal.overflow_cast-number
overflow_cast-number c =
    let h = reply_seen c.args.sender.now c.args.number (sym c.in_ok-may_hear.ensures) in
    omega (arith, h.number_lt)
