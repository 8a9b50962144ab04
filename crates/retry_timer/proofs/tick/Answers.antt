-- Not refused, the sender keeps its rule with the link up: fewer than three expiries are counted.
use Rattle.std.proofs.Common.{sym, arith}
use Rattle.retry_rules.proofs.Seen.{sender_seen}
use Rattle.retry_timer.proofs.tick.Goals as goal

pub ticked-sender-requires : goal.ticked-sender-requires
ticked-sender-requires c =
    let h = sender_seen c.args.sender.now (sym c.in_ok-may_call.ensures) in
    omega (arith, h.up, h.rule.numbers.link.few)
