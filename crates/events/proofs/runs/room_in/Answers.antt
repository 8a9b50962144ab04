-- By the phase and by what is open: none where no packet takes bytes.
use native.Mathlib.Omega.{arith}
use Rattle.events_rules.proofs.Feeding.{takes_data, takes_priority}
use Rattle.events.proofs.runs.room_in.Goals as goal

pub returns-in-Free-Some-default : goal.returns-in-Free-Some-default
returns-in-Free-Some-default c = let r = c.args.r in
    let at = c.in-Free-Some-default in
    takes_priority r.size r.packet r.priority r.phase c.args.most _ _ _ _ at.is-1 at.is-0 (omega arith) (omega arith) (omega arith)

pub returns-in-Free-None-Some : goal.returns-in-Free-None-Some
returns-in-Free-None-Some c = let r = c.args.r in
    let at = c.in-Free-None-Some in
    takes_data r.size r.packet r.priority r.phase c.args.most _ _ _ at.is-2 c.if-outer.true at.is-1 at.is-0 c.requires
