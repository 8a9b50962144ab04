-- The run of bytes in the packet that takes them; where none does, nothing is done.
use native.Mathlib.Omega.{arith}
use Rattle.capture_rules.proofs.Packing.{characters_length}
use Rattle.events.specs.Sources.{characters_in}
use Rattle.events_rules.proofs.Runs.{ran_none}
use Rattle.events.proofs.Steps.{run_is}
use Rattle.events.proofs.runs.user_bytes.Goals as goal

pub returns-then-room-eq0 : goal.returns-then-room-eq0
returns-then-room-eq0 c = let a = c.args in
    let long = characters_length a.source.now.capture.bytes.now in
    ran_none (characters_in a.source.now) a.from.at a.from.plus a.from.reader a.events.now (omega arith) a.from.rule

pub invariant_of-result : goal.invariant_of-result
invariant_of-result c = let a = c.args in
    record {
      rule = (run_is a.source.now a.from a.events.now c.take_bytes-taken.new.events _ _ _ c.take_bytes-taken.result _ c.room_in-room.ensures
          c.register_in.ensures c.take_bytes-taken.ensures c.reader_after.ensures).rule;
    }

pub returns : goal.returns
returns c = let a = c.args in
    run_is a.source.now a.from a.events.now c.take_bytes-taken.new.events _ _ _ c.take_bytes-taken.result _ c.room_in-room.ensures
    c.register_in.ensures c.take_bytes-taken.ensures c.reader_after.ensures
