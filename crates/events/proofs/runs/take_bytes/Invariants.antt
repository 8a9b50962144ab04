-- Each clean data symbol is one byte more.
use Rattle.events.specs.Sources.{characters_in}
use Rattle.events_rules.proofs.Feeding.{Fed}
use Rattle.events.proofs.runs.take_bytes.Given as goal

abbrev pub invariant-loop-at : goal.invariant-loop-at
invariant-loop-at l =
    Fed (characters_in l.source) l.until l.fn.from.at l.initial.plus l.initial.register l.initial.events l.at l.plus l.register l.events
