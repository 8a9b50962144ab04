-- What is done and what remains always make the whole.
use Prim.Native.Nat.{◌-◌}
use Rattle.events.specs.Sources.{characters_in}
use Rattle.events_rules.proofs.Runs.{Ran}
use Rattle.events.proofs.read_each.Given as goal

abbrev pub invariant-loop-p : goal.invariant-loop-p
invariant-loop-p l =
    Ran (characters_in l.source) 0 l.plus l.fn.reader l.initial.events l.p.0 l.p.1.0 l.p.1.1.0 l.events

abbrev pub decreases-loop-p : goal.decreases-loop-p
decreases-loop-p l = l.n - l.p.0
