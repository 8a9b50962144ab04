-- What is done and what remains always make the whole.
use mathlib.Core.Path.{◌≡◌, subst}
use Prim.Native.Nat.{ℕ}
use native.Mathlib.Omega.{arith}
use Rattle.capture_rules.proofs.Packing.{characters_length}
use Rattle.events.specs.Sources.{characters_in, places_in}
use Rattle.events_rules.proofs.Runs.{Ran, ran_none, ran_then}
use Rattle.events.proofs.read_each.Goals as goal

pub loop-p-init : goal.loop-p-init
loop-p-init c = let a = c.args in ran_none (characters_in a.source.now) 0 a.plus a.reader a.events.now (omega arith) c.requires.1

pub invariant_of-p : goal.invariant_of-p
invariant_of-p c = record { rule = c.loop-p.invariant.rule }

pub loop-p-preserved : goal.loop-p-preserved
loop-p-preserved c = ran_then (characters_in c.args.source.now) c.loop-p.invariant c.read_some-p.ensures.0

pub invariant_of-p-2 : goal.invariant_of-p-2
invariant_of-p-2 c = record { rule = c.loop-p.invariant.rule }

pub returns : goal.returns
returns c =
    let l = c.loop-p in
    let a = c.args in
    let long = characters_length a.source.now.capture.bytes.now in
    let most = l.invariant.place in
    let e : l.p.0 ≡ places_in a.source.now = omega arith in
    subst (λ (k : ℕ). Ran (characters_in a.source.now) 0 a.plus a.reader a.events.now k l.p.1.0 l.p.1.1.0 l.events)
    e l.invariant
