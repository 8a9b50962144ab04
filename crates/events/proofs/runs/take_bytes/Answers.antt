-- Each clean data symbol is one byte more.
use native.Mathlib.Omega.{arith}
use mathlib.Core.Path.{sym, subst}
use Prim.Native.Nat.{ℕ, ◌+◌, ◌%◌}
use lib.Dec.{leb}
use lib.ListN.{set}
use Rattle.laws.proofs.Groups.{get_or_below}
use Rattle.capture_rules.proofs.Packing.{characters_below, characters_length}
use Rattle.events_rules.proofs.Feeding.{Fed, fed_none, fed_one}
use Rattle.events.specs.Sources.{characters_in}
use Rattle.events.proofs.runs.take_bytes.Goals as goal

pub loop-at-init : goal.loop-at-init
loop-at-init c =
    let a = c.args in
    let from = a.from in
    let long = characters_length a.source.now.capture.bytes.now in
    fed_none (characters_in a.source.now) a.until from.at from.plus from.register a.events.now (omega arith) c.requires.2

pub loop-at-preserved : goal.loop-at-preserved
loop-at-preserved c =
    let l = c.loop-at in
    let a = c.args in
    let from = a.from in
    let cs = characters_in a.source.now in
    let n = c.result_at-result.result in
    let low = get_or_below 1024 cs (omega arith) (characters_below a.source.now.capture.bytes.now) l.at in
    let long = characters_length a.source.now.capture.bytes.now in
    let room = l.invariant.room in
    let fed =
    fed_one cs a.until from.at from.plus from.register a.events.now (omega arith) l.at l.plus l.register
    l.events n l.invariant c.loop-at-test.true low (omega arith) c.result_at-result.ensures (omega arith) in
    subst (λ (k : ℕ). Fed cs a.until from.at from.plus from.register a.events.now (l.at + 1) (leb 2048 n) c.step-register.result
    (set l.events l.at (262144 + k))) (sym c.from.ensures)
    (subst (λ (x : ℕ). Fed cs a.until from.at from.plus from.register a.events.now (l.at + 1) (leb 2048 n) x (set l.events l.at (262144 + n % 256)))
    (sym c.step-register.ensures) fed)
