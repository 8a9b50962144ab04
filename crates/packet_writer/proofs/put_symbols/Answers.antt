-- After i turns the first i symbols are written.
use mathlib.Core.Path.{refl, ◌∙◌}
use mathlib.Core.Bool.{false}
use Prim.Native.Nat.{◌<◌}
use native.Mathlib.Omega.{arith}
use lib.ListN.{length}
use Rattle.symbol.specs.declared.Symbol.{Symbol}
use Rattle.character_rules.specs.Demand.{can_write}
use Rattle.packet_writer.proofs.Laws.{wrote_none}
use Rattle.packet_writer.proofs.Turns.{count_at, disparity_at, one_turn, all_at}
use Rattle.packet_writer.proofs.put_symbols.Goals as goal

abbrev none : Symbol
none = record { byte = 0; control = false }

pub loop-s-init : goal.loop-s-init
loop-s-init c = (omega arith, wrote_none _ _, refl)

pub put-w-requires : goal.put-w-requires
put-w-requires c =
    let a = c.args in
    let l = c.loop-s in
    let xs = a.symbols.now in
    let h : l.s-index < length xs = omega (arith, c.loop-s-test.true) in
    let at = count_at a.from xs a.out.now l.s-index l.out l.w l.invariant.0 l.invariant.1 in (
      omega (arith, h, c.requires.0, at, l.invariant.2),
      all_at can_write xs l.s-index none c.requires.1 h,
      disparity_at a.from xs a.out.now l.s-index l.out l.w c.requires.2 l.invariant.1,
    )

pub loop-s-preserved : goal.loop-s-preserved
loop-s-preserved c =
    let a = c.args in
    let l = c.loop-s in
    let xs = a.symbols.now in
    let h : l.s-index < length xs = omega (arith, c.loop-s-test.true) in (
      omega (arith, h),
      one_turn a.from xs a.out.now l.s-index none h c.requires.0 l.invariant.1 c.put-w.ensures,
      c.put-w.auto.out ∙ l.invariant.2,
    )
