-- What is stored and what remains make the whole run's results.
use mathlib.Core.Path.{refl, subst}
use mathlib.Core.Bool.{Bool}
use Prim.Native.Nat.{◌+◌}
use native.Mathlib.Omega.{arith}
use lib.Dec.{eqb}
use lib.ListN.{set}
use Rattle.character_rules.specs.Disparity.{disparity_of}
use Rattle.character_rules.proofs.RunLaws.{Reached, one_more, range_at}
use Rattle.run_reader.proofs.Halves.{top_is}
use Rattle.run_table.specs.Table.{table}
use borrow.Author.Rules.{rules}
use Rattle.run_reader.proofs.read_each.Goals as goal

pub half_of-result-requires : goal.half_of-result-requires
unfolding table
half_of-result-requires c =
    (refl, range_at c.args.characters.now c.loop-i.i c.requires.0 (search rules), c.loop-i.invariant.1)

pub loop-i-preserved : goal.loop-i-preserved
loop-i-preserved c =
    let l = c.loop-i in
    let cs = c.args.characters.now in
    let d = disparity_of c.args.plus in
    let old = c.args.results.now in
    let r = c.half_of-result.result in
    let low = c.half_of-result.ensures.1 in (
      subst (λ (b : Bool). Reached cs d old (l.i + 1) (set l.results l.i r) b) (top_is r low)
          (one_more cs d old l.i l.results (eqb l.p 1) r l.invariant.0 (search rules)
          (range_at cs l.i c.requires.0 (search rules)) c.requires.1 c.half_of-result.ensures.0),
      omega (arith, low),
    )
