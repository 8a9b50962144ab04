-- After i turns the first i bytes stand, and past them what stood there.
use mathlib.Core.Path.{ap, ap₂, ◌∙◌}
use mathlib.Core.List.{List, ◌++◌}
use Prim.Native.Nat.{ℕ}
use native.Mathlib.Omega.{arith}
use lib.ListN.{set, get_or}
use Rattle.std.proofs.lemmas.List.{drop_all, take_all, append-nil}
use Rattle.laws.proofs.Stores.{store_next}
use Rattle.retry_parts.proofs.lent.cover.Goals as goal

pub loop-i-preserved : goal.loop-i-preserved
loop-i-preserved c = let l = c.loop-i in
    ap (λ (x : List ℕ). set x l.i (get_or c.args.bytes.now l.i 0)) l.invariant
    ∙ store_next c.args.bytes.now c.args.run.now 0 l.i (omega arith) (omega arith)

pub returns : goal.returns
returns c = let l = c.loop-i in
    l.invariant
    ∙ ap₂ (λ (front past : List ℕ). front ++ past) (take_all l.i c.args.bytes.now (omega arith)) (drop_all l.i c.args.run.now (omega arith))
    ∙ append-nil c.args.bytes.now
