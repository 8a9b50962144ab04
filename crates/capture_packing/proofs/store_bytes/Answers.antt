-- After k turns the first k bytes stand, and past them what stood there.
use mathlib.Core.Path.{ap, ap₂, ◌∙◌}
use mathlib.Core.List.{List, ◌++◌}
use Prim.Native.Nat.{ℕ}
use native.Mathlib.Omega.{arith}
use lib.ListN.{set, get_or}
use Rattle.std.proofs.lemmas.List.{drop_all, take_all, append-nil}
use Rattle.laws.proofs.Stores.{store_next}
use Rattle.capture_rules.specs.Capture.{pack_of}
use Rattle.capture_rules.proofs.Packing.{pack_length}
use Rattle.capture_packing.proofs.store_bytes.Goals as goal

pub loop-k-preserved : goal.loop-k-preserved
loop-k-preserved c = let l = c.loop-k in
    let result = pack_of c.args.characters.now in
    let e = pack_length c.args.characters.now in
    ap (λ (v : ℕ). set l.out l.k v) c.byte_of.ensures ∙ ap (λ (x : List ℕ). set x l.k (get_or result l.k 0)) l.invariant
    ∙ store_next result c.args.out.now 0 l.k (omega arith) (omega arith)

pub returns : goal.returns
returns c = let l = c.loop-k in
    let result = pack_of c.args.characters.now in
    let e = pack_length c.args.characters.now in
    l.invariant
    ∙ ap₂ (λ (front past : List ℕ). front ++ past) (take_all l.k result (omega arith)) (drop_all l.k c.args.out.now (omega arith))
    ∙ append-nil result
