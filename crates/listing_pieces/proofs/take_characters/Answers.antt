-- After i turns the first i characters stand, and past them what stood there.
use mathlib.Core.Path.{sym, ap, ◌∙◌}
use mathlib.Core.List.{List}
use Prim.Native.Nat.{ℕ}
use native.Mathlib.Omega.{arith}
use lib.ListN.{drop, set, get_or, length-set, length-drop}
use lib.Seq.{get_or-drop}
use Rattle.laws.proofs.Stores.{store_next}
use Rattle.capture_rules.specs.Capture.{characters_of}
use Rattle.capture_rules.proofs.Packing.{characters_length}
use Rattle.listing_pieces.proofs.take_characters.Goals as goal

pub loop-i-preserved : goal.loop-i-preserved
loop-i-preserved c = let l = c.loop-i in
    let all = characters_of c.args.capture.bytes.now in
    let result = drop c.args.place all in
    let e = characters_length c.args.capture.bytes.now in
    let d = length-drop c.args.place all in (
      ap (λ (v : ℕ). set l.out l.i v) (c.character_of.ensures ∙ sym (get_or-drop c.args.place all l.i 0))
          ∙ ap (λ (x : List ℕ). set x l.i (get_or result l.i 0)) l.invariant.0
          ∙ store_next result c.args.out.now 0 l.i (omega arith) (omega arith),
      simp length-set l.invariant.1,
    )
