-- After i turns the first i of the last characters stand, and past them what stood there.
use Rattle.std.specs.Prelude.{ℕ, ◌≡◌, ◌-◌, ◌*◌, ◌/◌, List, ◌++◌, length, set, take, drop}
use mathlib.Core.Path.{ap, ap₂, sym, ◌∙◌}
use native.Mathlib.Omega.{arith}
use Rattle.std.proofs.lemmas.List.{get_or-drop, length-drop, take-append-drop}
use Rattle.laws.proofs.Stores.{store_next}
use Rattle.capture_rules.specs.Capture.{characters_of}
use Rattle.capture_rules.proofs.Packing.{characters_length}
use Rattle.capture_unpacking.proofs.Facts.{filled}
use Rattle.capture_unpacking.proofs.store_characters.Goals as goal

pub loop-i-preserved : goal.loop-i-preserved
loop-i-preserved c = let l = c.loop-i in
    let all = characters_of c.args.capture.bytes.now in
    let at = length c.args.out.now / 4 * 4 in
    let e = characters_length c.args.capture.bytes.now in
    let long : length (drop at all) ≡ length all - at = length-drop at all in
    let back = c.split_at_mut-fours.ensures.back_len in
    ap₂ (λ (x : List ℕ) (v : ℕ). set x l.i v) l.invariant (c.character_of.ensures ∙ sym (get_or-drop at all l.i 0))
    ∙ store_next (drop at all) c.split_at_mut-fours.result.1.now 0 l.i (omega arith) (omega arith)

pub returns : goal.returns
returns c = let l = c.loop-i in
    let all = characters_of c.args.capture.bytes.now in
    let at = length c.args.out.now / 4 * 4 in
    let e = characters_length c.args.capture.bytes.now in
    let long : length (drop at all) ≡ length all - at = length-drop at all in
    let back = c.split_at_mut-fours.ensures.back_len in
    ap₂ (λ (x y : List ℕ). x ++ y) (c.store_fours.ensures ∙ ap (λ (n : ℕ). take n all) c.split_at_mut-fours.ensures.front_len)
    (filled (drop at all) c.split_at_mut-fours.result.1.now l.rest l.i l.invariant (omega arith) (omega arith))
    ∙ take-append-drop at all
