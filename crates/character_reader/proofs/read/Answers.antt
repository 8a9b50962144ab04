-- Each way out by the tests that led there; the packed result is the rules' own.
use mathlib.Core.Bool.{not}
use mathlib.Core.Path.{◌≡◌, sym, ◌∙◌, ap}
use mathlib.Core.Bool.{Bool}
use Prim.Native.Nat.{ℕ, ◌%◌}
use native.Mathlib.Omega.{arith}
use lib.IntN.{ℤ}
use mir.Facts.{to_z-of_z}
use Rattle.laws.proofs.Bools.{true_t}
use Rattle.character_rules.specs.Disparity.{is_plus, is_disparity, disparity_of}
use Rattle.character_rules.specs.Reading.{reading}
use Rattle.character_rules.specs.Results.{packed, unpacked}
use Rattle.character_rules.proofs.Disparities.{by_sign}
use Rattle.character_rules.proofs.Packed.{unpacked_reading}
use Rattle.character_rules.proofs.Laws.{reading_far, reading_bad}
use Rattle.disparity.proofs.Signed.{told_none, told_disparity}
use Rattle.character_reader.proofs.read.Goals as goal

pub returns-then-character-gt1023 : goal.returns-then-character-gt1023
returns-then-character-gt1023 c = sym (reading_far c.args.character c.args.disparity c.if-character-gt1023.true)

pub returns-then-not-is_disparity : goal.returns-then-not-is_disparity
returns-then-not-is_disparity c = sym (reading_bad c.args.character c.args.disparity (omega arith)
    (told_none _ c.args.disparity _ (to_z-of_z c.ranges.disparity) c.is_disparity.ensures (ap not c.if-not-is_disparity.true)))

pub returns : goal.returns
returns c =
    let d = c.args.disparity in
    let n = c.args.character in
    let low : n % 1024 ≡ n = omega arith in
    let t = true_t (is_disparity d)
    (told_disparity _ d _ (to_z-of_z c.ranges.disparity) c.is_disparity.ensures (ap not c.if-not-is_disparity.false)) in
    c.unpack_result.ensures
    ∙ ap unpacked (c.look_up-packed.ensures
    ∙ ap (λ (k : ℕ). packed (reading k (disparity_of c.is_plus.result))) low
    ∙ ap (λ (p : Bool). packed (reading n (disparity_of p))) (c.is_plus.ensures ∙ ap is_plus (to_z-of_z c.ranges.disparity))
    ∙ ap (λ (z : ℤ). packed (reading n z)) (by_sign d t))
    ∙ unpacked_reading n d (omega arith) t
