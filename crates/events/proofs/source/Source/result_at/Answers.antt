-- A character is below 1,024, and the table holds what the rules say of it.
use mathlib.Core.Path.{ap, ◌∙◌}
use Prim.Native.Nat.{ℕ, ◌%◌, ◌<◌}
use native.Mathlib.Nat.{mod-eq_of_lt}
use native.Mathlib.Omega.{arith}
use lib.ListN.{get_or}
use Rattle.laws.proofs.Groups.{get_or_below}
use Rattle.character_rules.specs.Disparity.{disparity_of}
use Rattle.character_rules.specs.Reading.{reading}
use Rattle.character_rules.specs.Results.{packed}
use Rattle.capture_rules.proofs.Packing.{characters_below}
use Rattle.capture.proofs.Taken.{legal_short}
use Rattle.events.specs.Sources.{characters_in}
use Rattle.events.proofs.source.Source.result_at.Goals as goal

pub character_in-requires : goal.character_in-requires
character_in-requires c = (legal_short c.args.self.now.capture, c.requires)

pub returns : goal.returns
returns c =
    let s = c.args.self.now in
    let i = c.args.i in
    let low : get_or (characters_in s) i 0 < 1024 = get_or_below 1024 (characters_in s) (omega arith) (characters_below s.capture.bytes.now) i in
    c.look_up.ensures
    ∙ ap (λ (k : ℕ). packed (reading k (disparity_of c.args.plus))) (ap (λ (k : ℕ). k % 1024) c.character_in.ensures ∙ mod-eq_of_lt low)
