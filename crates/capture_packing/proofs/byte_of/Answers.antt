-- A byte from its two characters: the law by place.
use mathlib.Core.Path.{sym, ap₂, ◌∙◌}
use Prim.Native.Nat.{ℕ, ◌+◌, ◌-◌, ◌*◌, ◌/◌, ◌%◌, ◌^◌}
use Rattle.laws.proofs.Bools.{true_t}
use Rattle.capture_rules.proofs.Places.{byte_by_place}
use Rattle.capture_packing.proofs.byte_of.Goals as goal

pub returns : goal.returns
returns c = ap₂ (λ (x y : ℕ). (x * 1024 + y) / 2 ^ (12 - 8 * c.args.k % 10) % 256) c.character_or_zero.ensures c.character_or_zero-2.ensures
    ∙ sym (byte_by_place c.args.characters.now (true_t _ c.requires.0) c.args.k c.requires.2)
