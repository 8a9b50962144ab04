-- A character from its two bytes: the law by place.
use mathlib.Core.Path.{◌∙◌}
use Prim.Native.Nat.{◌+◌, ◌-◌, ◌*◌, ◌/◌, ◌%◌}
use native.Mathlib.Omega.{arith}
use Rattle.laws.proofs.Groups.{below_at}
use Rattle.capture.proofs.Facts.{in_bytes}
use Rattle.events.proofs.source.character_in.Goals as goal

pub returns : goal.returns
returns c = let bytes = c.args.bytes.now in
    let i = c.args.i in
    let t = below_at 256 bytes (λ j. (c.shared_slice_known-3-1.given j).fits) in
    c.ten_bits.ensures
    ∙ in_bytes bytes t i (10 * i / 8) (10 * i / 8 + 1) (6 - 10 * i % 8) (omega arith) (omega arith) (omega arith) c.requires.1
