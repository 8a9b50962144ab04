-- A character from its two bytes: the law by place. Past the last character stands 0.
use mathlib.Core.Path.{sym, ◌∙◌}
use Prim.Native.Nat.{◌+◌, ◌-◌, ◌*◌, ◌/◌, ◌%◌}
use native.Mathlib.Omega.{arith}
use lib.ListN.{get_or-eq_default}
use Rattle.laws.proofs.Groups.{below_at}
use Rattle.capture_rules.specs.Capture.{characters_of}
use Rattle.capture_rules.proofs.Packing.{characters_length}
use Rattle.capture.proofs.Facts.{in_bytes}
use Rattle.capture.proofs.character_of.Goals as goal

pub returns-then-capture-i : goal.returns-then-capture-i
returns-then-capture-i c = let bytes = c.args.capture.now in
    let long = characters_length bytes in
    sym (get_or-eq_default (characters_of bytes) 0 (omega arith))

pub returns-then-capture-k : goal.returns-then-capture-k
returns-then-capture-k c = let bytes = c.args.capture.now in
    let long = characters_length bytes in
    sym (get_or-eq_default (characters_of bytes) 0 (omega arith))

pub returns : goal.returns
returns c = let bytes = c.args.capture.now in
    let i = c.args.i in
    let t = below_at 256 bytes (λ j. (c.type_inv.capture j).fits) in
    c.ten_bits.ensures
    ∙ in_bytes bytes t i (i + i / 4) (i + i / 4 + 1) (6 - 2 * (i % 4)) (omega arith) (omega arith) (omega arith) (omega arith)
