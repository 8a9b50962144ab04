-- What a packet that is not refused has passed.
-- Assumes nothing.
use mathlib.Core.Path.{◌≡◌}
use mathlib.Core.Bool.{Bool, true, not}
use mathlib.Core.List.{List}
use Prim.Native.Nat.{ℕ, ◌+◌, ◌≤◌}
use borrow.Author.Tests.{ltb-false, not-true, not-false}
use lib.Dec.{T, eqb, ltb}
use lib.IntN.{ℤ}
use lib.ListN.{length}
use Rattle.laws.proofs.Bools.{T_true}
use Rattle.laws.proofs.Cases.{first_true, second_true}
use Rattle.refusal.specs.Order.{Check, refusal_of}
use Rattle.refusal.proofs.Outcomes.{passed, numbered, has_passed}
use Rattle.segment_size.specs.Sizes.{size_allowed}
use Rattle.character_rules.specs.Disparity.{is_disparity}
use Rattle.packet_rules.specs.Packets.{in_data, in_priority, retry, packet_checks}

all_of : (cs : List Check) → T (numbered cs) → refusal_of cs ≡ 0 → passed cs ≡ true
all_of cs m q = T_true (passed cs) (has_passed cs m q)

pub data_passed : (c : ℕ) (bytes : List ℕ) (bad : Bool) (d : ℤ) (room : ℕ) → refusal_of (packet_checks 0 (in_data c bytes bad) d room) ≡ 0
    → (is_disparity d ≡ true) × (c ≤ 255) × (length bytes + 6 ≤ room)
data_passed c bytes bad d room q =
    let n = length bytes in
    let one = all_of (packet_checks 0 (in_data c bytes bad) d room) tt q in
    let two = second_true (not (not (is_disparity d))) _ one in
    let three = second_true (not (ltb 255 c)) _ two in
    let four = second_true (not (eqb n 0)) _ three in (
      not-false (is_disparity d) (not-true (not (is_disparity d)) (first_true (not (not (is_disparity d))) _ one)),
      ltb-false 255 c (not-true (ltb 255 c) (first_true (not (ltb 255 c)) _ two)),
      ltb-false room (n + 6) (not-true (ltb room (n + 6)) (first_true (not (ltb room (n + 6))) _ four)),
    )

pub priority_passed :
    (s c g : ℕ) (bytes : List ℕ) (bad : Bool) (d : ℤ) (room : ℕ) → refusal_of (packet_checks s (in_priority c g bytes bad) d room) ≡ 0
    → (is_disparity d ≡ true) × (c ≤ 15) × (g ≤ 15) × (length bytes + 6 ≤ room)
priority_passed s c g bytes bad d room q =
    let n = length bytes in
    let one = all_of (packet_checks s (in_priority c g bytes bad) d room) tt q in
    let two = second_true (not (not (is_disparity d))) _ one in
    let three = second_true (not (ltb 15 c)) _ two in
    let four = second_true (not (ltb 15 g)) _ three in
    let five = second_true (not (not (size_allowed s))) _ four in
    let six = second_true (not (ltb s n)) _ five in
    let seven = second_true (not (eqb n 0)) _ six in (
      not-false (is_disparity d) (not-true (not (is_disparity d)) (first_true (not (not (is_disparity d))) _ one)),
      ltb-false 15 c (not-true (ltb 15 c) (first_true (not (ltb 15 c)) _ two)),
      ltb-false 15 g (not-true (ltb 15 g) (first_true (not (ltb 15 g)) _ three)),
      ltb-false room (n + 6) (not-true (ltb room (n + 6)) (first_true (not (ltb room (n + 6))) _ seven)),
    )

pub lmp_passed : (nack : Bool) (n : ℕ) (d : ℤ) (room : ℕ) → refusal_of (packet_checks 0 (retry nack n) d room) ≡ 0
    → (is_disparity d ≡ true) × (n ≤ 15) × (4 ≤ room)
lmp_passed nack n d room q =
    let one = all_of (packet_checks 0 (retry nack n) d room) tt q in
    let two = second_true (not (not (is_disparity d))) _ one in
    let three = second_true (not (ltb 15 n)) _ two in (
      not-false (is_disparity d) (not-true (not (is_disparity d)) (first_true (not (not (is_disparity d))) _ one)),
      ltb-false 15 n (not-true (ltb 15 n) (first_true (not (ltb 15 n)) _ two)),
      ltb-false room 4 (not-true (ltb room 4) (first_true (not (ltb room 4)) _ three)),
    )
