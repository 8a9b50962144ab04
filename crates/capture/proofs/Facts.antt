-- Small facts of the code's arithmetic, and a character by the byte that it begins in.
-- Assumes nothing.
use mathlib.Core.Path.{◌≡◌, sym, ap, ap₂, ◌∙◌, subst}
use mathlib.Core.List.{List}
use mathlib.Core.Bool.{false}
use Prim.Native.Nat.{ℕ, ◌+◌, ◌-◌, ◌*◌, ◌/◌, ◌%◌, ◌^◌, ◌≤◌, ◌<◌}
use native.Mathlib.Nat.{one-mul}
use native.Mathlib.Omega.{arith}
use lib.Dec.{T}
use lib.ListN.{length, get_or}
use lib.Pow.{shl_exact, pow_pos}
use Rattle.laws.specs.Groups.{all_below}
use Rattle.capture_rules.specs.Capture.{character_count, characters_of, legal}
use Rattle.capture_rules.proofs.Legal.{legal_one}
use Rattle.capture_rules.proofs.Places.{character_by_place}

-- 1 moved up z places, in 64 bits
pub one_up : (z : ℕ) → z ≤ 9 → 1 * 2 ^ z % 18446744073709551616 ≡ 2 ^ z
one_up z h = shl_exact {a = 1} 1 z 64 (omega arith) (omega arith) ∙ one-mul (2 ^ z)

pub one_up_pos : (z : ℕ) → z ≤ 9 → 0 < 1 * 2 ^ z % 18446744073709551616
one_up_pos z h = subst (λ (n : ℕ). 0 < n) (sym (one_up z h)) (pow_pos z)

-- the check finds this for the code's test: the test keeps no name in a proof, so that another number there is refused by the fact
pub one_over : (bytes : List ℕ) → length bytes ≤ 65535 → length bytes % 5 ≡ 1 → false ≡ legal bytes
one_over bytes h e = sym (legal_one bytes h e)

-- a character that begins in byte k, with so many bits of the next byte after it
pub in_bytes : (bytes : List ℕ) → T (all_below 256 bytes) → (i k next after : ℕ) → 10 * i + after ≡ 8 * k + 6 → next ≡ k + 1 → after ≤ 6
    → i < character_count (length bytes) → (get_or bytes k 0 * 256 + get_or bytes next 0) / 2 ^ (after % 8) % 1024 ≡ get_or (characters_of bytes) i 0
in_bytes bytes t i k next after e f h n =
    let first : k ≡ 10 * i / 8 = omega arith in
    let second : next ≡ 10 * i / 8 + 1 = omega arith in
    let left : after % 8 ≡ 6 - 10 * i % 8 = omega arith in
    ap (λ (z : ℕ). (get_or bytes k 0 * 256 + get_or bytes next 0) / 2 ^ z % 1024) left
    ∙ ap₂ (λ (x y : ℕ). (get_or bytes x 0 * 256 + get_or bytes y 0) / 2 ^ (6 - 10 * i % 8) % 1024) first second
    ∙ sym (character_by_place bytes t i n)
