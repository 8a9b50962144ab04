-- The arithmetic by place: a character from the two bytes that its bits lie in, a byte from the two characters, the closing bits from the last byte.
-- Assumes nothing.
use mathlib.Core.Path.{◌≡◌, refl, sym, ap, ap₂, ◌∙◌, subst}
use mathlib.Core.List.{List, [], ◌∷◌, ◌++◌, append_assoc, append-nil}
use Prim.Native.Nat.{ℕ, zero, suc, ◌+◌, ◌-◌, ◌*◌, ◌/◌, ◌%◌, ◌^◌, ◌≤◌, ◌<◌}
use native.Mathlib.Omega.{arith}
use lib.Dec.{T, eqb}
use lib.ListN.{length, take, drop, get_or, replicate, length-append, length-replicate, replicate-append-replicate}
use lib.Seq.{drop-drop, drop-cons, drop-length}
use Rattle.laws.specs.Bits.{bits}
use Rattle.laws.specs.Groups.{all_below, all_zero, bits_of, number, numbers}
use Rattle.laws.proofs.Bits.{number_bits, drop_bits}
use Rattle.laws.proofs.Groups.{get_or_below, length_bits_of, bits_of_append, bits_of_drop, get_or_numbers, numbers_front, window}
use Rattle.laws.proofs.Zeros.{bits_zero, zeros_bits}
use Rattle.capture_rules.specs.Capture.{character_count, characters_of, closing_bits, byte_count, pack_of}

-- the ten bits from bit 10 i on, which lie in two bytes
abbrev pub character_at : List ℕ → ℕ → ℕ
character_at bytes i = (get_or bytes (10 * i / 8) 0 * 256 + get_or bytes (10 * i / 8 + 1) 0) / 2 ^ (6 - 10 * i % 8) % 1024

-- the eight bits from bit 8 k on, which lie in two characters, with zero bits past the last
abbrev pub byte_at : List ℕ → ℕ → ℕ
byte_at cs k = (get_or cs (8 * k / 10) 0 * 1024 + get_or cs (8 * k / 10 + 1) 0) / 2 ^ (12 - 8 * k % 10) % 256

pub character_by_place : (bytes : List ℕ) → T (all_below 256 bytes) → (i : ℕ) → i < character_count (length bytes) → get_or (characters_of bytes) i 0 ≡ character_at bytes i
unfolding characters_of
character_by_place bytes t i h =
    let k = 10 * i / 8 in
    let o = 10 * i % 8 in
    let b : 10 * i ≡ 8 * k + o = omega arith in
    let p : o ≤ 6 = omega arith in
    get_or_numbers 10 (character_count (length bytes)) (bits_of 8 bytes) i h
    ∙ ap (λ (j : ℕ). number (take 10 (drop j (bits_of 8 bytes)))) b
    ∙ ap number (window 8 10 k o (6 - o) bytes (omega arith) (get_or_below 256 bytes (omega arith) t (k + 1)) (omega arith))
    ∙ number_bits 10 _

-- a zero behind the last changes no place
past : (cs : List ℕ) (i : ℕ) → get_or (cs ++ 0 ∷ []) i 0 ≡ get_or cs i 0
past [] zero = refl
past [] (suc i) = refl
past (c ∷ cs) zero = refl
past (c ∷ cs) (suc i) = past cs i

-- the zero bits to the end of the byte may as well be those of a character 0
filled_up : (cs : List ℕ) → pack_of cs ≡ numbers 8 (byte_count (length cs)) (bits_of 10 (cs ++ 0 ∷ []))
unfolding pack_of
filled_up cs =
    let z : ℕ = 8 * byte_count (length cs) - 10 * length cs in
    let ten : 10 ≡ z + (10 - z) = omega arith in
    let zeros : bits 10 0 ++ [] ≡ replicate z 0 ++ replicate (10 - z) 0 =
    append-nil (bits 10 0) ∙ bits_zero 10 ∙ ap (λ (n : ℕ). replicate n 0) ten ∙ sym (replicate-append-replicate z (10 - z) 0) in
    sym (numbers_front 8 (byte_count (length cs)) (bits_of 10 cs ++ replicate z 0) (replicate (10 - z) 0)
    (simp (length-append, length_bits_of, length-replicate) (omega arith)))
    ∙ ap (numbers 8 (byte_count (length cs))) (append_assoc (bits_of 10 cs) (replicate z 0) (replicate (10 - z) 0)
    ∙ ap (λ (l : List ℕ). bits_of 10 cs ++ l) (sym zeros) ∙ sym (bits_of_append 10 cs (0 ∷ [])))

pub byte_by_place : (cs : List ℕ) → T (all_below 1024 cs) → (k : ℕ) → k < byte_count (length cs) → get_or (pack_of cs) k 0 ≡ byte_at cs k
byte_by_place cs t k h =
    let i = 8 * k / 10 in
    let o = 8 * k % 10 in
    let b : 8 * k ≡ 10 * i + o = omega arith in
    let p : o ≤ 8 = omega arith in
    let l = length-append cs (0 ∷ []) in
    ap (λ (l : List ℕ). get_or l k 0) (filled_up cs)
    ∙ get_or_numbers 8 (byte_count (length cs)) (bits_of 10 (cs ++ 0 ∷ [])) k h
    ∙ ap (λ (j : ℕ). number (take 8 (drop j (bits_of 10 (cs ++ 0 ∷ []))))) b
    ∙ ap number (window 10 8 i o (12 - o) (cs ++ 0 ∷ []) (omega arith)
    (subst (λ (n : ℕ). n < 1024) (sym (past cs (i + 1))) (get_or_below 1024 cs (omega arith) t (i + 1))) (omega arith))
    ∙ number_bits 8 _
    ∙ ap₂ (λ (x y : ℕ). (x * 1024 + y) / 2 ^ (12 - o) % 256) (past cs i) (past cs (i + 1))

-- so many closing bits
abbrev pub closing_count : ℕ → ℕ
closing_count l = 8 * l % 10

-- the closing bits are the lowest of the last byte
pub closing_by_place : (bytes : List ℕ) → all_zero (closing_bits bytes) ≡ eqb (get_or bytes (length bytes - 1) 0 % 2 ^ closing_count (length bytes)) 0
unfolding closing_bits
closing_by_place [] = refl
closing_by_place (b ∷ bs) =
    let bytes = b ∷ bs in
    let l = length bs in
    let z = 8 * suc l % 10 in
    let last = get_or bytes l 0 in
    let p : z ≤ 8 = omega arith in
    let cut : drop l bytes ≡ last ∷ [] = drop-cons bytes l 0 (omega arith) ∙ ap (λ (r : List ℕ). last ∷ r) (drop-length bytes) in
    let n : 10 * character_count (suc l) ≡ 8 * l + (8 - z) = omega arith in
    let back : l ≡ suc l - 1 = omega arith in
    let e : 8 - z + z ≡ 8 = omega arith in
    let bits_left : drop (10 * character_count (suc l)) (bits_of 8 bytes) ≡ bits z last =
    ap (λ (j : ℕ). drop j (bits_of 8 bytes)) n
    ∙ sym (drop-drop (8 - z) (8 * l) (bits_of 8 bytes))
    ∙ ap (drop (8 - z)) (bits_of_drop 8 l bytes ∙ ap (bits_of 8) cut ∙ append-nil (bits 8 last))
    ∙ ap (λ (j : ℕ). drop (8 - z) (bits j last)) (sym e)
    ∙ drop_bits (8 - z) z last in
    ap all_zero bits_left ∙ zeros_bits z last ∙ ap (λ (j : ℕ). eqb (get_or bytes j 0 % 2 ^ z) 0) back
