-- Packing and unpacking, from the definition in bits: what is packed, that nothing else is, and that each undoes the other.
-- Assumes nothing.
use mathlib.Core.Path.{◌≡◌, refl, sym, ap, ap₂, ◌∙◌, subst}
use mathlib.Core.Bool.{Bool, not, ◌&&◌}
use mathlib.Core.List.{List, [], ◌++◌, append-nil}
use Prim.Native.Nat.{ℕ, zero, suc, ◌+◌, ◌-◌, ◌*◌, ◌/◌, ◌%◌, ◌≤◌, ◌<◌}
use borrow.Author.Tests.{leb-true, leb-false}
use native.Mathlib.Omega.{arith}
use lib.Dec.{T, eqb, eqb→eq, ltb, leb, leb→le, le→leb, T_not, not_T}
use lib.ListN.{length, drop, replicate, length-append, length-drop, length-replicate, take-append-drop}
use lib.Seq.{take_all, drop_at}
use Rattle.laws.specs.Groups.{all_below, all_zero, bits_of, numbers}
use Rattle.laws.proofs.Cases.{by_test}
use Rattle.laws.proofs.Bools.{and_left, and_right, and_both}
use Rattle.laws.proofs.Groups.{all_append, all_replicate, length_bits_of, bits_of_below, length_numbers, bits_of_numbers, numbers_bits_of, numbers_below}
use Rattle.laws.proofs.Zeros.{zeros_line}
use Rattle.capture_rules.specs.Capture.{Packed, character_count, characters_of, closing_bits, legal, byte_count, pack_of}

-- the characters' bits and the zeros to the end of the byte
abbrev filled : List ℕ → List ℕ
filled cs = bits_of 10 cs ++ replicate (8 * byte_count (length cs) - 10 * length cs) 0

length_filled : (cs : List ℕ) → length (filled cs) ≡ 8 * byte_count (length cs)
length_filled cs = simp (length-append, length_bits_of, length-replicate) (omega arith)

filled_below : (cs : List ℕ) → T (all_below 2 (filled cs))
filled_below cs =
    all_append (λ (b : ℕ). ltb b 2) (bits_of 10 cs) _ (bits_of_below 10 cs)
    (all_replicate (λ (b : ℕ). ltb b 2) (8 * byte_count (length cs) - 10 * length cs) 0 tt)

-- the number of bytes
pub pack_length : (cs : List ℕ) → length (pack_of cs) ≡ byte_count (length cs)
unfolding pack_of
pack_length cs = length_numbers 8 (byte_count (length cs)) (filled cs)

pub pack_bytes : (cs : List ℕ) → T (all_below 256 (pack_of cs))
unfolding pack_of
pack_bytes cs = let l = length_filled cs in numbers_below 8 (byte_count (length cs)) (filled cs) (filled_below cs) (omega arith)

pack_line : (cs : List ℕ) → bits_of 8 (pack_of cs) ≡ filled cs
unfolding pack_of
pack_line cs =
    let l = length_filled cs in
    bits_of_numbers 8 (byte_count (length cs)) (filled cs) (filled_below cs) (omega arith) ∙ take_all (8 * byte_count (length cs)) (filled cs) (omega arith)

-- what packing gives is the characters packed
pub pack_packed : (cs : List ℕ) → Packed cs (pack_of cs)
pack_packed cs = record { closing = 8 * byte_count (length cs) - 10 * length cs; fewer = omega arith; line = pack_line cs }

-- no characters fill 5 m + 1 bytes and leave fewer than eight bits over
never_one : (l n c : ℕ) → 8 * l ≡ 10 * n + c → c < 8 → l % 5 ≡ 1 → ⊥
never_one l n c e h r =
    let q : l ≡ 5 * (l / 5) + 1 = omega arith in
    by_test (leb n (4 * (l / 5)))
    (λ t. let k = leb-true n (4 * (l / 5)) t in omega arith)
    (λ f. let k = leb-false n (4 * (l / 5)) f in omega arith)

-- any other number of bytes leaves fewer than eight bits over
fewer_over : (l : ℕ) → (l % 5 ≡ 1 → ⊥) → 8 * l - 10 * character_count l < 8
fewer_over l h = go (l % 5) refl
  where
    go : (r : ℕ) → l % 5 ≡ r → 8 * l - 10 * character_count l < 8
    go zero e = let q : 8 * l / 10 ≡ 4 * (l / 5) = omega arith in omega arith
    go (suc zero) e = absurd (h e)
    go (suc (suc zero)) e = let q : 8 * l / 10 ≡ 4 * (l / 5) + 1 = omega arith in omega arith
    go (suc (suc (suc zero))) e = let q : 8 * l / 10 ≡ 4 * (l / 5) + 2 = omega arith in omega arith
    go (suc (suc (suc (suc zero)))) e = let q : 8 * l / 10 ≡ 4 * (l / 5) + 3 = omega arith in omega arith
    go (suc (suc (suc (suc (suc r))))) e = absurd (omega arith)

-- the three tests of a capture
abbrev short : List ℕ → Bool
short bytes = leb (length bytes) 65535

abbrev whole : List ℕ → Bool
whole bytes = not (eqb (length bytes % 5) 1)

abbrev clean : List ℕ → Bool
clean bytes = all_zero (closing_bits bytes)

module _ (cs bytes : List ℕ) (p : Packed cs bytes) where
  -- the lengths of characters packed
  pub packed_sizes : 8 * length bytes ≡ 10 * length cs + p.closing
  packed_sizes =
      sym (length_bits_of 8 bytes) ∙ ap length p.line ∙ length-append (bits_of 10 cs) (replicate p.closing 0)
      ∙ ap₂ ◌+◌ (length_bits_of 10 cs) (length-replicate p.closing 0)

  pub packed_count : character_count (length bytes) ≡ length cs
  packed_count = let s = packed_sizes in let f = p.fewer in omega arith

  -- no other bytes are these characters packed
  pub packed_only : T (all_below 256 bytes) → bytes ≡ pack_of cs
  unfolding pack_of
  packed_only t =
      let s = packed_sizes in let f = p.fewer in
      let n : length bytes ≡ byte_count (length cs) = omega arith in
      let z : p.closing ≡ 8 * byte_count (length cs) - 10 * length cs = omega arith in
      sym (numbers_bits_of 8 bytes [] t)
      ∙ ap₂ (numbers 8) n (append-nil (bits_of 8 bytes) ∙ p.line ∙ ap (λ (j : ℕ). bits_of 10 cs ++ replicate j 0) z)

  -- and no other characters are packed to these bytes
  pub packed_characters : T (all_below 1024 cs) → characters_of bytes ≡ cs
  unfolding characters_of
  packed_characters t = ap₂ (numbers 10) packed_count p.line ∙ numbers_bits_of 10 cs (replicate p.closing 0) t

  packed_zeros : T (all_zero (closing_bits bytes))
  unfolding closing_bits
  packed_zeros =
      subst (λ (l : List ℕ). T (all_zero l))
      (sym (ap₂ drop (ap (λ (n : ℕ). 10 * n) packed_count) p.line ∙ drop_at (bits_of 10 cs) (replicate p.closing 0) (10 * length cs) (length_bits_of 10 cs)))
      (all_replicate (eqb 0) p.closing 0 tt)

  -- characters packed into at most 65,535 bytes are a legal capture
  pub packed_legal : length bytes ≤ 65535 → T (legal bytes)
  unfolding legal
  packed_legal h =
      and_both (short bytes) (whole bytes && clean bytes) (le→leb (length bytes) 65535 h)
      (and_both (whole bytes) (clean bytes) (not_T (eqb (length bytes % 5) 1)
      (λ t. never_one (length bytes) (length cs) p.closing packed_sizes p.fewer (eqb→eq (length bytes % 5) 1 t))) packed_zeros)

module _ (bytes : List ℕ) (l : T (legal bytes)) where
  pub legal_size : length bytes ≤ 65535
  unfolding legal
  legal_size = leb→le (length bytes) 65535 (and_left (short bytes) (whole bytes && clean bytes) l)

  pub legal_length : length bytes % 5 ≡ 1 → ⊥
  unfolding legal
  legal_length e =
      T_not (eqb (length bytes % 5) 1) (and_left (whole bytes) (clean bytes) (and_right (short bytes) (whole bytes && clean bytes) l))
      (subst (λ (n : ℕ). T (eqb n 1)) (sym e) tt)

  legal_zeros : T (all_zero (closing_bits bytes))
  unfolding legal
  legal_zeros = and_right (whole bytes) (clean bytes) (and_right (short bytes) (whole bytes && clean bytes) l)

  closing_line : closing_bits bytes ≡ replicate (8 * length bytes - 10 * character_count (length bytes)) 0
  unfolding closing_bits
  closing_line =
      zeros_line (closing_bits bytes) legal_zeros ∙ ap (λ (n : ℕ). replicate n 0) (length-drop (10 * character_count (length bytes)) (bits_of 8 bytes)
      ∙ ap (λ (n : ℕ). n - 10 * character_count (length bytes)) (length_bits_of 8 bytes))

  -- a legal capture is its characters packed
  pub legal_packed : Packed (characters_of bytes) bytes
  unfolding characters_of closing_bits
  legal_packed =
      let n = character_count (length bytes) in
      let b = length_bits_of 8 bytes in
      record {
        closing = 8 * length bytes - 10 * n;
        fewer = fewer_over (length bytes) legal_length;
        line = sym (take-append-drop (10 * n) (bits_of 8 bytes)) ∙ ap₂ ◌++◌ (sym (bits_of_numbers 10 n (bits_of 8 bytes) (bits_of_below 8 bytes) (omega arith))) closing_line;
      }

-- THE LAWS. Unpacking what was packed gives the characters again
pub unpack_pack : (cs : List ℕ) → T (all_below 1024 cs) → characters_of (pack_of cs) ≡ cs
unpack_pack cs t = packed_characters cs (pack_of cs) (pack_packed cs) t

-- packing the characters of a legal capture gives its bytes again
pub pack_unpack : (bytes : List ℕ) → T (all_below 256 bytes) → T (legal bytes) → pack_of (characters_of bytes) ≡ bytes
pack_unpack bytes t l = sym (packed_only (characters_of bytes) bytes (legal_packed bytes l) t)

-- what is packed is a legal capture
pub pack_legal : (cs : List ℕ) → length cs ≤ 52428 → T (legal (pack_of cs))
pack_legal cs h = let e = pack_length cs in packed_legal cs (pack_of cs) (pack_packed cs) (omega arith)

-- a capture's characters: their number, and that each is one
pub characters_length : (bytes : List ℕ) → length (characters_of bytes) ≡ character_count (length bytes)
unfolding characters_of
characters_length bytes = length_numbers 10 (character_count (length bytes)) (bits_of 8 bytes)

pub characters_below : (bytes : List ℕ) → T (all_below 1024 (characters_of bytes))
unfolding characters_of
characters_below bytes = let b = length_bits_of 8 bytes in numbers_below 10 (character_count (length bytes)) (bits_of 8 bytes) (bits_of_below 8 bytes) (omega arith)
