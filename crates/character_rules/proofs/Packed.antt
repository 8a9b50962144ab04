-- A packed result, taken apart, is the result again; and what a run needs of it.
-- Assumes nothing.
use mathlib.Core.Path.{◌≡◌, refl, sym, ◌∙◌, ap, subst}
use mathlib.Core.Bool.{Bool, true, false}
use mathlib.Core.Option.{Option, none, some}
use Prim.Native.Nat.{ℕ, ◌+◌, ◌*◌, ◌/◌, ◌%◌, ◌<◌, ◌≤◌}
use native.Mathlib.Omega.{arith}
use lib.Dec.{T, eqb, leb}
use lib.IntN.{ℤ, neg_ℤ}
use borrow.Author.Tests.{eq-eqb, le-leb, lt-leb}
use Rattle.laws.proofs.Bools.{T_true}
use Rattle.symbol.specs.Symbols.{data_symbol}
use Rattle.symbol.specs.declared.Symbol.{Symbol}
use Rattle.character_rules.specs.Disparity.{is_plus, is_disparity, disparity_of}
use Rattle.character_rules.specs.Blocks.{closing}
use Rattle.character_rules.specs.Answers.{Reading, clean, wrong_disparity, invalid}
use Rattle.character_rules.specs.Reading.{symbols, first_with, result, reading}
use Rattle.character_rules.specs.Results.{mark, packed, packed_symbol, packed_disparity, unpacked, new_disparity, after_one}
use Rattle.character_rules.proofs.Disparities.{opposite, by_sign, closing_disparity}
use Rattle.character_rules.proofs.Laws.{reading_done}
use Rattle.character_rules.proofs.Found.{found}

pub mark_low : (b : Bool) → mark b ≤ 1
mark_low true = omega arith
mark_low false = omega arith

pub mark_is : (b : Bool) → eqb (mark b) 1 ≡ b
mark_is true = refl
mark_is false = refl

-- ---- the four parts of a packed number

abbrev joined : ℕ → Bool → ℕ → Bool → ℕ
joined b k v p = b + 256 * mark k + 512 * (v + 4 * mark p)

module _ (b : ℕ) (k : Bool) (v : ℕ) (p : Bool) (hb : b < 256) (hv : v < 4) where
  part_byte : joined b k v p % 256 ≡ b
  part_byte = omega (arith, mark_low k, mark_low p)

  part_control : joined b k v p / 256 % 2 ≡ mark k
  part_control = omega (arith, mark_low k, mark_low p)

  part_violation : joined b k v p / 512 % 4 ≡ v
  part_violation = omega (arith, mark_low k, mark_low p)

  part_plus : joined b k v p / 2048 % 2 ≡ mark p
  part_plus = omega (arith, mark_low k, mark_low p)

  part_symbol : packed_symbol (joined b k v p) ≡ record { byte = b; control = k }
  part_symbol =
      let x = part_byte in
      let y : eqb (joined b k v p / 256 % 2) 1 ≡ k = ap (λ (n : ℕ). eqb n 1) part_control ∙ mark_is k in
      λ i. record { byte = x i; control = y i }

  part_disparity : packed_disparity (joined b k v p) ≡ disparity_of p
  part_disparity = ap disparity_of (ap (λ (n : ℕ). eqb n 1) part_plus ∙ mark_is p)

-- the highest part alone reaches 2,048
high : (b : ℕ) (k : Bool) (v : ℕ) (p : Bool) → b < 256 → v < 4 → leb 2048 (joined b k v p) ≡ p
high b k v true hb hv = le-leb 2048 (joined b k v true) (omega (arith, mark_low k))
high b k v false hb hv = lt-leb 2048 (joined b k v false) (omega (arith, mark_low k))

-- a number with no violation and no control mark is clean data
pub unpacked_data : (n : ℕ) → n % 2048 < 256 → unpacked n ≡ clean (data_symbol (n % 256)) (packed_disparity n)
unfolding unpacked
unpacked_data n h =
    let a : n / 512 % 4 ≡ 0 = omega arith in
    let b : n / 256 % 2 ≡ 0 = omega arith in
    rw (eq-eqb (n / 512 % 4) 0 a) (ap (λ (x : Bool). clean (record { byte = n % 256; control = x }) (packed_disparity n)) (ap (λ (y : ℕ). eqb y 1) b))

-- ---- what an answer of the reader holds: a byte and a disparity

pub data Sound : Reading → Type 0 where
  sound_clean : (s : Symbol) (d : ℤ) → s.byte < 256 → T (is_disparity d) → Sound (clean s d)
  sound_wrong : (s : Symbol) (d : ℤ) → s.byte < 256 → T (is_disparity d) → Sound (wrong_disparity s d)
  sound_invalid : (d : ℤ) → T (is_disparity d) → Sound (invalid d)

sound_result : (c : ℕ) (d : ℤ) (o p : Option Symbol) → T (is_disparity d) → first_with symbols c d ≡ o → first_with symbols c (neg_ℤ d) ≡ p → Sound (result d o p)
sound_result c d (some s) p t e f = sound_clean s (closing s d) (found c d s e).0 (closing_disparity s d t)
sound_result c d none (some s) t e f = sound_wrong s (closing s (neg_ℤ d)) (found c (neg_ℤ d) s f).0 (closing_disparity s (neg_ℤ d) (opposite d t))
sound_result c d none none t e f = sound_invalid d t

module _ (c : ℕ) (d : ℤ) (h : c ≤ 1023) (t : T (is_disparity d)) where
  sound : Sound (reading c d)
  sound =
      subst Sound (sym (reading_done c d h (T_true (is_disparity d) t)))
      (sound_result c d (first_with symbols c d) (first_with symbols c (neg_ℤ d)) t refl refl)

back : (r : Reading) → Sound r → unpacked (packed r) ≡ r
unfolding packed unpacked
back _ (sound_clean s d h t) =
    simp (
      part_violation s.byte s.control 0 (is_plus d) h (omega arith),
      part_symbol s.byte s.control 0 (is_plus d) h (omega arith),
      part_disparity s.byte s.control 0 (is_plus d) h (omega arith),
      by_sign d t,
    )
back _ (sound_wrong s d h t) =
    simp (
      part_violation s.byte s.control 2 (is_plus d) h (omega arith),
      part_symbol s.byte s.control 2 (is_plus d) h (omega arith),
      part_disparity s.byte s.control 2 (is_plus d) h (omega arith),
      by_sign d t,
    )
back _ (sound_invalid d t) =
    simp (part_violation 0 false 1 (is_plus d) (omega arith) (omega arith), part_disparity 0 false 1 (is_plus d) (omega arith) (omega arith), by_sign d t)

after_sound : (r : Reading) (d : ℤ) → Sound r → T (is_disparity (new_disparity d r.disparity)) × (leb 2048 (packed r) ≡ is_plus (new_disparity d r.disparity))
unfolding packed
after_sound _ d (sound_clean s e h t) = (t, high s.byte s.control 0 (is_plus e) h (omega arith))
after_sound _ d (sound_wrong s e h t) = (t, high s.byte s.control 2 (is_plus e) h (omega arith))
after_sound _ d (sound_invalid e t) = (t, high 0 false 1 (is_plus e) (omega arith) (omega arith))

module _ (c : ℕ) (d : ℤ) (h : c ≤ 1023) (t : T (is_disparity d)) where
  -- a packed result of the reader, taken apart, is the result
  pub unpacked_reading : unpacked (packed (reading c d)) ≡ reading c d
  unpacked_reading = back (reading c d) (sound c d h t)

  -- the reader gives a disparity again
  pub after_disparity : T (is_disparity (after_one c d))
  after_disparity = (after_sound (reading c d) d (sound c d h t)).0

  -- which one, by the packed result's size
  pub after_plus : leb 2048 (packed (reading c d)) ≡ is_plus (after_one c d)
  after_plus = (after_sound (reading c d) d (sound c d h t)).1
