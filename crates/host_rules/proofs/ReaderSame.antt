-- Fifteen bytes are taken for a reader's state where they are that state's own encoding, and only there: no two runs of bytes stand for one state.
-- Assumes nothing.
use Prim.Native.Nat.{ℕ, ◌/◌, ◌%◌, ◌<◌}
use mathlib.Core.Path.{◌≡◌, refl, ap, sym, ◌∙◌}
use mathlib.Core.Bool.{true}
use mathlib.Core.List.{List, [], ◌∷◌}
use lib.Dec.{eqb}
use lib.ListN.{length, get_or}
use lib.Pointwise.{pointwise, bytes_decides}
use native.Mathlib.Omega.{arith}
use borrow.Author.Tests.{eqb-true}
use Rattle.std.proofs.lemmas.Bool.Decides.{same_from_decides}
use Rattle.laws.proofs.Cases.{first_true, second_true}
use Rattle.packet_rules.specs.Open.{OpenData, OpenPriority}
use Rattle.packet_rules.specs.declared.Phase.{Phase}
use Rattle.host_rules.specs.ReaderBytes.{two, packet_tag, packet_channel, packet_register, packet_of, packet_fits, priority_tag, priority_opening, priority_count, priority_register, priority_of, priority_fits, phase_tag, phase_first, phase_second, phase_of, phase_fits, reader_bytes, reader_in, is_reader}
use Rattle.host_rules.proofs.ReaderBytes.{reader_encodes}

also : {x y : ℕ} {xs ys : List ℕ} → x ≡ y → xs ≡ ys → x ∷ xs ≡ y ∷ ys
also {x} {y} {xs} {ys} p q = ap (λ (z : ℕ). z ∷ xs) p ∙ ap (λ (zs : List ℕ). y ∷ zs) q

high : (n h l : ℕ) → l < 256 → n ≡ two h l → n / 256 ≡ h
high n h l small e = omega arith

low : (n h l : ℕ) → l < 256 → n ≡ two h l → n % 256 ≡ l
low n h l small e = omega arith

module _ (p : OpenData) (tag channel register : ℕ) (fits : packet_fits p tag channel register ≡ true) where
  its_tag : packet_tag p ≡ tag
  unfolding packet_fits
  its_tag = eqb-true _ _ (first_true (eqb (packet_tag p) tag) _ fits)

  its_channel : packet_channel p ≡ channel
  unfolding packet_fits
  its_channel = eqb-true _ _ (first_true (eqb (packet_channel p) channel) _ (second_true (eqb (packet_tag p) tag) _ fits))

  its_register : packet_register p ≡ register
  unfolding packet_fits
  its_register = eqb-true _ _ (second_true (eqb (packet_channel p) channel) _ (second_true (eqb (packet_tag p) tag) _ fits))

module _ (p : OpenPriority) (tag opening count register : ℕ) (fits : priority_fits p tag opening count register ≡ true) where
  priority_tag_lem : priority_tag p ≡ tag
  unfolding priority_fits
  priority_tag_lem = eqb-true _ _ (first_true (eqb (priority_tag p) tag) _ fits)

  priority_opening_lem : priority_opening p ≡ opening
  unfolding priority_fits
  priority_opening_lem = eqb-true _ _ (first_true (eqb (priority_opening p) opening) _ (second_true (eqb (priority_tag p) tag) _ fits))

  priority_count_lem : priority_count p ≡ count
  unfolding priority_fits
  priority_count_lem =
      eqb-true _ _ (first_true (eqb (priority_count p) count) _
      (second_true (eqb (priority_opening p) opening) _ (second_true (eqb (priority_tag p) tag) _ fits)))

  priority_register_lem : priority_register p ≡ register
  unfolding priority_fits
  priority_register_lem =
      eqb-true _ _ (second_true (eqb (priority_count p) count) _
      (second_true (eqb (priority_opening p) opening) _ (second_true (eqb (priority_tag p) tag) _ fits)))

module _ (p : Phase) (tag a b : ℕ) (fits : phase_fits p tag a b ≡ true) where
  phase_tag_lem : phase_tag p ≡ tag
  unfolding phase_fits
  phase_tag_lem = eqb-true _ _ (first_true (eqb (phase_tag p) tag) _ fits)

  phase_first_lem : phase_first p ≡ a
  unfolding phase_fits
  phase_first_lem = eqb-true _ _ (first_true (eqb (phase_first p) a) _ (second_true (eqb (phase_tag p) tag) _ fits))

  phase_second_lem : phase_second p ≡ b
  unfolding phase_fits
  phase_second_lem = eqb-true _ _ (second_true (eqb (phase_first p) a) _ (second_true (eqb (phase_tag p) tag) _ fits))

module _ (b0 b1 b2 b3 b4 b5 b6 b7 b8 b9 b10 b11 b12 b13 b14 : ℕ) (s1 : b1 < 256) (s5 : b5 < 256) (s9 : b9 < 256) (s11 : b11 < 256) where
  abbrev pub bytes : List ℕ
  bytes = b0 ∷ b1 ∷ b2 ∷ b3 ∷ b4 ∷ b5 ∷ b6 ∷ b7 ∷ b8 ∷ b9 ∷ b10 ∷ b11 ∷ b12 ∷ b13 ∷ b14 ∷ []

  abbrev packet : OpenData
  packet = packet_of b2 b3 (two b4 b5)

  abbrev priority : OpenPriority
  priority = priority_of b6 b7 (two b8 b9) (two b10 b11)

  abbrev phase : Phase
  phase = phase_of b12 b13 b14

  module _ (p : packet_fits packet b2 b3 (two b4 b5) ≡ true) (q : priority_fits priority b6 b7 (two b8 b9) (two b10 b11) ≡ true)
      (r : phase_fits phase b12 b13 b14 ≡ true) where
    part_by_part : reader_bytes (reader_in bytes) ≡ bytes
    unfolding reader_bytes reader_in
    part_by_part =
        also (high (two b0 b1) b0 b1 s1 refl) (also (low (two b0 b1) b0 b1 s1 refl)
        (also (its_tag packet b2 b3 (two b4 b5) p) (also (its_channel packet b2 b3 (two b4 b5) p)
        (also (high _ b4 b5 s5 (its_register packet b2 b3 (two b4 b5) p)) (also (low _ b4 b5 s5 (its_register packet b2 b3 (two b4 b5) p))
        (also (priority_tag_lem priority b6 b7 (two b8 b9) (two b10 b11) q) (also (priority_opening_lem priority b6 b7 (two b8 b9) (two b10 b11) q)
        (also (high _ b8 b9 s9 (priority_count_lem priority b6 b7 (two b8 b9) (two b10 b11) q))
        (also (low _ b8 b9 s9 (priority_count_lem priority b6 b7 (two b8 b9) (two b10 b11) q))
        (also (high _ b10 b11 s11 (priority_register_lem priority b6 b7 (two b8 b9) (two b10 b11) q))
        (also (low _ b10 b11 s11 (priority_register_lem priority b6 b7 (two b8 b9) (two b10 b11) q))
        (also (phase_tag_lem phase b12 b13 b14 r) (also (phase_first_lem phase b12 b13 b14 r) (also (phase_second_lem phase b12 b13 b14 r) refl))))))))))))))

  pub reader_same : is_reader bytes ≡ true → reader_bytes (reader_in bytes) ≡ bytes
  unfolding is_reader
  reader_same fits =
      part_by_part
      (first_true (packet_fits packet b2 b3 (two b4 b5)) _ fits)
      (first_true (priority_fits priority b6 b7 (two b8 b9) (two b10 b11)) _ (second_true (packet_fits packet b2 b3 (two b4 b5)) _ fits))
      (second_true (priority_fits priority b6 b7 (two b8 b9) (two b10 b11)) _ (second_true (packet_fits packet b2 b3 (two b4 b5)) _ fits))

-- the same of a run of bytes, whatever its name
again : (b : List ℕ) → length b ≡ 15 → ((i : ℕ) → get_or b i 0 < 256) → is_reader b ≡ true → reader_bytes (reader_in b) ≡ b
again ([]) l small fits = absurd (omega arith)
again (b0 ∷ []) l small fits = absurd (omega arith)
again (b0 ∷ b1 ∷ []) l small fits = absurd (omega arith)
again (b0 ∷ b1 ∷ b2 ∷ []) l small fits = absurd (omega arith)
again (b0 ∷ b1 ∷ b2 ∷ b3 ∷ []) l small fits = absurd (omega arith)
again (b0 ∷ b1 ∷ b2 ∷ b3 ∷ b4 ∷ []) l small fits = absurd (omega arith)
again (b0 ∷ b1 ∷ b2 ∷ b3 ∷ b4 ∷ b5 ∷ []) l small fits = absurd (omega arith)
again (b0 ∷ b1 ∷ b2 ∷ b3 ∷ b4 ∷ b5 ∷ b6 ∷ []) l small fits = absurd (omega arith)
again (b0 ∷ b1 ∷ b2 ∷ b3 ∷ b4 ∷ b5 ∷ b6 ∷ b7 ∷ []) l small fits = absurd (omega arith)
again (b0 ∷ b1 ∷ b2 ∷ b3 ∷ b4 ∷ b5 ∷ b6 ∷ b7 ∷ b8 ∷ []) l small fits = absurd (omega arith)
again (b0 ∷ b1 ∷ b2 ∷ b3 ∷ b4 ∷ b5 ∷ b6 ∷ b7 ∷ b8 ∷ b9 ∷ []) l small fits = absurd (omega arith)
again (b0 ∷ b1 ∷ b2 ∷ b3 ∷ b4 ∷ b5 ∷ b6 ∷ b7 ∷ b8 ∷ b9 ∷ b10 ∷ []) l small fits = absurd (omega arith)
again (b0 ∷ b1 ∷ b2 ∷ b3 ∷ b4 ∷ b5 ∷ b6 ∷ b7 ∷ b8 ∷ b9 ∷ b10 ∷ b11 ∷ []) l small fits = absurd (omega arith)
again (b0 ∷ b1 ∷ b2 ∷ b3 ∷ b4 ∷ b5 ∷ b6 ∷ b7 ∷ b8 ∷ b9 ∷ b10 ∷ b11 ∷ b12 ∷ []) l small fits = absurd (omega arith)
again (b0 ∷ b1 ∷ b2 ∷ b3 ∷ b4 ∷ b5 ∷ b6 ∷ b7 ∷ b8 ∷ b9 ∷ b10 ∷ b11 ∷ b12 ∷ b13 ∷ []) l small fits = absurd (omega arith)
again (b0 ∷ b1 ∷ b2 ∷ b3 ∷ b4 ∷ b5 ∷ b6 ∷ b7 ∷ b8 ∷ b9 ∷ b10 ∷ b11 ∷ b12 ∷ b13 ∷ b14 ∷ []) l small fits =
    reader_same b0 b1 b2 b3 b4 b5 b6 b7 b8 b9 b10 b11 b12 b13 b14 (small 1) (small 5) (small 9) (small 11) fits
again (b0 ∷ b1 ∷ b2 ∷ b3 ∷ b4 ∷ b5 ∷ b6 ∷ b7 ∷ b8 ∷ b9 ∷ b10 ∷ b11 ∷ b12 ∷ b13 ∷ b14 ∷ b15 ∷ bs) l small fits = absurd (omega arith)

-- so the test of the parts is a test of all bytes at once
pub is_its_own :
    (b : List ℕ) → length b ≡ 15 → ((i : ℕ) → get_or b i 0 < 256) → is_reader b ≡ pointwise eqb (reader_bytes (reader_in b)) b
is_its_own b l small =
    same_from_decides (is_reader b) (pointwise eqb (reader_bytes (reader_in b)) b)
    (again b l small, λ e. ap is_reader (sym e) ∙ reader_encodes (reader_in b))
    (bytes_decides (reader_bytes (reader_in b)) b)
