-- What a step in numbers and bytes comes to, by what its bytes and its numbers are.
-- Assumes nothing.
use Prim.Native.Nat.{ℕ, ◌≤◌, ◌<◌}
use mathlib.Core.Path.{◌≡◌, refl, sym, ap, ◌∙◌}
use mathlib.Core.Bool.{Bool, true, false, not, ◌&&◌, ◌||◌, or-true}
use mathlib.Core.List.{List}
use mathlib.Core.Option.{some}
use lib.Dec.{eqb, ltb}
use lib.IntN.{negsuc}
use native.Mathlib.Omega.{arith}
use borrow.Author.Tests.{lt-ltb, le-ltb, ne_eqb}
use Rattle.laws.proofs.Cases.{by_test, by_cases, cond_true, cond_false, some_is_not_none}
use Rattle.character_rules.specs.Answers.{Reading, clean, wrong_disparity, invalid, not_read, decoded_says}
use Rattle.refusal.specs.declared.Refusal.{Refusal}
use Rattle.refusal.specs.Order.{number_of}
use Rattle.refusal.proofs.Answers.{has_number}
use Rattle.character_rules.specs.declared.Decoded.{Decoded}
use Rattle.character_rules.specs.declared.Decoded.TheVariants.{Clean, WrongDisparity, Invalid}
use Rattle.packet_rules.specs.declared.Reader.{Reader}
use Rattle.packet_rules.specs.declared.Event.{Event}
use Rattle.packet_rules.specs.declared.Event.TheVariants.{Nothing, StartData, StartPriority, Byte, End, Lmp, Violation as Violates}
use Rattle.packet_rules.specs.Answers.{Made, made, not_made, Said, Answer, refused, OneOfTen, event_says}
use Rattle.packet_rules.specs.Step.{refused_step, step_of}
use Rattle.packet_rules.proofs.Choice.{by_outcome}
use Rattle.packet_rules.proofs.Violated.{silent_one_of_ten, gives_one_of_ten}
use Rattle.host_rules.specs.Numbers.{or_old}
use Rattle.host_rules.specs.Characters.{symbol_of}
use Rattle.host_rules.specs.ReaderBytes.{reader_bytes, reader_in, is_reader, loaded}
use Rattle.host_rules.specs.Stepping.{result_of, number_checks, numbers_read, step_numbers, step_leaves}
use Rattle.host_rules.proofs.Numbers.{stands_old, stands_new}

-- what was read is no refusal
decoded_stands : (d : Decoded) → (decoded_says d).refusal ≡ 0
decoded_stands (Clean s n) = refl
decoded_stands (WrongDisparity s n) = refl
decoded_stands (Invalid n) = refl

-- ---- the numbers alone

abbrev wrong : ℕ → ℕ → Bool
wrong violation byte = (not (eqb violation 1) && ltb 255 byte) || ltb 2 violation

module _ (violation byte control : ℕ) where
  read_wrong : wrong violation byte ≡ true → numbers_read violation byte control ≡ not_read 1
  unfolding numbers_read
  read_wrong t = simp t

  read_right : wrong violation byte ≡ false → numbers_read violation byte control ≡ result_of violation byte control
  unfolding numbers_read
  read_right f = simp f

  has_disparity : (result_of violation byte control).disparity ≡ some (negsuc 0)
  unfolding result_of
  has_disparity =
      by_cases (λ (r : Reading). r.disparity ≡ some (negsuc 0)) (eqb violation 0) (λ t. refl)
      (λ f. by_cases (λ (r : Reading). r.disparity ≡ some (negsuc 0)) (eqb violation 2) (λ t. refl) (λ t. refl))

  pub numbers_invalid : violation ≡ 1 → numbers_read violation byte control ≡ invalid (negsuc 0)
  unfolding numbers_read result_of
  numbers_invalid h = simp h

  pub numbers_over : 2 < violation → numbers_read violation byte control ≡ not_read 1
  unfolding numbers_read
  numbers_over h = simp (lt-ltb 2 violation h, or-true)

  -- of a symbol's byte, where the result has one
  pub numbers_no_byte : violation ≤ 2 → (violation ≡ 1 → ⊥) → 255 < byte → numbers_read violation byte control ≡ not_read 1
  unfolding numbers_read
  numbers_no_byte small other h = simp (ne_eqb violation 1 other, lt-ltb 255 byte h)

  module _ (fits : byte ≤ 255) where
    pub numbers_clean : violation ≡ 0 → numbers_read violation byte control ≡ clean (symbol_of byte control) (negsuc 0)
    unfolding numbers_read result_of
    numbers_clean h = simp (h, le-ltb 255 byte fits)

    pub numbers_wrong : violation ≡ 2 → numbers_read violation byte control ≡ wrong_disparity (symbol_of byte control) (negsuc 0)
    unfolding numbers_read result_of
    numbers_wrong h = simp (h, le-ltb 255 byte fits)

-- ---- the step

module _ (bytes : List ℕ) (violation byte control : ℕ) where
  pub step_no_reader : is_reader bytes ≡ false → step_numbers bytes violation byte control ≡ refused_step (reader_in bytes) 1
  unfolding step_numbers number_checks
  step_no_reader h = simp (h, or-true)

  module _ (reader : is_reader bytes ≡ true) where
    -- numbers that are read as a result are stepped as it
    pub step_read :
        (d : Decoded) → decoded_says d ≡ numbers_read violation byte control
        → step_numbers bytes violation byte control ≡ step_of (reader_in bytes) (decoded_says d)
    unfolding step_numbers number_checks
    step_read d e =
        by_test (wrong violation byte)
        (λ t. let one : (decoded_says d).refusal ≡ 1 = ap (λ (r : Reading). r.refusal) (e ∙ read_wrong violation byte control t) in
        absurd (omega (arith, decoded_stands d, one)))
        (λ f. let same : decoded_says d ≡ result_of violation byte control = e ∙ read_right violation byte control f in simp (reader, f, same))

    -- numbers that are refused are the step's refusal
    pub step_unread :
        (n : ℕ) → not_read n ≡ numbers_read violation byte control
        → step_numbers bytes violation byte control ≡ refused_step (reader_in bytes) n
    unfolding step_numbers number_checks
    step_unread n e =
        by_test (wrong violation byte)
        (λ t. let one : n ≡ 1 = ap (λ (r : Reading). r.refusal) (e ∙ read_wrong violation byte control t) in simp (reader, t, one))
        (λ f. absurd (some_is_not_none
        (sym (has_disparity violation byte control) ∙ sym (ap (λ (r : Reading). r.disparity) (e ∙ read_right violation byte control f)))))

-- a violation that it gives is one of the ten
pub numbers_one_of_ten : (bytes : List ℕ) (violation byte control : ℕ) → OneOfTen (step_numbers bytes violation byte control).said
unfolding step_numbers
numbers_one_of_ten bytes violation byte control =
    by_outcome (λ (a : Answer). OneOfTen a.said) (number_checks bytes violation byte) (refused_step (reader_in bytes))
    (step_of (reader_in bytes) (result_of violation byte control)) (λ m. silent_one_of_ten (refused m) refl)
    (gives_one_of_ten (reader_in bytes) (result_of violation byte control))

-- ---- what the bytes are loaded as

module _ (bytes : List ℕ) where
  pub loads : (r : Reader) → made r ≡ loaded bytes → (is_reader bytes ≡ true) × (r ≡ reader_in bytes)
  unfolding loaded
  loads r e =
      by_test (is_reader bytes)
      (λ t. (t, ap (λ (m : Made). or_old m.reader r) (e ∙ cond_true (is_reader bytes) (made (reader_in bytes)) (not_made 1) t)))
      (λ f. absurd (some_is_not_none (ap (λ (m : Made). m.reader) (e ∙ cond_false (is_reader bytes) (made (reader_in bytes)) (not_made 1) f))))

  pub loads_none : (n : ℕ) → not_made n ≡ loaded bytes → (is_reader bytes ≡ false) × (n ≡ 1)
  unfolding loaded
  loads_none n e =
      by_test (is_reader bytes)
      (λ t. absurd (some_is_not_none (ap (λ (m : Made). m.refusal) (e ∙ cond_true (is_reader bytes) (made (reader_in bytes)) (not_made 1) t))))
      (λ f. (f, ap (λ (m : Made). or_old m.refusal 0) (e ∙ cond_false (is_reader bytes) (made (reader_in bytes)) (not_made 1) f)))

-- ---- what the bytes hold after it

-- an event is no refusal
pub refuses_nothing : (e : Event) → or_old (event_says e).refusal 0 ≡ 0
refuses_nothing Nothing = refl
refuses_nothing (StartData c) = refl
refuses_nothing (StartPriority c n) = refl
refuses_nothing (Byte b) = refl
refuses_nothing (End bad) = refl
refuses_nothing (Lmp nack n) = refl
refuses_nothing (Violates n) = refl

module _ (bytes : List ℕ) (violation byte control : ℕ) where
  pub leaves_old : (r : Refusal) → refused (number_of r) ≡ (step_numbers bytes violation byte control).said → step_leaves bytes violation byte control ≡ bytes
  unfolding step_leaves
  leaves_old r e =
      let n : or_old (step_numbers bytes violation byte control).said.refusal 0 ≡ number_of r = sym (ap (λ (s : Said). or_old s.refusal 0) e) in
      stands_old _ _ _ (λ z. omega (arith, has_number r, n, z))

  pub leaves_new :
      (e : Event) → event_says e ≡ (step_numbers bytes violation byte control).said
      → step_leaves bytes violation byte control ≡ reader_bytes (step_numbers bytes violation byte control).reader
  unfolding step_leaves
  leaves_new e h = stands_new _ _ _ (sym (ap (λ (s : Said). or_old s.refusal 0) h) ∙ refuses_nothing e)
