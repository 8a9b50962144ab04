-- Bytes that were taken for a legal capture are the ones given, and bytes that were not are no legal capture.
-- Assumes nothing.
use Rattle.std.specs.Prelude.{ℕ, ◌≡◌, ◌≤◌, true, false, List, length, Result, Ok, Err, IsErrAnd}
use mathlib.Core.Path.{sym, ap, ◌∙◌}
use mathlib.Core.Option.{Option, none, some}
use native.Mathlib.Omega.{arith}
use Rattle.laws.proofs.Bools.{true_t}
use Rattle.laws.proofs.Cases.{by_test}
use Rattle.refusal.specs.declared.Refusal.{Refusal}
use Rattle.refusal.specs.Order.{number_of}
use Rattle.refusal.proofs.Answers.{has_number}
use Rattle.capture_rules.specs.Calls.{refused, says}
use Rattle.capture_rules.specs.Capture.{character_count, legal}
use Rattle.capture_rules.proofs.Answers.{handed_back}
use Rattle.capture_rules.proofs.Packing.{legal_size}
use Rattle.capture.specs.declared.Legal.{Legal}
use Rattle.capture.specs.Taken.{Taken, not_taken, legal_says, taken_of}

module _ (bytes : List ℕ) where
  taken_legal : legal bytes ≡ true → taken_of bytes ≡ record { refusal = 0; bytes = some bytes }
  taken_legal l = simp l

  taken_illegal : legal bytes ≡ false → taken_of bytes ≡ not_taken 8
  taken_illegal l = simp l

  bytes_or : Option (List ℕ) → List ℕ
  bytes_or none = bytes
  bytes_or (some b) = b

  pub taken_same : (l : Legal) → legal_says (Ok l) ≡ taken_of bytes → l.bytes.now ≡ bytes
  unfolding bytes_or
  taken_same l e =
      by_test (legal bytes)
      (λ t. ap (λ (s : Taken). bytes_or s.bytes) (e ∙ taken_legal t))
      (λ f. let z : ◌≡◌ {A = ℕ} 0 8 = ap (λ (s : Taken). s.refusal) (e ∙ taken_illegal f) in absurd (omega arith))

  module _ (l : Legal) (e : legal_says (Ok l) ≡ taken_of bytes) where
    pub taken_is_legal : legal bytes ≡ true
    taken_is_legal = ap legal (sym (taken_same l e)) ∙ l.is_legal

    pub taken_count : character_count (length l.bytes.now) ≡ character_count (length bytes)
    taken_count = ap (λ (b : List ℕ). character_count (length b)) (taken_same l e)

  module _ (r : Refusal) (e : legal_says (Err r) ≡ taken_of bytes) where
    pub refused_illegal : legal bytes ≡ false
    refused_illegal =
        by_test (legal bytes)
        (λ t. let z = has_number r in let q : number_of r ≡ 0 = ap (λ (s : Taken). s.refusal) (e ∙ taken_legal t) in absurd (omega (arith, z, q)))
        (λ f. f)

    pub refused_8 : number_of r ≡ 8
    refused_8 = ap (λ (s : Taken). s.refusal) (e ∙ taken_illegal refused_illegal)

    -- what `?` hands back of the refusal
    pub says_8 : (answer : Result ℕ Refusal) → IsErrAnd answer (λ s. s ≡ r) → says answer ≡ refused 8
    says_8 answer f = ap says (handed_back answer r f) ∙ ap refused refused_8

-- a legal capture is no longer than the most that a capture has
pub legal_short : (l : Legal) → length l.bytes.now ≤ 65535
legal_short l = legal_size l.bytes.now (true_t _ l.is_legal)
