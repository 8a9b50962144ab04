-- The character that a capture answers with is below 1,024.
-- Assumes nothing.
use Prim.Native.Nat.{ℕ, ◌*◌, ◌≤◌, ◌<◌}
use mathlib.Core.Path.{◌≡◌, ap, ◌∙◌}
use mathlib.Core.List.{List}
use lib.Dec.{ltb}
use lib.ListN.{length, get_or}
use native.Mathlib.Omega.{arith}
use borrow.Author.Tests.{ltb-true, ltb-false}
use Rattle.laws.specs.Groups.{bits_of, numbers}
use Rattle.laws.proofs.Groups.{get_or_below, numbers_below, bits_of_below, length_bits_of}
use Rattle.laws.proofs.Cases.{by_test}
use Rattle.capture_rules.specs.Capture.{character_count, characters_of, legal}
use Rattle.capture_rules.specs.Calls.{Said, answered, character_says}
use Rattle.capture_rules.proofs.Laws.{character_illegal, character_nowhere, character_found}
use Rattle.host_rules.specs.Numbers.{or_old}

character_small : (capture : List ℕ) (place : ℕ) → get_or (characters_of capture) place 0 < 1024
unfolding characters_of
character_small capture place =
    let fits : 10 * character_count (length capture) ≤ length (bits_of 8 capture) = omega (arith, length_bits_of 8 capture) in
    get_or_below 1024 (numbers 10 (character_count (length capture)) (bits_of 8 capture)) (omega arith)
    (numbers_below 10 (character_count (length capture)) (bits_of 8 capture) (bits_of_below 8 capture) fits) place

module _ (capture : List ℕ) (place n : ℕ) (says : answered n ≡ character_says capture place) where
  pub character_answered : n < 1024
  character_answered =
      by_test (legal capture)
      (λ ok. by_test (ltb place (character_count (length capture)))
      (λ t. let e : n ≡ get_or (characters_of capture) place 0 = ap (λ (s : Said). or_old s.number 0) (says ∙ character_found capture place ok (ltb-true _ _ t)) in
      omega (arith, character_small capture place))
      (λ f. let z : ◌≡◌ {A = ℕ} 0 1 = ap (λ (s : Said). s.refusal) (says ∙ character_nowhere capture place ok (ltb-false _ _ f)) in omega arith))
      (λ bad. let z : ◌≡◌ {A = ℕ} 0 8 = ap (λ (s : Said). s.refusal) (says ∙ character_illegal capture place bad) in omega arith)
