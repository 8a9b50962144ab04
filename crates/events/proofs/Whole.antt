-- A capture that is read to its end, over plain values: the answer and the output are those of the rules.
-- Assumes nothing.
use mathlib.Core.Path.{◌≡◌, refl, sym, ◌∙◌, ap}
use mathlib.Core.Bool.{Bool, true, false}
use mathlib.Core.List.{List, ◌++◌}
use Prim.Native.Nat.{ℕ}
use lib.IntN.{ℤ}
use lib.ListN.{length, drop}
use Rattle.laws.proofs.Bools.{true_t}
use Rattle.refusal.specs.Order.{refusal_of}
use Rattle.disparity.proofs.Signed.{again}
use Rattle.character_rules.specs.Disparity.{is_plus, is_disparity, disparity_of}
use Rattle.character_rules.specs.Results.{run_closing}
use Rattle.character_rules.proofs.Disparities.{by_sign}
use Rattle.capture_rules.specs.Capture.{character_count, characters_of}
use Rattle.capture_rules.proofs.Packing.{characters_length}
use Rattle.packet_rules.specs.declared.Reader.{Reader}
use Rattle.events_rules.specs.Events.{events_of, reader_after, capture_checks, capture_read, events_left}
use Rattle.events_rules.proofs.Runs.{Ran, all_ends, all_after, all_events}
use Rattle.events_rules.proofs.Answers.{read_passed, read_whole}

again_of : (p : Bool) → again (disparity_of p) ≡ disparity_of p
again_of true = refl
again_of false = refl

module _ (capture : List ℕ) (r : Reader) (d : ℤ) (old : List ℕ) (n : ℕ) (given : n ≡ refusal_of (capture_checks capture r d (length old))) (none : n ≡ 0)
    (p : Bool) (hp : p ≡ is_plus d) (q : Bool) (s : Reader) (new : List ℕ)
    (ran : Ran (characters_of capture) 0 p r old (character_count (length capture)) q s new) (e : ℤ) (he : e ≡ disparity_of q) where
  all : character_count (length capture) ≡ length (characters_of capture)
  all = sym (characters_length capture)

  start : disparity_of p ≡ d
  start = ap disparity_of hp ∙ by_sign d (true_t (is_disparity d) (read_passed capture r d old n given none).signed)

  closes : again e ≡ run_closing (characters_of capture) d
  closes =
      ap again he ∙ again_of q ∙ all_ends (characters_of capture) p q r s old new (character_count (length capture)) ran all
      ∙ ap (run_closing (characters_of capture)) start

  after : s ≡ reader_after (characters_of capture) d r
  after =
      all_after (characters_of capture) p q r s old new (character_count (length capture)) ran all
      ∙ ap (λ (z : ℤ). reader_after (characters_of capture) z r) start

  stored : new ≡ events_of (characters_of capture) d r ++ drop (character_count (length capture)) old
  stored =
      all_events (characters_of capture) p q r s old new (character_count (length capture)) ran all
      ∙ (λ i. events_of (characters_of capture) (start i) r ++ drop (sym all i) old)

  pub is_read : (record { refusal = 0; count = character_count (length capture); disparity = again e; reader = s } ≡ capture_read capture r d (length old))
      × (new ≡ events_left capture r d old)
  is_read =
      let w = read_whole capture r d old n given none in (
        (λ i. record { refusal = 0; count = character_count (length capture); disparity = closes i; reader = after i }) ∙ w.answers,
        stored ∙ w.leaves,
      )
