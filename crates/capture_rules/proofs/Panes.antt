-- The pane keeps its rule, moves by one, and stays where it is past either end.
-- Assumes nothing.
use mathlib.Core.Path.{◌≡◌, refl, sym, ap, ◌∙◌}
use mathlib.Core.Option.{Option, none, some}
use mathlib.Core.Bool.{Bool, true, false, cond}
use mathlib.Core.List.{List}
use Prim.Native.Nat.{ℕ, ◌+◌, ◌-◌, ◌≤◌, ◌<◌}
use native.Mathlib.Omega.{arith}
use lib.Dec.{T, eqb, ltb, leb→le, le→leb}
use lib.ListN.{length}
use borrow.Author.Tests.{lt-ltb, le-ltb, le-leb, lt-leb, ltb-true, leb-true, leb-false}
use Rattle.laws.proofs.Cases.{by_test}
use Rattle.refusal.specs.Order.{Check, refusal_of, outcome}
use Rattle.capture_rules.specs.Capture.{character_count, legal}
use Rattle.capture_rules.specs.Calls.{Said, answered, refused}
use Rattle.capture_rules.proofs.Laws.{not_answered}
use Rattle.capture_rules.specs.Panes.{Move, is_place, pane_checks, place_says, moved_to, stayed, forward_from, back_from}

-- what the calls come to, case by case, in the order of the refusals
module _ (capture : List ℕ) (place : ℕ) where
  module _ (l : legal capture ≡ false) where
    pub place_illegal : place_says capture place ≡ refused 8
    unfolding place_says pane_checks
    place_illegal = simp l

    pub forward_illegal : forward_from capture place ≡ stayed place 8
    unfolding forward_from pane_checks
    forward_illegal = simp l

    pub back_illegal : back_from capture place ≡ stayed place 8
    unfolding back_from pane_checks
    back_illegal = simp l

  module _ (l : legal capture ≡ true) (h : character_count (length capture) < place) where
    outside : is_place capture place ≡ false
    outside = lt-leb place (character_count (length capture)) h

    pub place_outside : place_says capture place ≡ refused 1
    unfolding place_says pane_checks
    place_outside = simp (l, outside)

    pub forward_outside : forward_from capture place ≡ stayed place 1
    unfolding forward_from pane_checks
    forward_outside = simp (l, outside)

    pub back_outside : back_from capture place ≡ stayed place 1
    unfolding back_from pane_checks
    back_outside = simp (l, outside)

  module _ (l : legal capture ≡ true) (h : place ≤ character_count (length capture)) where
    inside : is_place capture place ≡ true
    inside = le-leb place (character_count (length capture)) h

    pub place_inside : place_says capture place ≡ answered place
    unfolding place_says pane_checks
    place_inside = simp (l, inside)

    -- before the end a move forward leads to the next place, and at the end it stays and says so
    pub forward_moves : place < character_count (length capture) → forward_from capture place ≡ moved_to (place + 1)
    unfolding forward_from pane_checks
    forward_moves g = simp (l, inside, lt-ltb place (character_count (length capture)) g)

    pub forward_at_end : character_count (length capture) ≤ place → forward_from capture place ≡ stayed place 0
    unfolding forward_from pane_checks
    forward_at_end g = simp (l, inside, le-ltb place (character_count (length capture)) g)

    -- after the start a move back leads to the place before, and at the start it stays and says so
    pub back_moves : 0 < place → back_from capture place ≡ moved_to (place - 1)
    unfolding back_from pane_checks
    back_moves g = simp (l, inside, lt-ltb 0 place g)

    pub back_at_start : place ≤ 0 → back_from capture place ≡ stayed place 0
    unfolding back_from pane_checks
    back_at_start g = simp (l, inside, le-ltb 0 place g)

module _ (capture : List ℕ) (place : ℕ) where
  -- where no place is answered a move is refused with the same number
  follows : (cs : List Check) (n : ℕ) (x : Move) → refused n ≡ outcome cs refused (answered place) → outcome cs (stayed place) x ≡ stayed place n
  follows cs n x e =
      by_test (eqb (refusal_of cs) 0)
      (λ t. absurd (not_answered place n (sym (e ∙ ap (λ (b : Bool). cond b (answered place) (refused (refusal_of cs))) t))))
      (λ f. ap (λ (b : Bool). cond b x (stayed place (refusal_of cs))) f
      ∙ ap (λ (s : Said). stayed place s.refusal) (sym (e ∙ ap (λ (b : Bool). cond b (answered place) (refused (refusal_of cs))) f)))

  pub back_refused : (n : ℕ) → refused n ≡ place_says capture place → back_from capture place ≡ stayed place n
  unfolding place_says back_from
  back_refused n e = follows (pane_checks capture place) n _ e

  -- a place that is answered is the one asked for, and the pane keeps its rule
  pub place_answered : (p : ℕ) → answered p ≡ place_says capture place → (legal capture ≡ true) × (place ≤ character_count (length capture)) × (p ≡ place)
  place_answered p e =
      by_test (legal capture)
      (λ l. by_test (is_place capture place)
      (λ t. let h = leb-true place (character_count (length capture)) t in
      (l, h, ap (λ (s : Said). or_zero s.number) (e ∙ place_inside capture place l h)))
      (λ f. absurd (not_answered p 1 (e ∙ place_outside capture place l (leb-false place (character_count (length capture)) f)))))
      (λ l. absurd (not_answered p 8 (e ∙ place_illegal capture place l)))
    where
      or_zero : Option ℕ → ℕ
      or_zero none = 0
      or_zero (some n) = n

-- a fresh pane keeps the rule
pub fresh_place : (capture : List ℕ) → T (is_place capture 0)
fresh_place capture = le→leb 0 (character_count (length capture)) (omega arith)

module _ (capture : List ℕ) where
  -- a move is refused, or moves to a place, or stays
  one_of : (P : ℕ → Type 0) (checks : List Check) (place next : ℕ) (free : Bool) → P place → (free ≡ true → P next)
      → P (outcome checks (stayed place) (cond free (moved_to next) (stayed place 0))).place
  one_of P checks place next free old new = go (eqb (refusal_of checks) 0) free refl
    where
      go : (b f : Bool) → free ≡ f → P (cond b (cond f (moved_to next) (stayed place 0)) (stayed place (refusal_of checks))).place
      go true true e = new e
      go true false e = old
      go false f e = old

  -- the rule is kept by both moves
  pub forward_keeps : (place : ℕ) → T (is_place capture place) → T (is_place capture (forward_from capture place).place)
  unfolding forward_from
  forward_keeps place t =
      one_of (λ (p : ℕ). T (is_place capture p)) (pane_checks capture place) place (place + 1) (ltb place (character_count (length capture))) t
      (λ e. let h = ltb-true place (character_count (length capture)) e in le→leb (place + 1) (character_count (length capture)) (omega arith))

  pub back_keeps : (place : ℕ) → T (is_place capture place) → T (is_place capture (back_from capture place).place)
  unfolding back_from
  back_keeps place t =
      one_of (λ (p : ℕ). T (is_place capture p)) (pane_checks capture place) place (place - 1) (ltb 0 place) t
      (λ e. let h = leb→le place (character_count (length capture)) t in le→leb (place - 1) (character_count (length capture)) (omega arith))

  -- a move says truly whether it moved: then the place is the next one, and else it is as it was
  tells : (checks : List Check) (place next : ℕ) (free : Bool)
      → (outcome checks (stayed place) (cond free (moved_to next) (stayed place 0))).place ≡ cond
      (outcome checks (stayed place) (cond free (moved_to next) (stayed place 0))).moved next place
  tells checks place next free = go (eqb (refusal_of checks) 0) free
    where
      go : (b f : Bool) → (cond b (cond f (moved_to next) (stayed place 0)) (stayed place (refusal_of checks))).place ≡ cond
          (cond b (cond f (moved_to next) (stayed place 0)) (stayed place (refusal_of checks))).moved next place
      go true true = refl
      go true false = refl
      go false f = refl

  pub forward_tells : (place : ℕ) → (forward_from capture place).place ≡ cond (forward_from capture place).moved (place + 1) place
  unfolding forward_from
  forward_tells place = tells (pane_checks capture place) place (place + 1) (ltb place (character_count (length capture)))

  pub back_tells : (place : ℕ) → (back_from capture place).place ≡ cond (back_from capture place).moved (place - 1) place
  unfolding back_from
  back_tells place = tells (pane_checks capture place) place (place - 1) (ltb 0 place)
