-- What reading a capture comes to, case by case, in the order of the refusals.
-- Assumes nothing.
use mathlib.Core.Path.{◌≡◌, refl, sym, ap, ◌∙◌}
use mathlib.Core.Bool.{Bool, true, false, not, or-true}
use mathlib.Core.List.{List, [], ◌∷◌, ◌++◌}
use Prim.Native.Nat.{ℕ, ◌≤◌, ◌<◌}
use native.Mathlib.Omega.{arith}
use borrow.Author.Tests.{lt-ltb, le-ltb, ltb-false}
use lib.Dec.{ltb}
use lib.IntN.{ℤ}
use lib.ListN.{length, drop}
use Rattle.std.specs.Prelude.{Result, Err}
use Rattle.refusal.specs.declared.Refusal.{Refusal}
use Rattle.refusal.specs.Order.{check, number_of, refusal_of}
use Rattle.refusal.proofs.Laws.{done, refused, hands_back}
use Rattle.refusal.proofs.Answers.{has_number}
use Rattle.character_rules.specs.Disparity.{is_disparity}
use Rattle.character_rules.specs.Results.{run_closing}
use Rattle.capture_rules.specs.Capture.{character_count, characters_of, legal}
use Rattle.packet_rules.specs.declared.Reader.{Reader}
use Rattle.packet_rules.specs.State.{well_formed}
use Rattle.events_rules.specs.Answers.{CaptureRead, read_says, read_beside}
use Rattle.events_rules.specs.Events.{events_of, reader_after, capture_checks, not_read_capture, capture_read, events_left}

-- ---- which refusal is given

module _ (capture : List ℕ) (r : Reader) (d : ℤ) (room : ℕ) where
  abbrev Gives : ℕ → Type 0
  Gives n = refusal_of (capture_checks capture r d room) ≡ n

  pub gives_illegal : legal capture ≡ false → Gives 8
  gives_illegal l = simp l

  module _ (l : legal capture ≡ true) where
    pub gives_broken : well_formed r ≡ false → Gives 1
    gives_broken h = simp (l, h, or-true)

    pub gives_no_disparity : is_disparity d ≡ false → Gives 1
    gives_no_disparity h = simp (l, h)

    module _ (h : well_formed r ≡ true) (t : is_disparity d ≡ true) where
      pub gives_short : room < character_count (length capture) → Gives 6
      gives_short s = simp (l, h, t, lt-ltb room (character_count (length capture)) s)

      pub gives_none : character_count (length capture) ≤ room → Gives 0
      gives_none s = simp (l, h, t, le-ltb room (character_count (length capture)) s)

-- where none is given, each test was passed
none_given : (l h t s : Bool) → refusal_of (check 8 (not l) ∷ check 1 (not h) ∷ check 1 (not t) ∷ check 6 s ∷ []) ≡ 0
    → (l ≡ true) × (h ≡ true) × (t ≡ true) × (s ≡ false)
none_given true true true false e = (refl, refl, refl, refl)
none_given true true true true e = absurd (omega (arith, e))
none_given true true false s e = absurd (omega (arith, e))
none_given true false true s e = absurd (omega (arith, e))
none_given true false false s e = absurd (omega (arith, e))
none_given false h t s e = absurd (omega (arith, e))

-- ---- the answer, and what the output holds

pub record Comes (capture : List ℕ) (r : Reader) (d : ℤ) (old : List ℕ) (answer : CaptureRead) (left : List ℕ) : Type 0 where
  pub answers : answer ≡ capture_read capture r d (length old)
  pub leaves : left ≡ events_left capture r d old

-- what a capture that is read has passed
pub record Passed (capture : List ℕ) (r : Reader) (d : ℤ) (room : ℕ) : Type 0 where
  pub legality : legal capture ≡ true
  pub rule : well_formed r ≡ true
  pub signed : is_disparity d ≡ true
  pub fits : character_count (length capture) ≤ room

module _ (capture : List ℕ) (r : Reader) (d : ℤ) (old : List ℕ) (n : ℕ) (given : n ≡ refusal_of (capture_checks capture r d (length old))) where
  pub read_refused : (n ≡ 0 → ⊥) → Comes capture r d old (not_read_capture r d n) old
  unfolding capture_read events_left
  read_refused h =
      let checks = capture_checks capture r d (length old) in
      let no : refusal_of checks ≡ 0 → ⊥ = λ e. h (given ∙ e) in
      record {
        answers = ap (not_read_capture r d) given ∙ sym (refused checks (not_read_capture r d) _ no);
        leaves = sym (hands_back checks old _ no);
      }

  module _ (none : n ≡ 0) where
    pub read_passed : Passed capture r d (length old)
    read_passed =
        let p = none_given (legal capture) (well_formed r) (is_disparity d) (ltb (length old) (character_count (length capture))) (sym given ∙ none) in
        record { legality = p.0; rule = p.1; signed = p.2; fits = ltb-false (length old) (character_count (length capture)) p.3 }

    pub read_whole : Comes capture r d old
        (record {
          refusal = 0;
          count = character_count (length capture);
          disparity = run_closing (characters_of capture) d;
          reader = reader_after
              (characters_of capture) d r;
        })
        (events_of (characters_of capture) d r ++ drop (character_count (length capture)) old)
    unfolding capture_read events_left
    read_whole =
        let checks = capture_checks capture r d (length old) in
        let e = sym given ∙ none in
        record { answers = sym (done checks (not_read_capture r d) _ e); leaves = sym (done checks (λ m. old) _ e) }

-- what a call that is refused answers, and what it hands back
pub refused_is :
    (capture : List ℕ) (r : Reader) (d : ℤ) (old : List ℕ) (a : Result ℕ Refusal) (e : Refusal) → a ≡ Err e
    → number_of e ≡ refusal_of (capture_checks capture r d (length old))
    → (read_says a ≡ read_beside (capture_read capture r d (length old)))
    × (r ≡ (capture_read capture r d (length old)).reader)
    × (d ≡ (capture_read capture r d (length old)).disparity)
    × (old ≡ events_left capture r d old)
refused_is capture r d old a e is g =
    let p = has_number e in
    let x = read_refused capture r d old (number_of e) g (λ z. omega (arith, p, z)) in (
      ap read_says is ∙ ap read_beside x.answers,
      ap (λ (w : CaptureRead). w.reader) x.answers,
      ap (λ (w : CaptureRead). w.disparity) x.answers,
      x.leaves,
    )
