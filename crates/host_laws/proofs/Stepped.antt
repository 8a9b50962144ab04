-- The bytes that a step leaves stand for the state that its rule hands back, on a refusal too.
-- Assumes nothing.
use Prim.Native.Nat.{ℕ, ◌/◌, ◌%◌}
use mathlib.Core.Path.{◌≡◌, refl, sym, ap, ◌∙◌}
use mathlib.Core.Bool.{Bool, cond, ◌&&◌}
use mathlib.Core.List.{List}
use lib.Dec.{eqb, ltb}
use borrow.Author.Tests.{eqb-true, eqb-false}
use Rattle.std.specs.Prelude.{Some, None}
use Rattle.laws.proofs.Cases.{by_cases, by_test}
use Rattle.refusal.proofs.Outcomes.{either_way}
use Rattle.character_rules.specs.Answers.{Reading}
use Rattle.packet_rules.specs.Open.{OpenPriority}
use Rattle.packet_rules.specs.declared.Due.{Due}
use Rattle.packet_rules.specs.declared.Due.TheVariants.{Channel, Opening, Closing, FirstCrc, SecondCrc, LmpType, LmpNumber, LmpCheck}
use Rattle.packet_rules.specs.declared.Kind.{Kind}
use Rattle.packet_rules.specs.declared.Kind.TheVariants.{Data, Idl, Com, Opens, Closes, NoPlace, Unsupported}
use Rattle.packet_rules.specs.declared.Phase.{Phase}
use Rattle.packet_rules.specs.declared.Phase.TheVariants.{Free, Next, Idles, Dropping}
use Rattle.packet_rules.specs.declared.Reader.{Reader}
use Rattle.packet_rules.specs.Answers.{Said, Answer, nothing, gave_byte, replied}
use Rattle.packet_rules.specs.State.{outside}
use Rattle.packet_rules.specs.Step.{closes_own, free_move, due_move, move, broken, dropped, read_of, step_checks, refused_step, step_of, kind_in, is_dropping}
use Rattle.packet_rules.specs.Violations.{violation_of}
use Rattle.host_rules.specs.Numbers.{or_old}
use Rattle.host_rules.specs.ReaderBytes.{reader_in}
use Rattle.host_rules.specs.Stepping.{result_of, number_checks, step_numbers, step_leaves}
use Rattle.host_rules.proofs.Numbers.{stands_old, stands_new}
use Rattle.host_rules.proofs.ReaderBytes.{reader_again}

-- ---- a step that is not refused says no refusal

abbrev refusal_in : Said → ℕ
refusal_in s = or_old s.refusal 0

abbrev Goes : Answer → Type 0
Goes a = refusal_in a.said ≡ 0

either : (b : Bool) (x y : Said) → refusal_in x ≡ 0 → refusal_in y ≡ 0 → refusal_in (cond b x y) ≡ 0
either b x y p q = by_cases (λ (s : Said). refusal_in s ≡ 0) b (λ t. p) (λ t. q)

closes : (said : Said) (p : OpenPriority) (r : Reader) → refusal_in said ≡ 0 → Goes (closes_own said p r)
closes said (Some inner) r h = h
closes said None r h = h

free_goes : (k : Kind) (r : Reader) → Goes (free_move k r)
free_goes (Data b) r = either (outside r.packet r.priority) nothing (gave_byte b) refl refl
free_goes Idl r = refl
free_goes Com r = refl
free_goes (Opens o) r = refl
free_goes (Closes bad) r = refl
free_goes NoPlace r = refl
free_goes Unsupported r = refl

due_goes : (d : Due) (b : ℕ) (r : Reader) → Goes (due_move d b r)
due_goes Channel b r = refl
due_goes Opening b r = refl
due_goes (Closing bad) b r = refl
due_goes (FirstCrc bad) b r = refl
due_goes (SecondCrc bad a) b r = closes _ r.priority r refl
due_goes LmpType b r = refl
due_goes (LmpNumber t) b r = refl
due_goes (LmpCheck t n) b r =
    either (eqb (t / 16) 2 && (ltb (t % 16) 2 && eqb (n / 16) 0)) (replied (eqb (t % 16) 1) (n % 16)) nothing refl refl

move_goes : (w : Phase) (k : Kind) (r : Reader) → Goes (move w k r)
move_goes Free k r = free_goes k r
move_goes (Next due) k r = due_goes due _ r
move_goes (Idles n) k r = refl
move_goes Dropping k r = refl

broken_goes : (n : ℕ) (r : Reader) → Goes (broken n r)
unfolding broken
broken_goes n r =
    by_cases Goes (eqb n 7) (λ t. refl)
    (λ f. by_cases Goes (eqb n 6) (λ t. closes _ r.priority r refl) (λ t. refl))

read_goes : (r : Reader) (g : Reading) (k : Kind) → Goes (read_of r g k)
unfolding read_of dropped
read_goes r g k =
    let n = violation_of r g k in
    by_cases Goes (is_dropping r.phase) (λ t. refl)
    (λ f. by_cases Goes (eqb n 0) (λ t. move_goes r.phase k r) (λ t. broken_goes n r))

-- ---- so the state that a step hands back is the given one where it is refused

abbrev HandsBack : Reader → Answer → Type 0
HandsBack r a = (refusal_in a.said ≡ 0 → ⊥) → a.reader ≡ r

step_hands_back : (r : Reader) (g : Reading) → HandsBack r (step_of r g)
unfolding step_of
step_hands_back r g =
    either_way (step_checks r g) (HandsBack r) (refused_step r) (read_of r g (kind_in g.symbol))
    (λ e refused. absurd (refused (read_goes r g (kind_in g.symbol)))) (λ n refused. refl)

module _ (bytes : List ℕ) (violation byte control : ℕ) where
  numbers_hand_back : HandsBack (reader_in bytes) (step_numbers bytes violation byte control)
  unfolding step_numbers
  numbers_hand_back =
      either_way (number_checks bytes violation byte) (HandsBack (reader_in bytes)) (refused_step (reader_in bytes))
      (step_of (reader_in bytes) (result_of violation byte control))
      (λ e. step_hands_back (reader_in bytes) (result_of violation byte control)) (λ n refused. refl)

  -- THE BYTES after a step stand for the state that the rule hands back
  pub leaves_reader : reader_in (step_leaves bytes violation byte control) ≡ (step_numbers bytes violation byte control).reader
  unfolding step_leaves
  leaves_reader =
      let n = refusal_in (step_numbers bytes violation byte control).said in
      by_test (eqb n 0)
      (λ t. ap reader_in (stands_new n bytes _ (eqb-true n 0 t)) ∙ reader_again (step_numbers bytes violation byte control).reader)
      (λ f. let refused = eqb-false n 0 f in ap reader_in (stands_old n bytes _ refused) ∙ sym (numbers_hand_back refused))
