-- What a violation leaves: seen from outside, by the number that the step gives.
-- Assumes nothing.
use mathlib.Core.Path.{◌≡◌, refl, sym, ap, subst, ◌∙◌}
use mathlib.Core.Bool.{Bool, true, false, ◌&&◌}
use mathlib.Core.Option.{none, some, none-ne-some, some-injective}
use Prim.Native.Nat.{ℕ, zero, suc, ◌+◌, ◌/◌, ◌%◌, ◌<◌}
use native.Mathlib.Omega.{arith}
use borrow.Author.Tests.{eq-eqb, ne_eqb, eqb-false}
use lib.Dec.{eqb, ltb}
use Rattle.character_rules.specs.Answers.{Reading}
use Rattle.packet_rules.specs.declared.Kind.{Kind}
use Rattle.packet_rules.specs.declared.Kind.TheVariants.{Data, Idl, Com, Opens, Closes, NoPlace, Unsupported}
use Rattle.packet_rules.specs.Open.{OpenData, OpenPriority, open_priority}
use Rattle.std.specs.Prelude.{Some, None}
use Rattle.packet_rules.specs.declared.Due.{Due}
use Rattle.packet_rules.specs.declared.Due.TheVariants.{Channel, Opening, Closing, FirstCrc, SecondCrc, LmpType, LmpNumber, LmpCheck}
use Rattle.packet_rules.specs.declared.Phase.{Phase}
use Rattle.packet_rules.specs.declared.Phase.TheVariants.{Free, Next, Idles, Dropping}
use Rattle.packet_rules.specs.declared.Reader.{Reader}
use Rattle.packet_rules.specs.declared.Violation.{Violation}
use Rattle.packet_rules.specs.declared.Violation.TheVariants.{Invalid, WrongDisparity, Unsupported as NoSymbol, OutOfPlace, Channel as WrongChannel, Crc, LmpCheck as WrongCheck, NoByte, Outside, TooLong}
use Rattle.packet_rules.specs.Answers.{Said, Answer, nothing, ended, replied, violated, violation_number, OneOfTen}
use Rattle.packet_rules.specs.State.{well_formed}
use Rattle.packet_rules.specs.Violations.{ten_conditions, violation_of}
use Rattle.packet_rules.specs.Step.{user_byte, free_move, closes_own, lmp_said, due_move, byte_of, move, broken, awakens, dropped, is_dropping, judged, kind_in, symbol_in, is_result, read_of, step_checks, refused_step, step_of}
use Rattle.packet_rules.proofs.Lowest.{NoneOf, FirstAt, none_lowest, first_lowest, lowest_within}
use Rattle.packet_rules.proofs.Choice.{either, by_outcome}

-- ---- a step that is not refused

-- the state keeps its rule, and the result is one: a character was read, and its symbol is one of the reader's
pub record Taken (r : Reader) (g : Reading) : Type 0 where
  pub rule : well_formed r ≡ true
  pub read : is_result g.disparity ≡ true
  pub symbol : symbol_in g.symbol ≡ true

pub taken : (r : Reader) (g : Reading) → Taken r g → step_of r g ≡ read_of r g (kind_in g.symbol)
unfolding step_of
taken r g t = simp (t.rule, t.read, t.symbol)

-- ---- each violation by its own condition, the lowest that fits

module _ (r : Reader) (g : Reading) (t : Taken r g) (awake : is_dropping r.phase ≡ false) where
  abbrev k : Kind
  k = kind_in g.symbol

  -- the condition at place i (from 0) holds and none before it: the violation is i + 1
  pub given_lowest : (i : ℕ) → FirstAt (ten_conditions r g k) i → (step_of r g).said ≡ violated (1 + i)
  unfolding read_of violation_of broken
  given_lowest i h =
      let n : violation_of r g k ≡ 1 + i = first_lowest 1 (ten_conditions r g k) i h in
      ap (λ (a : Answer). a.said) (taken r g t)
      ∙ simp (awake, ne_eqb (violation_of r g k) 0 (λ e. omega (arith, e, n))) (breaks (violation_of r g k) ∙ ap violated n)
    where
      breaks : (n : ℕ) → (broken n r).said ≡ violated n
      breaks n = either (λ (a : Answer). a.said ≡ violated n) (eqb n 7) _ _ (λ e. refl)
          (λ e. either (λ (a : Answer). a.said ≡ violated n) (eqb n 6) _ _ (λ f. own r.priority) (λ f. refl))
        where
          own : (p : OpenPriority) → (closes_own (violated n) p r).said ≡ violated n
          own None = refl
          own (Some inner) = refl

  -- where none holds, the symbol is in its place
  pub given_none : NoneOf (ten_conditions r g k) → step_of r g ≡ move r.phase k r
  unfolding read_of violation_of
  given_none h = taken r g t ∙ simp (awake, eq-eqb (violation_of r g k) 0 (none_lowest 1 (ten_conditions r g k) h))

-- ---- a violation is given by nothing else

abbrev Silent : Answer → Type 0
Silent a = a.said.violation ≡ none

user_silent : (d : OpenData) (p : OpenPriority) (b : ℕ) (r : Reader) → Silent (user_byte d p b r)
user_silent d (Some inner) b r = refl
user_silent (Some outer) None b r = refl
user_silent None None b r = refl

free_silent : (k : Kind) (r : Reader) → Silent (free_move k r)
free_silent (Data b) r = user_silent r.packet r.priority b r
free_silent Idl r = refl
free_silent Com r = refl
free_silent (Opens o) r = refl
free_silent (Closes bad) r = refl
free_silent NoPlace r = refl
free_silent Unsupported r = refl

lmp_silent : (t n : ℕ) → (lmp_said t n).violation ≡ none
lmp_silent t n =
    either (λ (s : Said). s.violation ≡ none) (eqb (t / 16) 2 && (ltb (t % 16) 2 && eqb (n / 16) 0)) (replied (eqb (t % 16) 1) (n % 16)) nothing
    (λ e. refl) (λ e. refl)

own_silent : (bad : Bool) (p : OpenPriority) (r : Reader) → Silent (closes_own (ended bad) p r)
own_silent bad None r = refl
own_silent bad (Some inner) r = refl

due_silent : (d : Due) (b : ℕ) (r : Reader) → Silent (due_move d b r)
due_silent Channel b r = refl
due_silent Opening b r = refl
due_silent (Closing bad) b r = refl
due_silent (FirstCrc bad) b r = refl
due_silent (SecondCrc bad a) b r = own_silent bad r.priority r
due_silent LmpType b r = refl
due_silent (LmpNumber t) b r = refl
due_silent (LmpCheck t n) b r = lmp_silent t n

move_silent : (w : Phase) (k : Kind) (r : Reader) → Silent (move w k r)
move_silent Free k r = free_silent k r
move_silent (Next d) k r = due_silent d (byte_of k) r
move_silent (Idles n) k r = refl
move_silent Dropping k r = refl

pub broken_said : (n : ℕ) (r : Reader) → (broken n r).said.violation ≡ some n
unfolding broken
broken_said n r =
    either Says (eqb n 7) _ _ (λ e. refl) (λ e. either Says (eqb n 6) _ _ (λ f. own r.priority) (λ f. refl))
  where
    Says : Answer → Type 0
    Says a = a.said.violation ≡ some n

    own : (p : OpenPriority) → (closes_own (violated n) p r).said.violation ≡ some n
    own None = refl
    own (Some inner) = refl

dropped_silent : (g : Reading) (k : Kind) (r : Reader) → Silent (dropped g k r)
unfolding dropped
dropped_silent g k r = refl

-- the state after violation n, from the number that is given alone
abbrev Breaks : Reader → Answer → Type 0
Breaks r a = (n : ℕ) → a.said.violation ≡ some n → a ≡ broken n r

mute : (r : Reader) (a : Answer) → Silent a → Breaks r a
mute r a h n e = absurd (none-ne-some n (sym h ∙ e))

pub after_violation : (r : Reader) (g : Reading) → Breaks r (step_of r g)
unfolding step_of read_of
after_violation r g =
    let k = kind_in g.symbol in
    let n = violation_of r g k in
    by_outcome (Breaks r) (step_checks r g) (refused_step r) (read_of r g k) (λ m. mute r (refused_step r m) refl)
    (either (Breaks r) (is_dropping r.phase) (dropped g k r) (judged n k r) (λ f. mute r (dropped g k r) (dropped_silent g k r))
    (λ f. either (Breaks r) (eqb n 0) (move r.phase k r) (broken n r)
    (λ q. mute r (move r.phase k r) (move_silent r.phase k r))
    (λ q m h. ap (λ (x : ℕ). broken x r) (some-injective _ _ (sym (broken_said n r) ∙ h)))))

-- ---- every violation is one of the ten

ten : (n : ℕ) → (n ≡ 0 → ⊥) → n < 11 → (v : Violation) × (violation_number v ≡ n)
ten zero some_one h = absurd (some_one refl)
ten (suc zero) some_one h = (Invalid, refl)
ten (suc (suc zero)) some_one h = (WrongDisparity, refl)
ten (suc (suc (suc zero))) some_one h = (NoSymbol, refl)
ten (suc (suc (suc (suc zero)))) some_one h = (OutOfPlace, refl)
ten (suc (suc (suc (suc (suc zero))))) some_one h = (WrongChannel, refl)
ten (suc (suc (suc (suc (suc (suc zero)))))) some_one h = (Crc, refl)
ten (suc (suc (suc (suc (suc (suc (suc zero))))))) some_one h = (WrongCheck, refl)
ten (suc (suc (suc (suc (suc (suc (suc (suc zero)))))))) some_one h = (NoByte, refl)
ten (suc (suc (suc (suc (suc (suc (suc (suc (suc zero))))))))) some_one h = (Outside, refl)
ten (suc (suc (suc (suc (suc (suc (suc (suc (suc (suc zero)))))))))) some_one h = (TooLong, refl)
ten (suc (suc (suc (suc (suc (suc (suc (suc (suc (suc (suc n))))))))))) some_one h = absurd (omega (arith, h))

within_ten : (r : Reader) (g : Reading) (x : Kind) → violation_of r g x < 11
unfolding violation_of
within_ten r g x = lowest_within 0 (ten_conditions r g x)

pub silent_one_of_ten : (s : Said) → s.violation ≡ none → OneOfTen s
silent_one_of_ten s h n e = absurd (none-ne-some n (sym h ∙ e))

pub gives_one_of_ten : (r : Reader) (g : Reading) → OneOfTen (step_of r g).said
unfolding step_of read_of
gives_one_of_ten r g =
    let k = kind_in g.symbol in
    let n = violation_of r g k in
    by_outcome Gives (step_checks r g) (refused_step r) (read_of r g k) (λ m. mutes (refused_step r m) refl)
    (either Gives (is_dropping r.phase) (dropped g k r) (judged n k r) (λ f. mutes (dropped g k r) (dropped_silent g k r))
    (λ f. either Gives (eqb n 0) (move r.phase k r) (broken n r)
    (λ q. mutes (move r.phase k r) (move_silent r.phase k r))
    (λ q m h.
    let same : n ≡ m = some-injective _ _ (sym (broken_said n r) ∙ h) in
    ten m (λ z. eqb-false n 0 q (same ∙ z)) (subst (λ (x : ℕ). x < 11) same (within_ten r g k)))))
  where
    Gives : Answer → Type 0
    Gives a = OneOfTen a.said

    mutes : (a : Answer) → Silent a → Gives a
    mutes a h = silent_one_of_ten a.said h

-- ---- document 01's sentences, of every step

module _ (r : Reader) (g : Reading) where
  -- 7 closes nothing: the phase before SLP goes on
  pub seven_closes_nothing : (step_of r g).said.violation ≡ some 7
      → (step_of r g).reader ≡ record { size = r.size; packet = r.packet; priority = r.priority; phase = Free }
  unfolding broken
  seven_closes_nothing h = ap (λ (a : Answer). a.reader) (after_violation r g 7 h)

  -- 6 closes the packet it belongs to: a nested priority packet, and the data packet goes on
  pub six_closes_priority : (o n c : ℕ) → r.priority ≡ open_priority o n c → (step_of r g).said.violation ≡ some 6
      → (step_of r g).reader ≡ record { size = r.size; packet = r.packet; priority = None; phase = Free }
  unfolding broken
  six_closes_priority o n c p h = ap (λ (a : Answer). a.reader) (after_violation r g 6 h) ∙ simp p

  -- or the data packet where no priority packet is open
  pub six_closes_data : r.priority ≡ None → (step_of r g).said.violation ≡ some 6
      → (step_of r g).reader ≡ record { size = r.size; packet = None; priority = None; phase = Free }
  unfolding broken
  six_closes_data p h = ap (λ (a : Answer). a.reader) (after_violation r g 6 h) ∙ simp p

  -- every other one closes all open packets, and the reader then drops
  pub others_close_all : (n : ℕ) → (n ≡ 6 → ⊥) → (n ≡ 7 → ⊥) → (step_of r g).said.violation ≡ some n
      → (step_of r g).reader ≡ record { size = r.size; packet = None; priority = None; phase = Dropping }
  unfolding broken
  others_close_all n six seven h = ap (λ (a : Answer). a.reader) (after_violation r g n h) ∙ simp (ne_eqb n 7 seven, ne_eqb n 6 six)

-- ---- while dropping no event comes, clean or not, and only a clean SDP, SPP or SLP ends it

module _ (r : Reader) (g : Reading) (t : Taken r g) (drops : r.phase ≡ Dropping) where
  pub dropping_silent : (step_of r g).said ≡ nothing
  unfolding read_of dropped
  dropping_silent = ap (λ (a : Answer). a.said) (taken r g t) ∙ simp drops

  pub dropping_keeps : (g.violation ≡ 0 → ⊥) → (step_of r g).reader.phase ≡ Dropping
  unfolding read_of dropped
  dropping_keeps h = ap (λ (a : Answer). a.reader.phase) (taken r g t) ∙ simp (drops, ne_eqb g.violation 0 h)

  pub dropping_until : g.violation ≡ 0 → (step_of r g).reader.phase ≡ awakens (kind_in g.symbol)
  unfolding read_of dropped
  dropping_until h = ap (λ (a : Answer). a.reader.phase) (taken r g t) ∙ simp (drops, eq-eqb g.violation 0 h)
