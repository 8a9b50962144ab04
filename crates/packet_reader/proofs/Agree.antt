-- The code's way through a step comes to what the rules say, for every state and every character result.
-- Assumes nothing.
use mathlib.Core.Path.{◌≡◌, refl, sym, ap, ◌∙◌}
use mathlib.Core.Bool.{Bool, true, false}
use Prim.Native.Nat.{ℕ}
use borrow.Author.Tests.{eqb-true, ltb-true}
use lib.Bits.{bit_xor}
use lib.Dec.{eqb, ltb, leb}
use lib.IntN.{ℤ}
use Rattle.symbol.specs.Symbols.{is_symbol}
use Rattle.symbol.specs.declared.Symbol.{Symbol}
use Rattle.character_rules.specs.declared.Decoded.{Decoded}
use Rattle.character_rules.specs.declared.Decoded.TheVariants.{Clean, WrongDisparity, Invalid}
use Rattle.character_rules.specs.Answers.{decoded_says, reading_says, clean, wrong_disparity, invalid}
use Rattle.std.specs.Prelude.{Some, None, Result, Ok, Err}
use Rattle.refusal.specs.declared.Refusal.{Refusal}
use Rattle.packet_rules.specs.Open.{OpenData, OpenPriority}
use Rattle.packet_rules.specs.declared.Opener.{Opener}
use Rattle.packet_rules.specs.declared.Opener.TheVariants.{Sdp, Spp, Slp}
use Rattle.packet_rules.specs.declared.Kind.{Kind}
use Rattle.packet_rules.specs.declared.Kind.TheVariants.{Data, Idl, Com, Opens, Closes, NoPlace, Unsupported}
use Rattle.packet_rules.specs.declared.Due.{Due}
use Rattle.packet_rules.specs.declared.Due.TheVariants.{Channel, Opening, Closing, FirstCrc, SecondCrc, LmpType, LmpNumber, LmpCheck}
use Rattle.packet_rules.specs.declared.Phase.{Phase}
use Rattle.packet_rules.specs.declared.Phase.TheVariants.{Free, Next, Idles, Dropping}
use Rattle.packet_rules.specs.declared.Reader.{Reader}
use Rattle.packet_rules.specs.declared.Step.{Step}
use Rattle.packet_rules.specs.declared.Violation.TheVariants.{Invalid as NoCharacter, WrongDisparity as OtherDisparity}
use Rattle.packet_rules.specs.Answers.{Said, Answer, event_says, answer_says, step_says}
use Rattle.packet_rules.specs.State.{outside, has_byte, opening_byte, register_in, well_formed}
use Rattle.packet_rules.specs.Symbols.{kind_of}
use Rattle.packet_rules.specs.Violations.{right_crc, violation_of}
use Rattle.packet_rules.specs.Step.{lmp_said, broken, dropped, read_of, refused_step, step_of, step_with}
use Rattle.packet_rules.specs.Line.{is_reply}
use Rattle.packet_rules.proofs.Steps.{st}
use Rattle.packet_rules.proofs.Legal.{reply_said, other_said}
use Rattle.packet_rules.proofs.Unread.{with_says}
use Rattle.packet_turns.specs.Turns.{may_start, free_of}
use Rattle.packet_sequences.specs.Sequences.{lmp_of, due_of, seq_of}
use Rattle.packet_idles.specs.Idles.{idle_of, drop_of}
use Rattle.packet_reader.specs.Classes.{class_of, clean_of, spoiled_of, advance_of, event_of, reader_of, tried_of, answered}

-- ---- what a right LMP gives

lmp_agrees : (t n : ℕ) → event_says (lmp_of t n) ≡ lmp_said t n
lmp_agrees t n = by (ltb n 16) (eqb t 0x20) (eqb t 0x21) refl refl refl
  where
    by : (x y z : Bool) → ltb n 16 ≡ x → eqb t 0x20 ≡ y → eqb t 0x21 ≡ z → event_says (lmp_of t n) ≡ lmp_said t n
    by false y z e f g = simp e (sym (other_said t n (no y z f g)))
      where
        no : (y z : Bool) → eqb t 0x20 ≡ y → eqb t 0x21 ≡ z → is_reply t n ≡ false
        no true z f g = simp (f, e)
        no false true f g = simp (f, g, e)
        no false false f g = simp (f, g)
    by true true z e f g = simp (e, f) (sym (ap (λ (x : ℕ). lmp_said x n) (eqb-true t 0x20 f) ∙ reply_said false n (ltb-true n 16 e)))
    by true false true e f g = simp (e, f, g) (sym (ap (λ (x : ℕ). lmp_said x n) (eqb-true t 0x21 g) ∙ reply_said true n (ltb-true n 16 e)))
    by true false false e f g = simp (e, f, g) (sym (other_said t n (simp (f, g))))

module _ (s : ℕ) (d : OpenData) (p : OpenPriority) (x : Symbol) (e : ℤ) where
  abbrev Agrees : Phase → Kind → Step → Type 0
  Agrees w k a = step_says a ≡ read_of (st s d p w) (clean x e) k

  -- ---- where no sequence is begun

  starts : (o : Opener) (t : Bool) → may_start o d p ≡ t → Agrees Free (Opens o) (free_of (Opens o) (st s d p Free))
  unfolding free_of read_of violation_of broken
  starts Sdp true h = simp h
  starts Sdp false h = simp h
  starts Spp true h = simp h
  starts Spp false h = simp h
  starts Slp t h = refl

  ends : (bad : Bool) (t u : Bool) → outside d p ≡ t → has_byte d p ≡ u → Agrees Free (Closes bad) (free_of (Closes bad) (st s d p Free))
  unfolding free_of read_of violation_of broken
  ends bad true u o h = simp o
  ends bad false true o h = simp (o, h)
  ends bad false false o h = simp (o, h)

  -- ---- a begun sequence

  closings : (bad : Bool) (b : ℕ) (t : Bool) → eqb b (opening_byte d p) ≡ t → Agrees (Next (Closing bad)) (Data b) (due_of (Closing bad) b (st s d p (Next (Closing bad))))
  unfolding due_of read_of violation_of broken
  closings bad b true h = simp h
  closings bad b false h = simp h

  lmps : (t n b : ℕ) (u : Bool) → eqb b (bit_xor t n) ≡ u → Agrees (Next (LmpCheck t n)) (Data b) (due_of (LmpCheck t n) b (st s d p (Next (LmpCheck t n))))
  unfolding due_of read_of violation_of broken
  lmps t n b true h = simp h (ap (λ (y : Said). record { said = y; reader = st s d p Free }) (lmp_agrees t n))
  lmps t n b false h = simp h

  idles : (n : ℕ) (k : Kind) → Agrees (Idles n) k (idle_of n k (st s d p (Idles n)))
  unfolding idle_of read_of violation_of broken
  idles n (Data b) = refl
  idles n Idl = refl
  idles n Com = refl
  idles n (Opens o) = refl
  idles n (Closes bad) = refl
  idles n NoPlace = refl
  idles n Unsupported = refl

  drops : (k : Kind) → Agrees Dropping k (drop_of k (st s d p Dropping))
  unfolding drop_of read_of dropped
  drops (Data b) = refl
  drops Idl = refl
  drops Com = refl
  drops (Opens o) = refl
  drops (Closes bad) = refl
  drops NoPlace = refl
  drops Unsupported = refl

  -- ---- a result that is not clean

  wrongs : (w : Phase) (k : Kind) → step_says (spoiled_of OtherDisparity w (st s d p w)) ≡ read_of (st s d p w) (wrong_disparity x e) k
  unfolding read_of violation_of broken dropped
  wrongs Free k = refl
  wrongs (Next due) k = refl
  wrongs (Idles n) k = refl
  wrongs Dropping k = refl

  invalids : (w : Phase) → step_says (spoiled_of NoCharacter w (st s d p w)) ≡ read_of (st s d p w) (invalid e) NoPlace
  unfolding read_of violation_of broken dropped
  invalids Free = refl
  invalids (Next due) = refl
  invalids (Idles n) = refl
  invalids Dropping = refl

module _ (s : ℕ) (x : Symbol) (e : ℤ) where
  -- a byte goes to the packet it belongs to
  bytes : (d : OpenData) (p : OpenPriority) (b : ℕ) → Agrees s d p x e Free (Data b) (free_of (Data b) (st s d p Free))
  unfolding free_of read_of violation_of broken
  bytes d (Some inner) b = by (leb s inner.count) refl
    where
      by : (t : Bool) → leb s inner.count ≡ t → Agrees s d (Some inner) x e Free (Data b) (free_of (Data b) (st s d (Some inner) Free))
      by true h = simp h
      by false h = simp h
  bytes (Some outer) None b = refl
  bytes None None b = by (eqb b 0) refl
    where
      by : (t : Bool) → eqb b 0 ≡ t → Agrees s None None x e Free (Data b) (free_of (Data b) (st s None None Free))
      by true h = simp h
      by false h = simp h

  -- and so do an end and its CRC
  crcs : (d : OpenData) (p : OpenPriority) (bad : Bool) (a b : ℕ) (t : Bool) → right_crc (register_in d p) a b ≡ t
      → Agrees s d p x e (Next (SecondCrc bad a)) (Data b) (due_of (SecondCrc bad a) b (st s d p (Next (SecondCrc bad a))))
  unfolding due_of read_of violation_of broken
  crcs d (Some inner) bad a b true h = simp h
  crcs d (Some inner) bad a b false h = simp h
  crcs d None bad a b true h = simp h
  crcs d None bad a b false h = simp h

  module _ (d : OpenData) (p : OpenPriority) where
    frees : (k : Kind) → Agrees s d p x e Free k (free_of k (st s d p Free))
    unfolding free_of read_of violation_of broken
    frees (Data b) = bytes d p b
    frees Idl = refl
    frees Com = refl
    frees (Opens o) = starts s d p x e o (may_start o d p) refl
    frees (Closes bad) = ends s d p x e bad (outside d p) (has_byte d p) refl refl
    frees NoPlace = refl
    frees Unsupported = refl

    dues : (due : Due) (b : ℕ) → Agrees s d p x e (Next due) (Data b) (due_of due b (st s d p (Next due)))
    unfolding due_of read_of violation_of broken
    dues Channel b = refl
    dues Opening b = refl
    dues (Closing bad) b = closings s d p x e bad b (eqb b (opening_byte d p)) refl
    dues (FirstCrc bad) b = refl
    dues (SecondCrc bad a) b = crcs d p bad a b (right_crc (register_in d p) a b) refl
    dues LmpType b = refl
    dues (LmpNumber t) b = refl
    dues (LmpCheck t n) b = lmps s d p x e t n b (eqb b (bit_xor t n)) refl

    sequences : (due : Due) (k : Kind) → Agrees s d p x e (Next due) k (seq_of due k (st s d p (Next due)))
    unfolding seq_of read_of violation_of broken
    sequences due (Data b) = dues due b
    sequences due Idl = refl
    sequences due Com = refl
    sequences due (Opens o) = refl
    sequences due (Closes bad) = refl
    sequences due NoPlace = refl
    sequences due Unsupported = refl

    cleans : (w : Phase) (k : Kind) → Agrees s d p x e w k (clean_of w k (st s d p w))
    unfolding clean_of
    cleans Free k = frees k
    cleans (Next due) k = sequences due k
    cleans (Idles n) k = idles s d p x e n k
    cleans Dropping k = drops s d p x e k

-- THE LAW: in a state that keeps the rule, whatever refused the result
pub agree_with : {E : Type 0} (r : Reader) (g : Result Decoded E) → well_formed r ≡ true → answered r (tried_of r g) ≡ step_with r g
unfolding advance_of step_of class_of
agree_with r (Ok (Clean x e)) ok = by (is_symbol x) refl
  where
    by : (t : Bool) → is_symbol x ≡ t → answered r (advance_of r (Clean x e)) ≡ step_of r (decoded_says (Clean x e))
    by true h = simp (ok, h) (cleans r.size x e r.packet r.priority r.phase (kind_of x))
    by false h = simp (ok, h)
agree_with r (Ok (WrongDisparity x e)) ok = by (is_symbol x) refl
  where
    by : (t : Bool) → is_symbol x ≡ t → answered r (advance_of r (WrongDisparity x e)) ≡ step_of r (decoded_says (WrongDisparity x e))
    by true h = simp (ok, h) (wrongs r.size r.packet r.priority x e r.phase (kind_of x))
    by false h = simp (ok, h)
agree_with r (Ok (Invalid e)) ok = simp ok (invalids r.size r.packet r.priority (record { byte = 0; control = false }) e r.phase)
agree_with r (Err n) ok = refl

-- a state that breaks the rule is refused
pub ill_formed_with : {E : Type 0} (r : Reader) (g : Result Decoded E) → well_formed r ≡ false → refused_step r 1 ≡ step_with r g
unfolding step_of
ill_formed_with r (Ok (Clean x e)) h = by (is_symbol x) refl
  where
    by : (t : Bool) → is_symbol x ≡ t → refused_step r 1 ≡ step_of r (decoded_says (Clean x e))
    by true q = simp (h, q)
    by false q = simp q
ill_formed_with r (Ok (WrongDisparity x e)) h = by (is_symbol x) refl
  where
    by : (t : Bool) → is_symbol x ≡ t → refused_step r 1 ≡ step_of r (decoded_says (WrongDisparity x e))
    by true q = simp (h, q)
    by false q = simp q
ill_formed_with r (Ok (Invalid e)) h = simp h
ill_formed_with r (Err n) h = refl

-- and so of what the result says, where a refusal has its number
pub agree : (r : Reader) (g : Result Decoded Refusal) → well_formed r ≡ true → answered r (tried_of r g) ≡ step_of r (reading_says g)
agree r g ok = agree_with r g ok ∙ with_says r g

pub ill_formed : (r : Reader) (g : Result Decoded Refusal) → well_formed r ≡ false → refused_step r 1 ≡ step_of r (reading_says g)
ill_formed r g h = ill_formed_with r g h ∙ with_says r g

-- ---- what a call gives and what it leaves are the two parts of the answer

said_is : (r : Reader) (a : Result Step Refusal) → answer_says (event_of a) ≡ (answered r a).said
said_is r (Ok s) = refl
said_is r (Err e) = refl

left_is : (r : Reader) (a : Result Step Refusal) → reader_of r a ≡ (answered r a).reader
left_is r (Ok s) = refl
left_is r (Err e) = refl

pub says_step : {E : Type 0} (r : Reader) (g : Result Decoded E) → well_formed r ≡ true → answer_says (event_of (tried_of r g)) ≡ (step_with r g).said
says_step r g ok = said_is r (tried_of r g) ∙ ap (λ (a : Answer). a.said) (agree_with r g ok)

pub leaves_step : {E : Type 0} (r : Reader) (g : Result Decoded E) → well_formed r ≡ true → reader_of r (tried_of r g) ≡ (step_with r g).reader
leaves_step r g ok = left_is r (tried_of r g) ∙ ap (λ (a : Answer). a.reader) (agree_with r g ok)
