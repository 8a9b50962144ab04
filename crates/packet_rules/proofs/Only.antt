-- Only legal lines: where a fresh reader finds nothing wrong in a clean line and is outside again at its end, the line is a legal one.
-- Assumes nothing.
use mathlib.Core.Path.{◌≡◌, refl, sym, subst, ◌∙◌}
use mathlib.Core.Bool.{true, false, ◌&&◌}
use mathlib.Core.List.{List, [], ◌∷◌}
use Prim.Native.Nat.{ℕ, ◌-◌, ◌<◌}
use native.Mathlib.Omega.{arith}
use borrow.Author.Tests.{eqb-true, not-false}
use lib.Bits.{bit_xor}
use lib.Dec.{eqb, leb}
use Rattle.laws.proofs.Cases.{by_test, first_true, second_true, false_is_not_true}
use Rattle.segment_size.specs.Sizes.{size_allowed}
use Rattle.symbol.specs.Symbols.{data_symbol}
use Rattle.symbol.specs.declared.Symbol.{Symbol}
use Rattle.character_rules.specs.Answers.{Reading}
use Rattle.packet_rules.specs.declared.Kind.{Kind}
use Rattle.packet_rules.specs.declared.Kind.TheVariants.{Data, Idl, Com, Opens, Closes, NoPlace, Unsupported}
use Rattle.packet_rules.specs.Open.{OpenData, OpenPriority}
use Rattle.std.specs.Prelude.{Some, None}
use Rattle.packet_rules.specs.declared.Due.{Due}
use Rattle.packet_rules.specs.declared.Due.TheVariants.{Channel, Opening, Closing, FirstCrc, SecondCrc, LmpType, LmpNumber, LmpCheck}
use Rattle.packet_rules.specs.declared.Phase.{Phase}
use Rattle.packet_rules.specs.declared.Phase.TheVariants.{Free, Next, Idles, Dropping}
use Rattle.packet_rules.specs.declared.Reader.{Reader}
use Rattle.packet_rules.specs.Answers.{Said, Answer, ended}
use Rattle.packet_rules.specs.State.{no_priority, outside, has_byte, opening_byte, register_in, fed_priority, fed_data, data_rule, priority_rule, phase_rule, well_formed, fresh}
use Rattle.packet_rules.specs.Symbols.{kind_of}
use Rattle.packet_rules.specs.Violations.{conditions}
use Rattle.packet_rules.specs.Step.{closes_own, free_move, due_move, idles_after, move, is_dropping}
use Rattle.packet_rules.specs.Line.{IDL, SPP, SDP, idl, byte, zeros, LegalLine, empty, then, said_of, after_of, ReadClean, nil, next}
use Rattle.packet_rules.specs.Accepts.{Sound, Bytes, Accepts}
use Rattle.packet_rules.proofs.Choice.{either}
use Rattle.packet_rules.proofs.Lowest.{NoneOf}
use Rattle.packet_rules.proofs.Steps.{st}
use Rattle.packet_rules.proofs.Rest.{body, one_byte, IdlesLeft, last_idle, one_idle, Line, InDataRest, FreeRest, ClosedRest, DueRest, PhaseRest, Rest, fill_first, com_first, lmp_first, priority_first, data_first, end_first, first_of, second_of}
use Rattle.packet_rules.proofs.Quiet.{OfKind, is_byte, is_idl_lem, is_com, is_sdp, is_spp, is_slp, is_end_lem, is_no_place, is_unsupported_lem, of_kind, quiet}
use Rattle.packet_rules.proofs.Legal.{legal_line}

never : {A : Type 0} → true ≡ false → A
never e = absurd (false_is_not_true (sym e))

module _ (s z : ℕ) where
  -- ---- a symbol in its place before what must still come: no sequence is begun

  abbrev Fits : OpenData → OpenPriority → Phase → Kind → Type 0
  Fits d p w k = NoneOf (conditions (st z d p w) k)

  bytes : (d : OpenData) (p : OpenPriority) (b : ℕ) (ts : List Symbol) → Fits d p Free (Data b)
      → FreeRest s (fed_data d p b) (fed_priority p b) ts → FreeRest s d p (data_symbol b ∷ ts)
  bytes None None b ts h (es, l) =
      subst (λ (x : ℕ). Line s (data_symbol x ∷ ts)) (sym (eqb-true b 0 (not-false (eqb b 0) h.1.1.1.1.1.1.0))) (_, then zeros l)
  bytes (Some outer) None b ts h (body bs bad i fit after) = body (b ∷ bs) bad (byte b i) (λ f. omega arith) after
  bytes d (Some inner) b ts h (body bs bad i fit after) =
      body (b ∷ bs) bad (byte b i) (omega (arith, fit.0), omega (arith, fit.1)) after

  sdp : (d : OpenData) (p : OpenPriority) (ts : List Symbol) → outside d p ≡ true → DueRest s d p Channel ts → FreeRest s d p (SDP ∷ ts)
  sdp None None ts h l = data_first s ts l
  sdp (Some outer) None ts h l = never (sym h)
  sdp d (Some inner) ts h l = never (sym h)

  spp : (d : OpenData) (p : OpenPriority) (ts : List Symbol) → no_priority p ≡ true → DueRest s d p Opening ts → FreeRest s d p (SPP ∷ ts)
  spp d None ts h l = priority_first s d ts l
  spp d (Some inner) ts h l = never (sym h)

  frees : (d : OpenData) (p : OpenPriority) {x : Symbol} {k : Kind} → OfKind x k → priority_rule s p ≡ true → Fits d p Free k → (ts : List Symbol)
      → Rest s (free_move k (st z d p Free)).reader ts → FreeRest s d p (x ∷ ts)
  frees d p (is_byte b) r h ts l = bytes d p b ts h l
  frees d p is_idl_lem r h ts l = fill_first s d p ts idl l
  frees d p is_com r h ts l = com_first s d p ts l
  frees d p is_sdp r h ts l = sdp d p ts (not-false (outside d p) h.1.0) l
  frees d p is_spp r h ts l = spp d p ts (not-false (no_priority p) h.1.0) l
  frees d p is_slp r h ts l = lmp_first s d p ts l
  frees d p (is_end_lem bad) r h ts l = end_first s d p bad ts h.1.0 (not-false (has_byte d p) h.1.1.1.1.1.0) r l
  frees d p (is_no_place x) r h ts l = never h.1.0
  frees d p (is_unsupported_lem x) r h ts l = never h.0

  -- ---- a byte is due

  closed : (d : OpenData) (p : OpenPriority) (said : Said) (r : Reader) (ts : List Symbol) → r.packet ≡ d → Rest s (closes_own said p r).reader ts
      → ClosedRest s d p ts
  closed d None said r ts e l = l
  closed d (Some inner) said r ts e l = subst (λ (x : OpenData). InDataRest s x ts) e l

  dues : (d : OpenData) (p : OpenPriority) (x : Due) (b : ℕ) → b < 256 → Fits d p (Next x) (Data b) → (ts : List Symbol)
      → Rest s (due_move x b (st z d p (Next x))).reader ts → DueRest s d p x (data_symbol b ∷ ts)
  dues d p Channel b lt h ts l = one_byte b lt l
  dues d p Opening b lt h ts l = one_byte b lt l
  dues d p (Closing bad) b lt h ts l =
      one_byte b lt (eqb-true b (opening_byte d p) (not-false (eqb b (opening_byte d p)) h.1.1.0), l)
  dues d p (FirstCrc bad) b lt h ts l = one_byte b lt l
  dues d p (SecondCrc bad a) b lt h ts l =
      let first = eqb a (first_of (register_in d p)) in
      let second = eqb b (second_of (register_in d p)) in
      let right = not-false (first && second) h.1.1.1.0 in
      one_byte b lt (
        (eqb-true a (first_of (register_in d p)) (first_true first second right), eqb-true b (second_of (register_in d p)) (second_true first second right)),
        closed d p (ended bad) (st z d p (Next (SecondCrc bad a))) ts refl l,
      )
  dues d p LmpType b lt h ts l = one_byte b lt l
  dues d p (LmpNumber t) b lt h ts l = one_byte b lt l
  dues d p (LmpCheck t n) b lt h ts l = one_byte b lt (eqb-true b (bit_xor t n) (not-false (eqb b (bit_xor t n)) h.1.1.1.1.0), l)

  nexts : (d : OpenData) (p : OpenPriority) (w : Due) {x : Symbol} {k : Kind} → OfKind x k → x.byte < 256 → Fits d p (Next w) k → (ts : List Symbol)
      → Rest s (move (Next w) k (st z d p (Next w))).reader ts → DueRest s d p w (x ∷ ts)
  nexts d p w (is_byte b) lt h ts l = dues d p w b lt h ts l
  nexts d p w is_idl_lem lt h ts l = never h.1.0
  nexts d p w is_com lt h ts l = never h.1.0
  nexts d p w is_sdp lt h ts l = never h.1.0
  nexts d p w is_spp lt h ts l = never h.1.0
  nexts d p w is_slp lt h ts l = never h.1.0
  nexts d p w (is_end_lem bad) lt h ts l = never h.1.0
  nexts d p w (is_no_place x) lt h ts l = never h.1.0
  nexts d p w (is_unsupported_lem x) lt h ts l = never h.1.0

  -- ---- after COM

  idles : (d : OpenData) (p : OpenPriority) (n : ℕ) {x : Symbol} {k : Kind} → OfKind x k → Fits d p (Idles n) k → (ts : List Symbol)
      → PhaseRest s d p (idles_after n) ts → IdlesLeft (FreeRest s d p) n (x ∷ ts)
  idles d p n is_idl_lem h ts l =
      either (λ (w : Phase). PhaseRest s d p w ts → IdlesLeft (FreeRest s d p) n (IDL ∷ ts)) (leb n 1) Free (Idles (n - 1))
      (λ e m. last_idle n e m) (λ e m. one_idle n e m) l
  idles d p n (is_byte b) h ts l = never h.1.0
  idles d p n is_com h ts l = never h.1.0
  idles d p n is_sdp h ts l = never h.1.0
  idles d p n is_spp h ts l = never h.1.0
  idles d p n is_slp h ts l = never h.1.0
  idles d p n (is_end_lem bad) h ts l = never h.1.0
  idles d p n (is_no_place x) h ts l = never h.1.0
  idles d p n (is_unsupported_lem x) h ts l = never h.0

  -- in every phase
  before : (d : OpenData) (p : OpenPriority) (w : Phase) {x : Symbol} {k : Kind} → OfKind x k → x.byte < 256 → priority_rule s p ≡ true → Fits d p w k
      → (ts : List Symbol) → Rest s (move w k (st z d p w)).reader ts → PhaseRest s d p w (x ∷ ts)
  before d p Free v lt r h ts l = frees d p v r h ts l
  before d p (Next x) v lt r h ts l = nexts d p x v lt h ts l
  before d p (Idles n) v lt r h ts l = idles d p n v h ts l
  before d p Dropping v lt r h ts l = tt

-- ---- S is the same after a step

due_size : (x : Due) (b : ℕ) (r : Reader) → (due_move x b r).reader.size ≡ r.size
due_size Channel b r = refl
due_size Opening b r = refl
due_size (Closing bad) b r = refl
due_size (FirstCrc bad) b r = refl
due_size (SecondCrc bad a) b r = own r.priority
  where
    own : (p : OpenPriority) → (closes_own (ended bad) p r).reader.size ≡ r.size
    own None = refl
    own (Some inner) = refl
due_size LmpType b r = refl
due_size (LmpNumber t) b r = refl
due_size (LmpCheck t n) b r = refl

free_size : (k : Kind) (r : Reader) → (free_move k r).reader.size ≡ r.size
free_size (Data b) r = refl
free_size Idl r = refl
free_size Com r = refl
free_size (Opens o) r = refl
free_size (Closes bad) r = refl
free_size NoPlace r = refl
free_size Unsupported r = refl

move_size : (w : Phase) (k : Kind) (r : Reader) → (move w k r).reader.size ≡ r.size
move_size Free k r = free_size k r
move_size (Next x) k r = due_size x _ r
move_size (Idles n) k r = refl
move_size Dropping k r = refl

priority_kept : (r : Reader) → well_formed r ≡ true → priority_rule r.size r.priority ≡ true
unfolding well_formed
priority_kept r h =
    let a = size_allowed r.size in
    let d = data_rule r.packet in
    let p = priority_rule r.size r.priority in
    let w = phase_rule r.packet r.priority r.phase in
    first_true p w (second_true d (p && w) (second_true a (d && (p && w)) h))

asleep : (s : ℕ) (d : OpenData) (p : OpenPriority) (w : Phase) (ss : List Symbol) → is_dropping w ≡ true → PhaseRest s d p w ss
asleep s d p Free ss e = never (sym e)
asleep s d p (Next x) ss e = never (sym e)
asleep s d p (Idles n) ss e = never (sym e)
asleep s d p Dropping ss e = tt

-- ---- the whole line, from any state

remains : (s : ℕ) (r : Reader) {ss : List Symbol} {gs : List Reading} → r.size ≡ s → ReadClean ss gs → Bytes ss → Sound (said_of r gs)
    → after_of r gs ≡ fresh s → Rest s r ss
unfolding said_of after_of
remains s r z nil b q a = subst (λ (x : Reader). Rest s x []) (sym a) ([], empty)
remains s r z (next x e {ss = ss} {gs = gs} c) (lt, b) (q, qs) a =
    by_test (is_dropping r.phase) (λ f. asleep s r.packet r.priority r.phase (x ∷ ss) f)
    (λ f. let m = quiet r x e f q.0 q.1 in
    let k = kind_of x in
    before s r.size r.packet r.priority r.phase (of_kind x) lt
    (subst (λ (n : ℕ). priority_rule n r.priority ≡ true) z (priority_kept r m.rule)) m.fits ss
    (remains s (move r.phase k r).reader (move_size r.phase k r ∙ z) c b
    (subst (λ (t : Answer). Sound (said_of t.reader gs)) m.moved qs)
    (subst (λ (t : Answer). after_of t.reader gs ≡ fresh s) m.moved a)))

-- THE THEOREM: a clean line in which a fresh reader finds nothing wrong, and after which it is outside again, is legal, and it is the line of what was said
pub only_legal : (s : ℕ) → size_allowed s ≡ true → {ss : List Symbol} {gs : List Reading} → ReadClean ss gs → Bytes ss → Accepts s gs
    → LegalLine s ss (said_of (fresh s) gs)
only_legal s ok {ss} {gs} c b a =
    let l = remains s (fresh s) refl c b a.0 a.1 in
    subst (λ (es : List Said). LegalLine s ss es) (sym (legal_line s ok l.1 c).0) l.1
