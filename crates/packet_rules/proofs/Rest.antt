-- What must still come, from each state of the reader, for it to be outside again with nothing found wrong; and it is of legal pieces.
-- Assumes nothing.
use mathlib.Core.Path.{◌≡◌, refl, sym, ap, ap₂, subst, ◌∙◌}
use mathlib.Core.Bool.{Bool, true, false, ◌||◌}
use mathlib.Core.List.{List, [], ◌∷◌, ◌++◌, map, append_assoc}
use mathlib.Core.Option.{none, some}
use Prim.Native.Nat.{ℕ, ◌+◌, ◌-◌, ◌*◌, ◌/◌, ◌%◌, ◌≤◌, ◌<◌}
use native.Mathlib.Omega.{arith}
use borrow.Author.Tests.{ltb-true, leb-true, eqb-true}
use lib.Bits.{bit_xor}
use lib.Dec.{eqb, ltb, leb}
use lib.ListN.{length, get_or}
use Rattle.symbol.specs.Symbols.{data_symbol}
use Rattle.symbol.specs.declared.Symbol.{Symbol}
use Rattle.laws.proofs.Cases.{by_test, first_true, second_true, false_is_not_true}
use Rattle.crc.specs.Crc16.{crc_start, crc_byte, crc_from, check_bytes_of, crc_of}
use Rattle.crc.proofs.Laws.{start_value, check_bytes_lem, crc_cons, crc_none, crc_lt}
use Rattle.packet_rules.specs.Open.{OpenData, OpenPriority, open_data, open_priority}
use Rattle.std.specs.Prelude.{Some, None}
use Rattle.packet_rules.specs.declared.Due.{Due}
use Rattle.packet_rules.specs.declared.Due.TheVariants.{Channel, Opening, Closing, FirstCrc, SecondCrc, LmpType, LmpNumber, LmpCheck}
use Rattle.packet_rules.specs.declared.Phase.{Phase}
use Rattle.packet_rules.specs.declared.Phase.TheVariants.{Free, Next, Idles, Dropping}
use Rattle.packet_rules.specs.declared.Reader.{Reader}
use Rattle.packet_rules.specs.Answers.{Said, nothing, started, replied}
use Rattle.packet_rules.specs.State.{outside, has_byte, opening_byte, register_in, priority_rule}
use Rattle.packet_rules.specs.Line.{COM, IDL, SPP, SDP, SLP, end_symbol, is_reply, Fill, com_idles, reply, other, Inside, end, among, closing, closing_said, PriorityLine, priority, Within, fill, nested, packet, within, data_packet, LegalLine, then}

-- ---- the register after bytes, one by one, and its two check bytes

abbrev pub register_after : ℕ → List ℕ → ℕ
register_after c [] = c
register_after c (b ∷ bs) = register_after (crc_byte c b) bs

register_after_lem : (c : ℕ) (bs : List ℕ) → c < 65536 → register_after c bs ≡ crc_from c bs
register_after_lem c [] h = sym (crc_none c h)
register_after_lem c (b ∷ bs) h = register_after_lem (crc_byte c b) bs (crc_lt c (b ∷ [])) ∙ sym (crc_cons c b bs)

abbrev pub first_of : ℕ → ℕ
first_of c = get_or (check_bytes_of c) 0 0

abbrev pub second_of : ℕ → ℕ
second_of c = get_or (check_bytes_of c) 1 0

-- an end symbol, the opening byte again, the check bytes of a register
abbrev pub ends_with : Bool → ℕ → ℕ → List Symbol → List Symbol
ends_with bad o c ts = end_symbol bad ∷ data_symbol o ∷ data_symbol (first_of c) ∷ data_symbol (second_of c) ∷ ts

two_symbols : (c : ℕ) → map data_symbol (check_bytes_of c) ≡ data_symbol (first_of c) ∷ data_symbol (second_of c) ∷ []
two_symbols c =
    subst (λ (l : List ℕ). map data_symbol l ≡ data_symbol (get_or l 0 0) ∷ data_symbol (get_or l 1 0) ∷ []) (sym (check_bytes_lem c)) refl

-- a closing, as the description has it
closing_is : (xs ts : List Symbol) (bad : Bool) (o : ℕ) (bs : List ℕ)
    → (xs ++ closing bad o bs) ++ ts ≡ xs ++ ends_with bad o (register_after crc_start bs) ts
unfolding crc_of
closing_is xs ts bad o bs =
    let lt : crc_start < 65536 = rw start_value (omega arith) in
    let q : map data_symbol (crc_of bs) ≡ data_symbol (first_of (register_after crc_start bs)) ∷ data_symbol (second_of (register_after crc_start bs)) ∷ [] =
    ap (λ (c : ℕ). map data_symbol (check_bytes_of c)) (sym (register_after_lem crc_start bs lt)) ∙ two_symbols (register_after crc_start bs) in
    append_assoc xs (closing bad o bs) ts ∙ ap (λ (l : List Symbol). xs ++ (end_symbol bad ∷ data_symbol o ∷ (l ++ ts))) q

-- ---- what must still come

-- the rest of an open packet: bytes, as many as fit, what may stand among them, its closing, and what comes after it
pub data Body (Among : List Symbol → List Said → Type 0) (After : List Symbol → Type 0) (o c : ℕ) (Fit : ℕ → Type 0) : List Symbol → Type 0 where
  body : (bs : List ℕ) (bad : Bool) {xs ts : List Symbol} {es : List Said} → Inside Among bs xs es → Fit (length bs) → After ts
      → Body Among After o c Fit (xs ++ ends_with bad o (register_after c bs) ts)

-- a byte that is due, and then what comes after it
pub data OneByte (After : ℕ → List Symbol → Type 0) : List Symbol → Type 0 where
  one_byte : (b : ℕ) {ts : List Symbol} → b < 256 → After b ts → OneByte After (data_symbol b ∷ ts)

-- so many IDL
pub data IdlesLeft (After : List Symbol → Type 0) : ℕ → List Symbol → Type 0 where
  last_idle : (n : ℕ) {ts : List Symbol} → leb n 1 ≡ true → After ts → IdlesLeft After n (IDL ∷ ts)
  one_idle : (n : ℕ) {ts : List Symbol} → leb n 1 ≡ false → IdlesLeft After (n - 1) ts → IdlesLeft After n (IDL ∷ ts)

module _ (s : ℕ) where
  abbrev pub Line : List Symbol → Type 0
  Line ss = (es : List Said) × LegalLine s ss es

  abbrev pub InDataRest : OpenData → List Symbol → Type 0
  InDataRest None ss = Line ss
  InDataRest (Some outer) ss = Body (Within s) Line outer.channel outer.register (λ k. outer.begun ≡ false → 1 ≤ k) ss

  abbrev pub FreeRest : OpenData → OpenPriority → List Symbol → Type 0
  FreeRest d None ss = InDataRest d ss
  FreeRest d (Some inner) ss = Body Fill (InDataRest d) inner.opening inner.register (λ k. (1 ≤ inner.count + k) × (inner.count + k ≤ s)) ss

  -- after the packet to which an end belongs
  abbrev pub ClosedRest : OpenData → OpenPriority → List Symbol → Type 0
  ClosedRest d None ss = Line ss
  ClosedRest d (Some inner) ss = InDataRest d ss

  module _ (d : OpenData) (p : OpenPriority) where
    abbrev pub SecondRest : ℕ → List Symbol → Type 0
    SecondRest a = OneByte (λ b ts. ((a ≡ first_of (register_in d p)) × (b ≡ second_of (register_in d p))) × ClosedRest d p ts)

    abbrev pub FirstRest : List Symbol → Type 0
    FirstRest = OneByte SecondRest

    abbrev pub CheckRest : ℕ → ℕ → List Symbol → Type 0
    CheckRest t n = OneByte (λ b ts. (b ≡ bit_xor t n) × FreeRest d p ts)

    abbrev pub NumberRest : ℕ → List Symbol → Type 0
    NumberRest t = OneByte (CheckRest t)

    abbrev pub DueRest : Due → List Symbol → Type 0
    DueRest Channel = OneByte (λ b. FreeRest (open_data b false crc_start) p)
    DueRest Opening = OneByte (λ b. FreeRest d (open_priority b 0 crc_start))
    DueRest (Closing bad) = OneByte (λ b ts. (b ≡ opening_byte d p) × FirstRest ts)
    DueRest (FirstCrc bad) = FirstRest
    DueRest (SecondCrc bad a) = SecondRest a
    DueRest LmpType = OneByte NumberRest
    DueRest (LmpNumber t) = NumberRest t
    DueRest (LmpCheck t n) = CheckRest t n

    -- nothing is said of a reader that drops: no line without a violation comes to it
    abbrev pub PhaseRest : Phase → List Symbol → Type 0
    PhaseRest Free ss = FreeRest d p ss
    PhaseRest (Next x) ss = DueRest x ss
    PhaseRest (Idles n) ss = IdlesLeft (FreeRest d p) n ss
    PhaseRest Dropping ss = Unit {0}

  abbrev pub Rest : Reader → List Symbol → Type 0
  Rest r ss = PhaseRest r.packet r.priority r.phase ss

  -- ---- a piece before what must still come

  within_first : (d : OpenData) (ts : List Symbol) {fs : List Symbol} {gs : List Said} → Within s fs gs → InDataRest d ts → InDataRest d (fs ++ ts)
  within_first None ts {gs = gs} w (es, l) = (gs ++ es, then (within w) l)
  within_first (Some outer) ts {fs} w (body bs bad {xs = xs} {ts = us} i fit after) =
      subst (λ (l : List Symbol). InDataRest (Some outer) l) (append_assoc fs xs (ends_with bad outer.channel (register_after outer.register bs) us))
      (body bs bad (among w i) fit after)

  pub fill_first : (d : OpenData) (p : OpenPriority) (ts : List Symbol) {fs : List Symbol} {gs : List Said} → Fill fs gs → FreeRest d p ts
      → FreeRest d p (fs ++ ts)
  fill_first d None ts f l = within_first d ts (fill f) l
  fill_first d (Some inner) ts {fs} f (body bs bad {xs = xs} {ts = us} i fit after) =
      subst (λ (l : List Symbol). FreeRest d (Some inner) l) (append_assoc fs xs (ends_with bad inner.opening (register_after inner.register bs) us))
      (body bs bad (among f i) fit after)

  -- ---- COM and its idles, and LMPs

  pub com_first : (d : OpenData) (p : OpenPriority) (ts : List Symbol) → IdlesLeft (FreeRest d p) 3 ts → FreeRest d p (COM ∷ ts)
  com_first d p ts (last_idle n e l) = absurd (let z : ◌≡◌ {A = ℕ} 0 1 = cc e in omega arith)
  com_first d p ts (one_idle n e (last_idle m f l)) = absurd (let z : ◌≡◌ {A = ℕ} 0 1 = cc f in omega arith)
  com_first d p ts (one_idle n e (one_idle m f (last_idle k {ts = us} g l))) = fill_first d p us com_idles l
  com_first d p ts (one_idle n e (one_idle m f (one_idle k g l))) = absurd (let z : ◌≡◌ {A = ℕ} 0 1 = cc g in omega arith)

  -- every LMP is a reply or another
  lmp_fill : (t n : ℕ) → (es : List Said) × Fill (SLP ∷ data_symbol t ∷ data_symbol n ∷ data_symbol (bit_xor t n) ∷ []) es
  lmp_fill t n =
      let typed = eqb t 0x20 || eqb t 0x21 in
      by_test (is_reply t n) (λ e. a_reply (ltb-true n 16 (second_true typed (ltb n 16) e)) (first_true typed (ltb n 16) e))
      (λ e. (nothing ∷ nothing ∷ nothing ∷ nothing ∷ [], other t n e))
    where
      Some : ℕ → Type 0
      Some x = (es : List Said) × Fill (SLP ∷ data_symbol x ∷ data_symbol n ∷ data_symbol (bit_xor x n) ∷ []) es

      a_reply : n < 16 → eqb t 0x20 || eqb t 0x21 ≡ true → Some t
      a_reply h e =
          by_test (eqb t 0x20) (λ q. subst Some (sym (eqb-true t 0x20 q)) (nothing ∷ nothing ∷ nothing ∷ replied false n ∷ [], reply false n h))
          (λ q. subst Some (sym (eqb-true t 0x21 (subst (λ (x : Bool). x || eqb t 0x21 ≡ true) q e)))
          (nothing ∷ nothing ∷ nothing ∷ replied true n ∷ [], reply true n h))

  pub lmp_first : (d : OpenData) (p : OpenPriority) (ts : List Symbol) → DueRest d p LmpType ts → FreeRest d p (SLP ∷ ts)
  lmp_first d p ts (one_byte t lt (one_byte n ln (one_byte b {ts = us} lb (q, l)))) =
      subst (λ (x : ℕ). FreeRest d p (SLP ∷ data_symbol t ∷ data_symbol n ∷ data_symbol x ∷ us)) (sym q) (fill_first d p us (lmp_fill t n).1 l)

  -- ---- packets

  pub priority_first : (d : OpenData) (ts : List Symbol) → DueRest d None Opening ts → InDataRest d (SPP ∷ ts)
  priority_first d ts (one_byte b lt (body bs bad {xs = xs} {ts = us} {es = es} i fit after)) =
      let c = b % 16 in
      let g = b / 16 in
      let same : 16 * g + c ≡ b = omega arith in
      let whole : PriorityLine s (SPP ∷ data_symbol b ∷ (xs ++ closing bad b bs)) (nothing ∷ started c (some g) ∷ (es ++ closing_said bad)) =
      subst (λ (x : ℕ). PriorityLine s (SPP ∷ data_symbol x ∷ (xs ++ closing bad x bs)) (nothing ∷ started c (some g) ∷ (es ++ closing_said bad))) same
      (priority c g bs bad (omega arith) (omega arith) (omega (arith, fit.0)) (omega (arith, fit.1)) i) in
      subst (λ (l : List Symbol). InDataRest d (SPP ∷ data_symbol b ∷ l)) (closing_is xs us bad b bs) (within_first d us (nested whole) after)

  pub data_first : (ts : List Symbol) → DueRest None None Channel ts → Line (SDP ∷ ts)
  data_first ts (one_byte b lt (body bs bad {xs = xs} {ts = us} {es = es} i fit (fs, l))) =
      subst (λ (r : List Symbol). Line (SDP ∷ data_symbol b ∷ r)) (closing_is xs us bad b bs)
      ((nothing ∷ started b none ∷ (es ++ closing_said bad)) ++ fs, then (data_packet (packet b bs bad lt (fit refl) i)) l)

  -- ---- the closing of a packet that has a byte

  ends : (d : OpenData) (p : OpenPriority) (bad : Bool) (ts : List Symbol) → DueRest d p (Closing bad) ts
      → (us : List Symbol) × (ClosedRest d p us × (ends_with bad (opening_byte d p) (register_in d p) us ≡ end_symbol bad ∷ ts))
  ends d p bad ts (one_byte h lh (q, one_byte a la (one_byte b {ts = us} lb ((x, y), l)))) = (
    us,
    (
      l,
      subst (λ (z : ℕ). ends_with bad z (register_in d p) us ≡ end_symbol bad ∷ data_symbol h ∷ data_symbol a ∷ data_symbol b ∷ us) q
          (ap₂ (λ (m n : ℕ). end_symbol bad ∷ data_symbol h ∷ data_symbol m ∷ data_symbol n ∷ us) (sym x) (sym y)),
    ),
  )

  pub end_first : (d : OpenData) (p : OpenPriority) (bad : Bool) (ts : List Symbol) → outside d p ≡ false → has_byte d p ≡ true → priority_rule s p ≡ true
      → DueRest d p (Closing bad) ts → FreeRest d p (end_symbol bad ∷ ts)
  end_first None None bad ts o h r l = absurd (let z : ◌≡◌ {A = ℕ} 0 1 = cc o in omega arith)
  end_first (Some outer) None bad ts o h r l =
      let e = ends (Some outer) None bad ts l in
      subst (λ (k : List Symbol). FreeRest (Some outer) None k) e.1.1
      (body [] bad end (λ f. absurd (false_is_not_true (sym f ∙ h))) e.1.0)
  end_first d (Some inner) bad ts o h r l =
      let e = ends d (Some inner) bad ts l in
      let one = ltb-true 0 inner.count h in
      let most = leb-true inner.count s (first_true (leb inner.count s) (ltb 0 inner.count || eqb inner.register crc_start) r) in
      subst (λ (k : List Symbol). FreeRest d (Some inner) k) e.1.1 (body [] bad end (omega arith, omega arith) e.1.0)
