-- On every legal line the reader says exactly what the description says, and is fresh again after it.
-- Assumes nothing.
use mathlib.Core.Path.{◌≡◌, refl, sym, ap, ap₂, subst, ◌∙◌}
use mathlib.Core.Bool.{Bool, true, false, cond, ◌&&◌}
use mathlib.Core.List.{List, [], ◌∷◌, ◌++◌, map}
use mathlib.Core.Option.{none, some}
use Prim.Native.Nat.{ℕ, ◌+◌, ◌-◌, ◌*◌, ◌/◌, ◌%◌, ◌≤◌, ◌<◌}
use native.Mathlib.Omega.{arith}
use borrow.Author.Tests.{lt-ltb, ltb-true, eq-eqb, eqb-true, eqb-false}
use lib.Bits.{bit_xor}
use lib.Dec.{eqb, ltb}
use lib.ListN.{length, get_or}
use Rattle.symbol.specs.Symbols.{data_symbol}
use Rattle.symbol.specs.declared.Symbol.{Symbol}
use Rattle.laws.proofs.Cases.{first_true, second_true}
use Rattle.character_rules.specs.Answers.{Reading}
use Rattle.crc.specs.Crc16.{crc_start, crc_from, check_bytes_of, crc_of}
use Rattle.crc.proofs.Laws.{start_value, check_bytes_lem}
use Rattle.packet_rules.specs.Open.{OpenData, OpenPriority, open_data, open_priority}
use Rattle.std.specs.Prelude.{Some, None}
use Rattle.packet_rules.specs.declared.Due.TheVariants.{Channel, Opening, Closing, FirstCrc, SecondCrc, LmpType, LmpNumber, LmpCheck}
use Rattle.packet_rules.specs.declared.Phase.{Phase}
use Rattle.packet_rules.specs.declared.Phase.TheVariants.{Free, Next, Idles}
use Rattle.packet_rules.specs.declared.Reader.{Reader}
use Rattle.packet_rules.specs.Answers.{Said, nothing, started, gave_byte, ended, replied}
use Rattle.packet_rules.specs.State.{no_priority, outside, has_byte, opening_byte, register_in, fed_priority, fed_data, well_formed, fresh}
use Rattle.segment_size.specs.Sizes.{size_allowed}
use Rattle.packet_rules.specs.Step.{closes_own, lmp_said}
use Rattle.packet_rules.specs.Line.{COM, IDL, SPP, SDP, SLP, end_symbol, is_reply, Fill, idl, com_idles, reply, other, Inside, end, byte, among, closing, closing_said, PriorityLine, priority, Within, fill, nested, DataLine, packet, Outside, zeros, within, data_packet, LegalLine, empty, then, said_of, after_of, ReadClean}
use Rattle.packet_rules.proofs.Kept.{fresh_kept}
use Rattle.packet_rules.proofs.Runs.{gives, Runs, stop, step, runs_append, runs_kept, go, runs_said}
use Rattle.packet_rules.proofs.Steps.{st, on_idl, on_com, on_idles, on_last_idle, on_slp, on_spp, on_sdp, on_byte, on_end, on_channel, on_opening, on_closing, on_first, on_second, on_lmp_type, on_lmp_number, on_lmp_check, on_zero}
use Rattle.packet_rules.proofs.Fed.{priority_after, data_after, fed_priority_lem, fed_outside, Room, room_full, room_less, after_outside, after_opening, after_register, after_has}

-- ---- LMPs

pub reply_said : (nack : Bool) (n : ℕ) → n < 16 → lmp_said (cond nack 0x21 0x20) n ≡ replied nack n
reply_said true n h =
    let m : n % 16 ≡ n = omega arith in
    simp (eq-eqb (n / 16) 0 (omega arith), m)
reply_said false n h =
    let m : n % 16 ≡ n = omega arith in
    simp (eq-eqb (n / 16) 0 (omega arith), m)

pub other_said : (t n : ℕ) → is_reply t n ≡ false → lmp_said t n ≡ nothing
other_said t n h = by (eqb (t / 16) 2 && (ltb (t % 16) 2 && eqb (n / 16) 0)) refl
  where
    -- the two conditions are one
    same : (eqb (t / 16) 2 && (ltb (t % 16) 2 && eqb (n / 16) 0)) ≡ true → (b : Bool) → eqb t 0x20 ≡ b → is_reply t n ≡ true
    same e b q =
        let a = eqb-true (t / 16) 2 (first_true (eqb (t / 16) 2) _ e) in
        let f = second_true (eqb (t / 16) 2) (ltb (t % 16) 2 && eqb (n / 16) 0) e in
        let x = ltb-true (t % 16) 2 (first_true (ltb (t % 16) 2) (eqb (n / 16) 0) f) in
        let y = eqb-true (n / 16) 0 (second_true (ltb (t % 16) 2) (eqb (n / 16) 0) f) in
        two b q a x (lt-ltb n 16 (omega arith))
      where
        two : (b : Bool) → eqb t 0x20 ≡ b → t / 16 ≡ 2 → t % 16 < 2 → ltb n 16 ≡ true → is_reply t n ≡ true
        two true q a x l = simp (q, l)
        two false q a x l = simp (q, eq-eqb t 0x21 (let ne = eqb-false t 0x20 q in three ne), l)
          where
            three : (t ≡ 0x20 → ⊥) → t ≡ 0x21
            three ne = omega (arith, ne)

    by : (b : Bool) → (eqb (t / 16) 2 && (ltb (t % 16) 2 && eqb (n / 16) 0)) ≡ b → lmp_said t n ≡ nothing
    by false e = simp e
    by true e = absurd (let z : ◌≡◌ {A = Bool} true false = sym (same e (eqb t 0x20) refl) ∙ h in let y : ◌≡◌ {A = ℕ} 0 1 = cc z in omega arith)

-- ---- the closing of a packet, of either kind

-- the state after an end: the packet to which it belongs is closed
abbrev pub closed : ℕ → OpenData → OpenPriority → Reader
closed s d (Some inner) = st s d None Free
closed s d None = st s None None Free

own_closed : (s : ℕ) (d : OpenData) (p : OpenPriority) (w : Phase) (said : Said) → closes_own said p (st s d p w) ≡ gives said (closed s d p)
own_closed s d (Some inner) w said = refl
own_closed s d None w said = refl

closed_after : (s : ℕ) (d : OpenData) (p : OpenPriority) (bs : List ℕ) → closed s (data_after d p bs) (priority_after p bs) ≡ closed s d p
closed_after s d p [] = refl
closed_after s d (Some inner) (b ∷ bs) = closed_after s d (fed_priority (Some inner) b) bs
closed_after s (Some outer) None (b ∷ bs) = closed_after s (fed_data (Some outer) None b) None bs
closed_after s None None (b ∷ bs) = closed_after s None None bs

module _ (s : ℕ) where
  abbrev Ok : OpenData → OpenPriority → Phase → Type 0
  Ok d p w = well_formed (st s d p w) ≡ true

  abbrev at : OpenData → OpenPriority → Phase → Reader
  at d p w = st s d p w

  closes : (d : OpenData) (p : OpenPriority) (bad : Bool) (cs : List ℕ) → outside d p ≡ false → has_byte d p ≡ true → Ok d p Free
      → cs ≡ check_bytes_of (register_in d p)
      → Runs (at d p Free) (end_symbol bad ∷ data_symbol (opening_byte d p) ∷ map data_symbol cs) (closing_said bad) (closed s d p)
  closes d p bad cs o h ok q =
      let c = register_in d p in
      let x = 255 - c % 256 in
      let y = 255 - c / 256 % 256 in
      let two : check_bytes_of c ≡ x ∷ y ∷ [] = check_bytes_lem c in
      subst (λ (l : List ℕ). Runs (at d p Free) (end_symbol bad ∷ data_symbol (opening_byte d p) ∷ map data_symbol l) (closing_said bad) (closed s d p))
      (sym (q ∙ two))
      (go (at d p Free) (at d p (Next (Closing bad))) (end_symbol bad) nothing ok (λ e. on_end s d p e bad o h ok)
      (λ ok1. go (at d p (Next (Closing bad))) (at d p (Next (FirstCrc bad))) (data_symbol (opening_byte d p)) nothing ok1 (λ e. on_closing s d p e bad ok1)
      (λ ok2. go (at d p (Next (FirstCrc bad))) (at d p (Next (SecondCrc bad x))) (data_symbol x) nothing ok2 (λ e. on_first s d p e bad x ok2)
      (λ ok3. step (data_symbol y) (ended bad)
      (λ e. on_second s d p e bad x y (ap (λ (l : List ℕ). get_or l 0 0) (sym two)) (ap (λ (l : List ℕ). get_or l 1 0) (sym two)) ok3
      ∙ own_closed s d p (Next (SecondCrc bad x)) (ended bad))
      (stop (closed s d p))))))

  -- ---- what may stand among a packet's bytes, and outside

  lmp : (d : OpenData) (p : OpenPriority) (t n : ℕ) (said : Said) → lmp_said t n ≡ said → Ok d p Free
      → Runs (at d p Free) (SLP ∷ data_symbol t ∷ data_symbol n ∷ data_symbol (bit_xor t n) ∷ []) (nothing ∷ nothing ∷ nothing ∷ said ∷ []) (at d p Free)
  lmp d p t n said q ok =
      go (at d p Free) (at d p (Next LmpType)) SLP nothing ok (λ e. on_slp s d p e ok)
      (λ ok1. go (at d p (Next LmpType)) (at d p (Next (LmpNumber t))) (data_symbol t) nothing ok1 (λ e. on_lmp_type s d p e t ok1)
      (λ ok2. go (at d p (Next (LmpNumber t))) (at d p (Next (LmpCheck t n))) (data_symbol n) nothing ok2 (λ e. on_lmp_number s d p e t n ok2)
      (λ ok3. step (data_symbol (bit_xor t n)) said (λ e. on_lmp_check s d p e t n ok3 ∙ ap (λ (x : Said). gives x (at d p Free)) q)
      (stop (at d p Free)))))

  fills : (d : OpenData) (p : OpenPriority) → Ok d p Free → (fs : List Symbol) (gs : List Said) → Fill fs gs → Runs (at d p Free) fs gs (at d p Free)
  fills d p ok fs gs idl = step IDL nothing (λ e. on_idl s d p e ok) (stop (at d p Free))
  fills d p ok fs gs com_idles =
      go (at d p Free) (at d p (Idles 3)) COM nothing ok (λ e. on_com s d p e ok)
      (λ ok1. go (at d p (Idles 3)) (at d p (Idles 2)) IDL nothing ok1 (λ e. on_idles s d p e 3 2 refl refl ok1)
      (λ ok2. go (at d p (Idles 2)) (at d p (Idles 1)) IDL nothing ok2 (λ e. on_idles s d p e 2 1 refl refl ok2)
      (λ ok3. step IDL nothing (λ e. on_last_idle s d p e ok3) (stop (at d p Free)))))
  fills d p ok fs gs (reply nack n h) = lmp d p (cond nack 0x21 0x20) n (replied nack n) (reply_said nack n h) ok
  fills d p ok fs gs (other t n h) = lmp d p t n nothing (other_said t n h) ok

  -- ---- a packet's own bytes, with what may stand among them; v tells whether no priority packet is open

  module _ (Among : List Symbol → List Said → Type 0) (v : Bool)
      (runs_among : (d : OpenData) (p : OpenPriority) → no_priority p ≡ v → Ok d p Free → (fs : List Symbol) (gs : List Said) → Among fs gs
      → Runs (at d p Free) fs gs (at d p Free)) where
    insides : {bs : List ℕ} {ss : List Symbol} {es : List Said} → Inside Among bs ss es → (d : OpenData) (p : OpenPriority)
        → no_priority p ≡ v → outside d p ≡ false → Room s p (length bs) → Ok d p Free
        → Runs (at d p Free) ss es (at (data_after d p bs) (priority_after p bs) Free)
    insides end d p n o room ok = stop (at d p Free)
    insides (byte b {bs = bs} i) d p n o room ok =
        go (at d p Free) (at (fed_data d p b) (fed_priority p b) Free) (data_symbol b) (gave_byte b) ok
        (λ e. on_byte s d p e b o (room_full s p (length bs) room) ok)
        (λ ok1. insides i (fed_data d p b) (fed_priority p b) (fed_priority_lem p b ∙ n) (fed_outside d p b ∙ o) (room_less s p (length bs) b room) ok1)
    insides (among {fs = fs} {gs = gs} m i) d p n o room ok = runs_append (runs_among d p n ok fs gs m) (insides i d p n o room ok)

    -- from the opening byte to the last of the CRC
    bodies : {bs : List ℕ} {ss : List Symbol} {es : List Said} → Inside Among bs ss es → (d : OpenData) (p : OpenPriority) (bad : Bool)
        → no_priority p ≡ v → outside d p ≡ false → register_in d p ≡ crc_start → 1 ≤ length bs → Room s p (length bs) → Ok d p Free
        → Runs (at d p Free) (ss ++ closing bad (opening_byte d p) bs) (es ++ closing_said bad) (closed s d p)
    unfolding crc_of
    bodies {bs} {ss} {es} i d p bad n o start one room ok =
        let d' = data_after d p bs in
        let p' = priority_after p bs in
        let l = insides i d p n o room ok in
        let lt : register_in d p < 65536 = rw (start ∙ start_value) (omega arith) in
        let reg : register_in d' p' ≡ crc_from crc_start bs = after_register d p bs o lt ∙ ap (λ (c : ℕ). crc_from c bs) start in
        let c = closes d' p' bad (crc_of bs) (after_outside d p bs ∙ o) (after_has d p bs o one) (runs_kept l ok) (ap check_bytes_of (sym reg)) in
        runs_append l
        (subst (λ (q : Reader). Runs (at d' p' Free) (closing bad (opening_byte d p) bs) (closing_said bad) q) (closed_after s d p bs)
        (subst (λ (h : ℕ). Runs (at d' p' Free) (closing bad h bs) (closing_said bad) (closed s d' p')) (after_opening d p bs) c))

  -- ---- priority packets, data packets, and the line

  priorities : (d : OpenData) → Ok d None Free → (fs : List Symbol) (gs : List Said) → PriorityLine s fs gs
      → Runs (at d None Free) fs gs (at d None Free)
  priorities d ok fs gs (priority c g bs bad hc hg one most i) =
      let o = 16 * g + c in
      let low : o % 16 ≡ c = omega arith in
      let high : o / 16 ≡ g = omega arith in
      go (at d None Free) (at d None (Next Opening)) SPP nothing ok (λ e. on_spp s d None e refl ok)
      (λ ok1. go (at d None (Next Opening)) (at d (open_priority o 0 crc_start) Free) (data_symbol o) (started c (some g)) ok1
      (λ e. on_opening s d None e o ok1 ∙ ap₂ (λ (x y : ℕ). gives (started x (some y)) (at d (open_priority o 0 crc_start) Free)) low high)
      (λ ok2. bodies Fill false (λ d1 p1 n k. fills d1 p1 k) i d (open_priority o 0 crc_start) bad refl refl refl one (omega arith) ok2))

  withins : (d : OpenData) (p : OpenPriority) → no_priority p ≡ true → Ok d p Free → (fs : List Symbol) (gs : List Said) → Within s fs gs
      → Runs (at d p Free) fs gs (at d p Free)
  withins d p n ok fs gs (fill f) = fills d p ok fs gs f
  withins d None n ok fs gs (nested l) = priorities d ok fs gs l
  withins d (Some inner) n ok fs gs (nested l) = absurd (let z : ◌≡◌ {A = ℕ} 0 1 = cc n in omega arith)

  packets : Ok None None Free → (fs : List Symbol) (gs : List Said) → DataLine s fs gs → Runs (fresh s) fs gs (fresh s)
  packets ok fs gs (packet c bs bad hc one i) =
      go (at None None Free) (at None None (Next Channel)) SDP nothing ok (λ e. on_sdp s None None e refl ok)
      (λ ok1. go (at None None (Next Channel)) (at (open_data c false crc_start) None Free) (data_symbol c) (started c none) ok1
      (λ e. on_channel s None None e c ok1)
      (λ ok2. bodies (Within s) true withins i (open_data c false crc_start) None bad refl refl refl one tt ok2))

  pub outsides : Ok None None Free → (fs : List Symbol) (gs : List Said) → Outside s fs gs → Runs (fresh s) fs gs (fresh s)
  outsides ok fs gs zeros = step (data_symbol 0) nothing (λ e. on_zero s e ok) (stop (fresh s))
  outsides ok fs gs (within w) = withins None None refl ok fs gs w
  outsides ok fs gs (data_packet l) = packets ok fs gs l

  pub lines : Ok None None Free → {ss : List Symbol} {es : List Said} → LegalLine s ss es → Runs (fresh s) ss es (fresh s)
  lines ok empty = stop (fresh s)
  lines ok (then {fs = fs} {gs = gs} o l) = runs_append (outsides ok fs gs o) (lines ok l)

-- THE THEOREM: a fresh reader, given any legal line read clean, says exactly what the description says, and is fresh after it
pub legal_line : (s : ℕ) → size_allowed s ≡ true → {ss : List Symbol} {es : List Said} {gs : List Reading} → LegalLine s ss es → ReadClean ss gs
    → (said_of (fresh s) gs ≡ es) × (after_of (fresh s) gs ≡ fresh s)
legal_line s ok l c = runs_said (lines s (fresh_kept s ok) l) c
