-- A packet after a run of its own bytes, of either kind: its opening byte stays, it has a byte, and its register is the CRC of them.
-- Assumes nothing.
use mathlib.Core.Path.{◌≡◌, refl, sym, ap, ◌∙◌}
use mathlib.Core.Bool.{true, false}
use mathlib.Core.List.{List, [], ◌∷◌}
use Prim.Native.Nat.{ℕ, suc, ◌+◌, ◌≤◌, ◌<◌}
use native.Mathlib.Omega.{arith}
use borrow.Author.Tests.{lt-ltb, lt-leb}
use lib.ListN.{length}
use Rattle.crc.specs.Crc16.{crc_byte, crc_from}
use Rattle.crc.proofs.Laws.{crc_cons, crc_none, crc_lt}
use Rattle.packet_rules.specs.Open.{OpenData, OpenPriority}
use Rattle.std.specs.Prelude.{Some, None}
use Rattle.packet_rules.specs.State.{no_priority, outside, has_byte, opening_byte, register_in, fed_priority, fed_data}
use Rattle.packet_rules.specs.Violations.{is_full}

abbrev pub priority_after : OpenPriority → List ℕ → OpenPriority
priority_after p [] = p
priority_after p (b ∷ bs) = priority_after (fed_priority p b) bs

abbrev pub data_after : OpenData → OpenPriority → List ℕ → OpenData
data_after d p [] = d
data_after d p (b ∷ bs) = data_after (fed_data d p b) (fed_priority p b) bs

-- ---- one byte

pub fed_priority_lem : (p : OpenPriority) (b : ℕ) → no_priority (fed_priority p b) ≡ no_priority p
fed_priority_lem None b = refl
fed_priority_lem (Some inner) b = refl

pub fed_outside : (d : OpenData) (p : OpenPriority) (b : ℕ) → outside (fed_data d p b) (fed_priority p b) ≡ outside d p
fed_outside d (Some inner) b = refl
fed_outside (Some outer) None b = refl
fed_outside None None b = refl

fed_opening : (d : OpenData) (p : OpenPriority) (b : ℕ) → opening_byte (fed_data d p b) (fed_priority p b) ≡ opening_byte d p
fed_opening d (Some inner) b = refl
fed_opening (Some outer) None b = refl
fed_opening None None b = refl

fed_has : (d : OpenData) (p : OpenPriority) (b : ℕ) → outside d p ≡ false → has_byte (fed_data d p b) (fed_priority p b) ≡ true
fed_has d (Some inner) b h = lt-ltb 0 (inner.count + 1) (omega arith)
fed_has (Some outer) None b e = refl
fed_has None None b e = sym e

fed_register : (d : OpenData) (p : OpenPriority) (b : ℕ) → outside d p ≡ false
    → register_in (fed_data d p b) (fed_priority p b) ≡ crc_byte (register_in d p) b
fed_register d (Some inner) b h = refl
fed_register (Some outer) None b e = refl
fed_register None None b e = absurd (let z : ◌≡◌ {A = ℕ} 0 1 = cc e in omega arith)

-- ---- a priority packet has room for k bytes more

abbrev pub Room : ℕ → OpenPriority → ℕ → Type 0
Room s None k = Unit {0}
Room s (Some inner) k = inner.count + k ≤ s

pub room_full : (s : ℕ) (p : OpenPriority) (k : ℕ) → Room s p (suc k) → is_full s p ≡ false
room_full s None k h = refl
room_full s (Some inner) k h = lt-leb s inner.count (omega (arith, h))

pub room_less : (s : ℕ) (p : OpenPriority) (k b : ℕ) → Room s p (suc k) → Room s (fed_priority p b) k
room_less s None k b h = tt
room_less s (Some inner) k b h = omega (arith, h)

-- ---- a run of bytes

pub after_priority : (p : OpenPriority) (bs : List ℕ) → no_priority (priority_after p bs) ≡ no_priority p
after_priority p [] = refl
after_priority p (b ∷ bs) = after_priority (fed_priority p b) bs ∙ fed_priority_lem p b

pub after_outside : (d : OpenData) (p : OpenPriority) (bs : List ℕ) → outside (data_after d p bs) (priority_after p bs) ≡ outside d p
after_outside d p [] = refl
after_outside d p (b ∷ bs) = after_outside (fed_data d p b) (fed_priority p b) bs ∙ fed_outside d p b

pub after_opening : (d : OpenData) (p : OpenPriority) (bs : List ℕ) → opening_byte (data_after d p bs) (priority_after p bs) ≡ opening_byte d p
after_opening d p [] = refl
after_opening d p (b ∷ bs) = after_opening (fed_data d p b) (fed_priority p b) bs ∙ fed_opening d p b

-- the register is the CRC of the bytes, from where it stood
pub after_register : (d : OpenData) (p : OpenPriority) (bs : List ℕ) → outside d p ≡ false → register_in d p < 65536
    → register_in (data_after d p bs) (priority_after p bs) ≡ crc_from (register_in d p) bs
after_register d p [] o h = sym (crc_none (register_in d p) h)
after_register d p (b ∷ bs) o h =
    let e = fed_register d p b o in
    after_register (fed_data d p b) (fed_priority p b) bs (fed_outside d p b ∙ o) (rw e (crc_lt (register_in d p) (b ∷ [])))
    ∙ ap (λ (c : ℕ). crc_from c bs) e ∙ sym (crc_cons (register_in d p) b bs)

still_has : (d : OpenData) (p : OpenPriority) (bs : List ℕ) → outside d p ≡ false → has_byte d p ≡ true
    → has_byte (data_after d p bs) (priority_after p bs) ≡ true
still_has d p [] o h = h
still_has d p (b ∷ bs) o h = still_has (fed_data d p b) (fed_priority p b) bs (fed_outside d p b ∙ o) (fed_has d p b o)

pub after_has : (d : OpenData) (p : OpenPriority) (bs : List ℕ) → outside d p ≡ false → 1 ≤ length bs
    → has_byte (data_after d p bs) (priority_after p bs) ≡ true
after_has d p [] o h = absurd (omega arith)
after_has d p (b ∷ bs) o h = still_has (fed_data d p b) (fed_priority p b) bs (fed_outside d p b ∙ o) (fed_has d p b o)
