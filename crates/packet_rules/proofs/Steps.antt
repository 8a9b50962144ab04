-- One step on each symbol that stands in its place, in any state that keeps the rule.
-- Assumes nothing.
use mathlib.Core.Path.{◌≡◌, refl}
use mathlib.Core.Bool.{Bool, true, false}
use mathlib.Core.Option.{none, some}
use Prim.Native.Nat.{ℕ, ◌-◌, ◌/◌, ◌%◌}
use borrow.Author.Tests.{eq-eqb}
use lib.Bits.{bit_xor}
use lib.Dec.{leb}
use lib.IntN.{ℤ}
use lib.ListN.{get_or}
use Rattle.symbol.specs.Symbols.{data_symbol, is_twelve}
use Rattle.character_rules.specs.Answers.{clean}
use Rattle.crc.specs.Crc16.{crc_start, check_bytes_of}
use Rattle.packet_rules.specs.Open.{OpenData, OpenPriority, open_data, open_priority}
use Rattle.std.specs.Prelude.{None}
use Rattle.packet_rules.specs.declared.Due.TheVariants.{Channel, Opening, Closing, FirstCrc, SecondCrc, LmpType, LmpNumber, LmpCheck}
use Rattle.packet_rules.specs.declared.Phase.{Phase}
use Rattle.packet_rules.specs.declared.Phase.TheVariants.{Free, Next, Idles}
use Rattle.packet_rules.specs.declared.Reader.{Reader}
use Rattle.packet_rules.specs.Answers.{nothing, started, gave_byte, ended}
use Rattle.packet_rules.specs.State.{no_priority, outside, has_byte, opening_byte, register_in, fed_priority, fed_data, well_formed}
use Rattle.packet_rules.specs.Symbols.{control_kind, kind_of}
use Rattle.packet_rules.specs.Violations.{is_full, violation_of}
use Rattle.packet_rules.specs.Step.{closes_own, lmp_said, read_of, step_of}
use Rattle.packet_rules.specs.Line.{COM, IDL, SPP, SDP, SLP, end_symbol}
use Rattle.packet_rules.proofs.Runs.{gives}

abbrev pub st : ℕ → OpenData → OpenPriority → Phase → Reader
st s d p w = record { size = s; packet = d; priority = p; phase = w }

module _ (s : ℕ) (d : OpenData) (p : OpenPriority) (e : ℤ) where
  abbrev At : Phase → Type 0
  At w = well_formed (st s d p w) ≡ true

  -- ---- where no sequence is begun

  pub on_idl : At Free → step_of (st s d p Free) (clean IDL e) ≡ gives nothing (st s d p Free)
  unfolding step_of read_of violation_of kind_of control_kind is_twelve
  on_idl ok = simp ok

  pub on_com : At Free → step_of (st s d p Free) (clean COM e) ≡ gives nothing (st s d p (Idles 3))
  unfolding step_of read_of violation_of kind_of control_kind is_twelve
  on_com ok = simp ok

  pub on_idles : (n m : ℕ) → leb n 1 ≡ false → n - 1 ≡ m → At (Idles n) → step_of (st s d p (Idles n)) (clean IDL e) ≡ gives nothing (st s d p (Idles m))
  unfolding step_of read_of violation_of kind_of control_kind is_twelve
  on_idles n m l q ok = simp (ok, l, q)

  pub on_last_idle : At (Idles 1) → step_of (st s d p (Idles 1)) (clean IDL e) ≡ gives nothing (st s d p Free)
  unfolding step_of read_of violation_of kind_of control_kind is_twelve
  on_last_idle ok = simp ok

  pub on_slp : At Free → step_of (st s d p Free) (clean SLP e) ≡ gives nothing (st s d p (Next LmpType))
  unfolding step_of read_of violation_of kind_of control_kind is_twelve
  on_slp ok = simp ok

  pub on_spp : no_priority p ≡ true → At Free → step_of (st s d p Free) (clean SPP e) ≡ gives nothing (st s d p (Next Opening))
  unfolding step_of read_of violation_of kind_of control_kind is_twelve
  on_spp h ok = simp (ok, h)

  pub on_sdp : outside d p ≡ true → At Free → step_of (st s d p Free) (clean SDP e) ≡ gives nothing (st s d p (Next Channel))
  unfolding step_of read_of violation_of kind_of control_kind is_twelve
  on_sdp h ok = simp (ok, h)

  pub on_byte : (b : ℕ) → outside d p ≡ false → is_full s p ≡ false → At Free
      → step_of (st s d p Free) (clean (data_symbol b) e) ≡ gives (gave_byte b) (st s (fed_data d p b) (fed_priority p b) Free)
  unfolding step_of read_of violation_of kind_of
  on_byte b o f ok = simp (ok, o, f)

  pub on_end : (bad : Bool) → outside d p ≡ false → has_byte d p ≡ true → At Free
      → step_of (st s d p Free) (clean (end_symbol bad) e) ≡ gives nothing (st s d p (Next (Closing bad)))
  unfolding step_of read_of violation_of kind_of control_kind is_twelve
  on_end true o h ok = simp (ok, o, h)
  on_end false o h ok = simp (ok, o, h)

  -- ---- the byte that is due

  pub on_channel : (b : ℕ) → At (Next Channel)
      → step_of (st s d p (Next Channel)) (clean (data_symbol b) e) ≡ gives (started b none) (st s (open_data b false crc_start) p Free)
  unfolding step_of read_of violation_of kind_of
  on_channel b ok = simp ok

  pub on_opening : (b : ℕ) → At (Next Opening)
      → step_of (st s d p (Next Opening)) (clean (data_symbol b) e) ≡ gives (started (b % 16) (some (b / 16))) (st s d (open_priority b 0 crc_start) Free)
  unfolding step_of read_of violation_of kind_of
  on_opening b ok = simp ok

  pub on_closing : (bad : Bool) → At (Next (Closing bad))
      → step_of (st s d p (Next (Closing bad))) (clean (data_symbol (opening_byte d p)) e) ≡ gives nothing (st s d p (Next (FirstCrc bad)))
  unfolding step_of read_of violation_of kind_of
  on_closing bad ok = simp (ok, eq-eqb (opening_byte d p) (opening_byte d p) refl)

  pub on_first : (bad : Bool) (a : ℕ) → At (Next (FirstCrc bad))
      → step_of (st s d p (Next (FirstCrc bad))) (clean (data_symbol a) e) ≡ gives nothing (st s d p (Next (SecondCrc bad a)))
  unfolding step_of read_of violation_of kind_of
  on_first bad a ok = simp ok

  pub on_second : (bad : Bool) (a b : ℕ) → a ≡ get_or (check_bytes_of (register_in d p)) 0 0 → b ≡ get_or (check_bytes_of (register_in d p)) 1 0
      → At (Next (SecondCrc bad a))
      → step_of (st s d p (Next (SecondCrc bad a))) (clean (data_symbol b) e) ≡ closes_own (ended bad) p (st s d p (Next (SecondCrc bad a)))
  unfolding step_of read_of violation_of kind_of
  on_second bad a b x y ok = simp (ok, eq-eqb a _ x, eq-eqb b _ y)

  pub on_lmp_type : (t : ℕ) → At (Next LmpType)
      → step_of (st s d p (Next LmpType)) (clean (data_symbol t) e) ≡ gives nothing (st s d p (Next (LmpNumber t)))
  unfolding step_of read_of violation_of kind_of
  on_lmp_type t ok = simp ok

  pub on_lmp_number : (t n : ℕ) → At (Next (LmpNumber t))
      → step_of (st s d p (Next (LmpNumber t))) (clean (data_symbol n) e) ≡ gives nothing (st s d p (Next (LmpCheck t n)))
  unfolding step_of read_of violation_of kind_of
  on_lmp_number t n ok = simp ok

  pub on_lmp_check : (t n : ℕ) → At (Next (LmpCheck t n))
      → step_of (st s d p (Next (LmpCheck t n))) (clean (data_symbol (bit_xor t n)) e) ≡ gives (lmp_said t n) (st s d p Free)
  unfolding step_of read_of violation_of kind_of
  on_lmp_check t n ok = simp (ok, eq-eqb (bit_xor t n) (bit_xor t n) refl)

-- outside packets D0.0 is fill
pub on_zero : (s : ℕ) (e : ℤ) → well_formed (st s None None Free) ≡ true
    → step_of (st s None None Free) (clean (data_symbol 0) e) ≡ gives nothing (st s None None Free)
unfolding step_of read_of violation_of kind_of
on_zero s e ok = simp ok
