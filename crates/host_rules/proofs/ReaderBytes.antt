-- A reader's state is what its bytes stand for, and its bytes are an encoding.
-- Assumes nothing.
use Prim.Native.Nat.{ℕ, ◌/◌, ◌%◌}
use mathlib.Core.Path.{◌≡◌, refl}
use mathlib.Core.Bool.{Bool, true, false, cond}
use native.Mathlib.Omega.{arith}
use borrow.Author.Tests.{eq-eqb}
use Rattle.packet_rules.specs.Open.{OpenData, OpenPriority, open_data}
use Rattle.std.specs.Prelude.{Some, None}
use Rattle.packet_rules.specs.declared.Due.TheVariants.{Channel, Opening, Closing, FirstCrc, SecondCrc, LmpType, LmpNumber, LmpCheck}
use Rattle.packet_rules.specs.declared.Phase.{Phase}
use Rattle.packet_rules.specs.declared.Phase.TheVariants.{Free, Next, Idles, Dropping}
use Rattle.packet_rules.specs.declared.Reader.{Reader}
use Rattle.host_rules.specs.ReaderBytes.{two, packet_tag, packet_channel, packet_register, packet_of, packet_fits, priority_tag, priority_opening, priority_count, priority_register, priority_of, priority_fits, phase_tag, phase_first, phase_second, phase_of, phase_fits, reader_bytes, reader_in, is_reader}

halves : (n : ℕ) → two (n / 256) (n % 256) ≡ n
halves n = omega arith

begun_again : (h c : ℕ) (begun : Bool) → packet_of (cond begun 2 1) h c ≡ open_data h begun c
unfolding packet_of
begun_again h c true = refl
begun_again h c false = refl

packet_again : (p : OpenData) → packet_of (packet_tag p) (packet_channel p) (packet_register p) ≡ p
unfolding packet_of
packet_again None = refl
packet_again (Some outer) = begun_again outer.channel outer.register outer.begun

priority_again : (p : OpenPriority) → priority_of (priority_tag p) (priority_opening p) (priority_count p) (priority_register p) ≡ p
unfolding priority_of
priority_again None = refl
priority_again (Some inner) = refl

phase_again : (p : Phase) → phase_of (phase_tag p) (phase_first p) (phase_second p) ≡ p
unfolding phase_of
phase_again Free = refl
phase_again Dropping = refl
phase_again (Idles n) = refl
phase_again (Next Channel) = refl
phase_again (Next Opening) = refl
phase_again (Next (Closing true)) = refl
phase_again (Next (Closing false)) = refl
phase_again (Next (FirstCrc true)) = refl
phase_again (Next (FirstCrc false)) = refl
phase_again (Next (SecondCrc true a)) = refl
phase_again (Next (SecondCrc false a)) = refl
phase_again (Next LmpType) = refl
phase_again (Next (LmpNumber t)) = refl
phase_again (Next (LmpCheck t n)) = refl

-- what is stored is loaded again
pub reader_again : (r : Reader) → reader_in (reader_bytes r) ≡ r
unfolding reader_in reader_bytes
reader_again r =
    simp (
      halves r.size,
      halves (packet_register r.packet),
      halves (priority_count r.priority),
      halves (priority_register r.priority),
      packet_again r.packet,
      priority_again r.priority,
      phase_again r.phase,
    )

-- and is an encoding
pub reader_encodes : (r : Reader) → is_reader (reader_bytes r) ≡ true
unfolding is_reader packet_fits priority_fits phase_fits reader_bytes
reader_encodes r =
    simp (
      halves (packet_register r.packet),
      halves (priority_count r.priority),
      halves (priority_register r.priority),
      packet_again r.packet,
      priority_again r.priority,
      phase_again r.phase,
      eq-eqb (packet_tag r.packet) _ refl,
      eq-eqb (packet_channel r.packet) _ refl,
      eq-eqb (packet_register r.packet) _ refl,
      eq-eqb (priority_tag r.priority) _ refl,
      eq-eqb (priority_opening r.priority) _ refl,
      eq-eqb (priority_count r.priority) _ refl,
      eq-eqb (priority_register r.priority) _ refl,
      eq-eqb (phase_tag r.phase) _ refl,
      eq-eqb (phase_first r.phase) _ refl,
      eq-eqb (phase_second r.phase) _ refl,
    )
