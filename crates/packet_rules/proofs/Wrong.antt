-- Programs that the packet round trip rules out: a reader that finds every packet bad, a writer that stores nothing.
-- Assumes nothing.
use mathlib.Core.Path.{◌≡◌, refl, sym, ap, ◌∙◌}
use mathlib.Core.Bool.{Bool, true, false, not, ◌||◌}
use mathlib.Core.List.{List, [], ◌∷◌}
use mathlib.Core.Option.{Option, none, some}
use Prim.Native.Nat.{ℕ}
use native.Mathlib.Omega.{arith}
use lib.IntN.{pos}
use lib.ListN.{length, take, replicate}
use Rattle.segment_size.specs.Sizes.{size_allowed}
use Rattle.laws.proofs.Cases.{false_is_not_true}
use Rattle.character_rules.specs.Answers.{Reading}
use Rattle.character_rules.specs.Results.{readings_of}
use Rattle.packet_rules.specs.Answers.{Said}
use Rattle.packet_rules.specs.Line.{SDP}
use Rattle.packet_rules.specs.Packets.{in_data, symbols_of, said_for}
use Rattle.packet_rules.specs.RoundTrip.{PacketReader, PacketWriter, says_of, PacketRoundTrip}
use Rattle.packet_rules.proofs.Packets.{length_packet}

-- a packet of one byte is seven characters
seven : (bad : Bool) → length (symbols_of (in_data 0 (0 ∷ []) bad)) ≡ 7
unfolding symbols_of
seven bad = length_packet SDP 0 (0 ∷ []) bad

-- ---- every packet bad

-- said of a good end
abbrev is_good : Option Bool → Bool
is_good none = false
is_good (some bad) = not bad

abbrev some_good : List Said → Bool
some_good [] = false
some_good (x ∷ xs) = is_good x.end || some_good xs

abbrev bad_mark : Option Bool → Option Bool
bad_mark none = none
bad_mark (some bad) = some true

-- a reader as another one, but that every end is bad
abbrev every_packet_bad : PacketReader → PacketReader
every_packet_bad r =
    record {
      State = r.State;
      fresh = r.fresh;
      says = λ q g. let x = r.says q g in record {
        refusal = x.refusal;
        violation = x.violation;
        start = x.start;
        byte = x.byte;
        end = bad_mark
            x.end;
        lmp = x.lmp;
      };
      next = r.next;
    }

never_good : (b : Option Bool) → is_good (bad_mark b) ≡ false
never_good none = refl
never_good (some bad) = refl

none_good : (r : PacketReader) (q : r.State) (gs : List Reading) → some_good (says_of (every_packet_bad r) q gs) ≡ false
none_good r q [] = refl
none_good r q (g ∷ gs) = simp (never_good (r.says q g).end) (none_good r (r.next q g) gs)

-- whatever the writer
pub not_every_packet_bad : (r : PacketReader) (w : PacketWriter) → PacketRoundTrip (every_packet_bad r) w → ⊥
unfolding said_for size_allowed
not_every_packet_bad r w t =
    let p = in_data 0 (0 ∷ []) false in
    let out : List ℕ = replicate 7 0 in
    let k = t.written 8 p (pos 1) out refl (omega arith, omega arith, tt) tt (omega (arith, seven false)) in
    let gs = readings_of (take (length (symbols_of p)) (w.leaves 8 p (pos 1) out)) (pos 1) in
    false_is_not_true (sym (none_good r (r.fresh 8) gs) ∙ ap some_good k.3.said)

-- ---- nothing stored

abbrev stores_nothing : PacketWriter → PacketWriter
stores_nothing w = record { answers = w.answers; leaves = λ s p d out. out }

-- whatever the reader: two packets would read alike
pub not_stores_nothing : (r : PacketReader) (w : PacketWriter) → PacketRoundTrip r (stores_nothing w) → ⊥
unfolding said_for size_allowed
not_stores_nothing r w t =
    let p = in_data 0 (0 ∷ []) false in
    let q = in_data 0 (0 ∷ []) true in
    let out : List ℕ = replicate 7 0 in
    let lp = seven false in
    let lq = seven true in
    let k = t.written 8 p (pos 1) out refl (omega arith, omega arith, tt) tt (omega (arith, lp)) in
    let m = t.written 8 q (pos 1) out refl (omega arith, omega arith, tt) tt (omega (arith, lq)) in
    let same : length (symbols_of p) ≡ length (symbols_of q) = lp ∙ sym lq in
    let e : said_for p ≡ said_for q =
    sym k.3.said ∙ ap (λ (n : ℕ). says_of r (r.fresh 8) (readings_of (take n out) (pos 1))) same ∙ m.3.said in
    false_is_not_true (sym (ap some_good e))
