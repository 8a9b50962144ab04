-- The packet round trip: of the rules' own reader and writer; and, of any reader and writer that have it, for any sequence of packets.
-- Assumes nothing.
use mathlib.Core.Path.{◌≡◌, refl, sym, ap, subst, ◌∙◌}
use mathlib.Core.Bool.{Bool, true}
use mathlib.Core.List.{List, [], ◌∷◌, ◌++◌}
use Prim.Native.Nat.{ℕ, ◌≤◌}
use lib.Dec.{T}
use lib.IntN.{ℤ}
use lib.ListN.{length, take, drop}
use lib.Seq.{take_at}
use Rattle.refusal.proofs.Laws.{done}
use Rattle.character_rules.specs.Disparity.{is_disparity}
use Rattle.character_rules.specs.Answers.{Reading}
use Rattle.character_rules.specs.Results.{readings_of}
use Rattle.character_rules.specs.Writing.{characters_of, closing_of}
use Rattle.character_rules.proofs.WriteLaws.{closing_is, length_characters}
use Rattle.packet_rules.specs.declared.Reader.{Reader}
use Rattle.packet_rules.specs.Answers.{Said}
use Rattle.packet_rules.specs.State.{fresh}
use Rattle.segment_size.specs.Sizes.{size_allowed}
use Rattle.packet_rules.specs.Step.{step_of}
use Rattle.packet_rules.specs.Line.{said_of, after_of}
use Rattle.packet_rules.specs.Packets.{Packet, in_data, retry, symbols_of, packet_checks, wrote, not_wrote, packet_writing, packet_output, said_for}
use Rattle.packet_rules.specs.RoundTrip.{PacketReader, PacketWriter, Allowed, says_of, left_of, ReadBack, PacketRoundTrip}
use Rattle.packet_rules.proofs.Kept.{fresh_kept}
use Rattle.packet_rules.proofs.Runs.{runs_said}
use Rattle.packet_rules.proofs.Legal.{outsides}
use Rattle.packet_rules.proofs.Read.{comes}
use Rattle.packet_rules.proofs.Packets.{legal, can, accepted}

-- the rules' own
abbrev pub the_reader : PacketReader
the_reader = record { State = Reader; fresh = fresh; says = λ r g. (step_of r g).said; next = λ r g. (step_of r g).reader }

abbrev pub the_writer : PacketWriter
the_writer = record { answers = packet_writing; leaves = packet_output }

-- the two ways of saying a run are one
says_is : (r : Reader) (gs : List Reading) → says_of the_reader r gs ≡ said_of r gs
unfolding said_of
says_is r [] = refl
says_is r (g ∷ gs) = ap (λ (l : List Said). (step_of r g).said ∷ l) (says_is (step_of r g).reader gs)

left_is : (r : Reader) (gs : List Reading) → left_of the_reader r gs ≡ after_of r gs
unfolding after_of
left_is r [] = refl
left_is r (g ∷ gs) = left_is (step_of r g).reader gs

back : (s : ℕ) (p : Packet) (d : ℤ) → size_allowed s ≡ true → Allowed s p → T (is_disparity d)
    → ReadBack the_reader s p d (closing_of (symbols_of p) d) (characters_of (symbols_of p) d)
back s p d ok h t =
    let k = comes (symbols_of p) d (can s p h) t in
    let gs = readings_of (characters_of (symbols_of p) d) d in
    let r = runs_said (outsides s (fresh_kept s ok) (symbols_of p) (said_for p) (legal s p h)) k.symbols in
    record {
      clean = k.clean;
      said = says_is (fresh s) gs ∙ r.0;
      fresh = left_is (fresh s) gs ∙ r.1;
      closes = k.closes;
    }

-- into an output that is long enough: what it leaves there, and what it answers
pub leaves_all : (s : ℕ) (p : Packet) (d : ℤ) (out : List ℕ) → size_allowed s ≡ true → Allowed s p → T (is_disparity d) → length (symbols_of p) ≤ length out
    → take (length (symbols_of p)) (packet_output s p d out) ≡ characters_of (symbols_of p) d
unfolding packet_output
leaves_all s p d out ok h t l =
    let n = length (symbols_of p) in
    let ch = characters_of (symbols_of p) d in
    let cs = packet_checks s p d (length out) in
    ap (take n) (done cs (λ m. out) (ch ++ drop n out) (accepted s p d (length out) ok h t l))
    ∙ take_at ch (drop n out) n (length_characters (symbols_of p) d)

pub answers_closing : (s : ℕ) (p : Packet) (d : ℤ) (out : List ℕ) → size_allowed s ≡ true → Allowed s p → T (is_disparity d) → length (symbols_of p) ≤ length out
    → packet_writing s p d out ≡ wrote (length (symbols_of p)) (closing_of (symbols_of p) d)
unfolding packet_writing
answers_closing s p d out ok h t l =
    done (packet_checks s p d (length out)) not_wrote (wrote (length (symbols_of p)) (closing_of (symbols_of p) d)) (accepted s p d (length out) ok h t l)

-- THE ROUND TRIP
pub packet_round_trip : PacketRoundTrip the_reader the_writer
packet_round_trip =
    record {
      written = λ s p d out ok h t l.
          let e = closing_of (symbols_of p) d in (
            e,
            closing_is (symbols_of p) d t,
            answers_closing s p d out ok h t l,
            subst (λ (c : List ℕ). ReadBack the_reader s p d e c) (sym (leaves_all s p d out ok h t l)) (back s p d ok h t),
          );
    }

-- S plays no part in a data packet and in a retry LMP: what is promised of them at S = 0 holds at every S
pub any_size_data : (s c : ℕ) (bytes : List ℕ) (bad : Bool) (d : ℤ) (out : List ℕ)
    → (packet_writing 0 (in_data c bytes bad) d out ≡ packet_writing s (in_data c bytes bad) d out)
    × (packet_output 0 (in_data c bytes bad) d out ≡ packet_output s (in_data c bytes bad) d out)
unfolding packet_writing packet_output
any_size_data s c bytes bad d out = (refl, refl)

pub any_size_retry : (s : ℕ) (nack : Bool) (n : ℕ) (d : ℤ) (out : List ℕ)
    → (packet_writing 0 (retry nack n) d out ≡ packet_writing s (retry nack n) d out)
    × (packet_output 0 (retry nack n) d out ≡ packet_output s (retry nack n) d out)
unfolding packet_writing packet_output
any_size_retry s nack n d out = (refl, refl)
