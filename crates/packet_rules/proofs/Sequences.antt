-- A reader and a writer that have the round trip have it of any sequence of packets, one after another.
-- Assumes nothing.
use mathlib.Core.Path.{◌≡◌, refl, sym, ap, ap₂, subst, ◌∙◌}
use mathlib.Core.Bool.{true}
use mathlib.Core.List.{List, [], ◌∷◌, ◌++◌}
use mathlib.Core.Option.{some-injective}
use Prim.Native.Nat.{ℕ}
use lib.Dec.{T}
use lib.IntN.{ℤ}
use lib.ListN.{length, take}
use Rattle.character_rules.specs.Disparity.{is_disparity}
use Rattle.character_rules.specs.Answers.{Reading}
use Rattle.character_rules.specs.Results.{readings_of, run_closing}
use Rattle.character_rules.proofs.RunLaws.{readings_append, closing_append}
use Rattle.packet_rules.specs.Answers.{Said}
use Rattle.segment_size.specs.Sizes.{size_allowed}
use Rattle.packet_rules.specs.Packets.{Packet, symbols_of, PacketWriting}
use Rattle.packet_rules.specs.RoundTrip.{PacketReader, PacketWriter, AllClean, says_of, left_of, ReadBack, PacketRoundTrip, Sequence, last, first, said_for_all}

-- ---- two lines, one after the other

clean_append : (gs hs : List Reading) → AllClean gs → AllClean hs → AllClean (gs ++ hs)
clean_append [] hs a b = b
clean_append (g ∷ gs) hs a b = (a.0, clean_append gs hs a.1 b)

module _ (reader : PacketReader) where
  says_append : (r : reader.State) (gs hs : List Reading) → says_of reader r (gs ++ hs) ≡ says_of reader r gs ++ says_of reader (left_of reader r gs) hs
  says_append r [] hs = refl
  says_append r (g ∷ gs) hs = ap (λ (l : List Said). reader.says r g ∷ l) (says_append (reader.next r g) gs hs)

  left_append : (r : reader.State) (gs hs : List Reading) → left_of reader r (gs ++ hs) ≡ left_of reader (left_of reader r gs) hs
  left_append r [] hs = refl
  left_append r (g ∷ gs) hs = left_append (reader.next r g) gs hs

-- what a whole sequence reads as
pub record AllBack (reader : PacketReader) (s : ℕ) (ps : List Packet) (d e : ℤ) (characters : List ℕ) : Type 0 where
  pub clean : AllClean (readings_of characters d)
  pub said : says_of reader (reader.fresh s) (readings_of characters d) ≡ said_for_all ps
  pub fresh : left_of reader (reader.fresh s) (readings_of characters d) ≡ reader.fresh s
  pub closes : run_closing characters d ≡ e

joined : (reader : PacketReader) (s : ℕ) (p : Packet) (ps : List Packet) (d e f : ℤ) (cs ds : List ℕ)
    → ReadBack reader s p d e cs → AllBack reader s ps e f ds → AllBack reader s (p ∷ ps) d f (cs ++ ds)
joined reader s p ps d e f cs ds a b =
    let q = reader.fresh s in
    let gs = readings_of cs d in
    let hs = readings_of ds e in
    let line : readings_of (cs ++ ds) d ≡ gs ++ hs = readings_append cs ds d ∙ ap (λ (x : ℤ). gs ++ readings_of ds x) a.closes in
    record {
      clean = subst AllClean (sym line) (clean_append gs hs a.clean b.clean);
      said = ap (says_of reader q) line ∙ says_append reader q gs hs
          ∙ ap₂ ◌++◌ a.said (ap (λ (r : reader.State). says_of reader r hs) a.fresh ∙ b.said);
      fresh = ap (left_of reader q) line ∙ left_append reader q gs hs ∙ ap (λ (r : reader.State). left_of reader r hs) a.fresh ∙ b.fresh;
      closes = closing_append cs ds d ∙ ap (run_closing ds) a.closes ∙ b.closes;
    }

-- THE THEOREM
pub sequences : (reader : PacketReader) (writer : PacketWriter) → PacketRoundTrip reader writer → (s : ℕ) → size_allowed s ≡ true
    → {ps : List Packet} {d : ℤ} {cs : List ℕ} {e : ℤ} → T (is_disparity d) → Sequence writer s ps d cs e → AllBack reader s ps d e cs
sequences reader writer t s ok td (last d) = record { clean = tt; said = refl; fresh = refl; closes = refl }
sequences reader writer t s ok td (first p out d e {ps} {cs} {f} h l w k) =
    let a = t.written s p d out ok h td l in
    let same : a.0 ≡ e = some-injective _ _ (ap (λ (x : PacketWriting). x.disparity) (sym a.2 ∙ w)) in
    let n = length (symbols_of p) in
    let te : T (is_disparity e) = subst (λ (x : ℤ). T (is_disparity x)) same a.1 in
    let b = subst (λ (x : ℤ). ReadBack reader s p d x (take n (writer.leaves s p d out))) same a.3 in
    joined reader s p ps d e f (take n (writer.leaves s p d out)) cs b (sequences reader writer t s ok te k)
