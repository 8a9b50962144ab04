-- What the packet writer leaves in memory, packet after packet, is a line of written symbols; so it is balanced as every such line is.
-- Assumes nothing.
use mathlib.Core.Path.{◌≡◌, refl, sym, ap, subst, ◌∙◌}
use mathlib.Core.Bool.{true}
use mathlib.Core.List.{List, [], ◌∷◌, ◌++◌}
use mathlib.Core.Option.{some-injective}
use Prim.Native.Nat.{ℕ}
use lib.Dec.{T}
use lib.IntN.{ℤ}
use lib.ListN.{take}
use Rattle.laws.specs.Bits.{bits}
use Rattle.laws.specs.Lists.{all_of}
use Rattle.laws.proofs.Bools.{and_left, and_right}
use Rattle.symbol.specs.declared.Symbol.{Symbol}
use Rattle.character_rules.specs.Disparity.{is_disparity}
use Rattle.character_rules.specs.Blocks.{character, closing}
use Rattle.character_rules.specs.Writing.{writing, characters_of, closing_of}
use Rattle.character_rules.specs.Line.{line, balance, within_three}
use Rattle.character_rules.specs.Demand.{can_write}
use Rattle.character_rules.proofs.LineBalance.{line_of, balanced_line}
use Rattle.character_rules.proofs.WriteLaws.{closing_is, characters_append}
use Rattle.segment_size.specs.Sizes.{size_allowed}
use Rattle.packet_rules.specs.Packets.{Packet, symbols_of, PacketWriting}
use Rattle.packet_rules.specs.RoundTrip.{Sequence, last, first}
use Rattle.packet_rules.specs.OnTheLine.{bits_on_line, PacketsBalanced}
use Rattle.packet_rules.proofs.Read.{all_append}
use Rattle.packet_rules.proofs.Packets.{can}
use Rattle.packet_rules.proofs.Trip.{the_writer, leaves_all, answers_closing}

-- the bits of written symbols are the line of characters' rules
bits_line : (ss : List Symbol) (d : ℤ) → T (all_of can_write ss) → T (is_disparity d) → bits_on_line (characters_of ss d) ≡ line writing ss d
unfolding characters_of closing_of
bits_line [] d a t = refl
bits_line (s ∷ ss) d a t =
    let h = and_left (can_write s) (all_of can_write ss) a in
    ap (λ (l : List ℕ). bits 10 (character s d) ++ l) (bits_line ss (closing s d) (and_right (can_write s) (all_of can_write ss) a) (closing_is (s ∷ []) d t))
    ∙ sym (line_of s ss d h t)

-- a sequence's characters are those of one list of symbols, all of which can be written
pub record Written (d : ℤ) (cs : List ℕ) : Type 0 where
  pub symbols : List Symbol
  pub writable : T (all_of can_write symbols)
  pub characters : cs ≡ characters_of symbols d

pub one_line :
    (s : ℕ) → size_allowed s ≡ true → {ps : List Packet} {d : ℤ} {cs : List ℕ} {e : ℤ} → T (is_disparity d) → Sequence the_writer s ps d cs e
    → Written d cs
unfolding characters_of
one_line s ok t (last d) = record { symbols = []; writable = tt; characters = refl }
one_line s ok t (first p out d e {ps} {cs} {f} h l w k) =
    let xs = symbols_of p in
    let same : closing_of xs d ≡ e = some-injective _ _ (ap (λ (x : PacketWriting). x.disparity) (sym (answers_closing s p d out ok h t l) ∙ w)) in
    let te = subst (λ (x : ℤ). T (is_disparity x)) same (closing_is xs d t) in
    let r = one_line s ok te k in
    let ys = r.symbols in
    record {
      symbols = xs ++ ys;
      writable = all_append can_write xs ys (can s p h) r.writable;
      characters = ap (λ (c : List ℕ). c ++ cs) (leaves_all s p d out ok h t l)
          ∙ ap (λ (c : List ℕ). characters_of xs d ++ c) (r.characters ∙ ap (characters_of ys) (sym same))
          ∙ sym (characters_append xs ys d);
    }

pub packets_balanced : PacketsBalanced the_writer
packets_balanced =
    record {
      within = λ s ok {ps} {d} {cs} {e} t k n.
          let r = one_line s ok t k in
          subst (λ (l : List ℕ). T (within_three (balance d (take n l))))
          (sym (ap bits_on_line r.characters ∙ bits_line r.symbols d r.writable t)) (balanced_line.within r.symbols d r.writable t n);
      runs = λ s ok {ps} {d} {cs} {e} t k before n x after q.
          let r = one_line s ok t k in
          balanced_line.runs r.symbols d r.writable t before n x after
          (sym (ap bits_on_line r.characters ∙ bits_line r.symbols d r.writable t) ∙ q);
    }
