-- Our packer and unpacker, by their contracts' definitions, meet what is asked of any.
-- Assumes nothing.
use mathlib.Core.Path.{◌≡◌, sym, ap, ◌∙◌, subst}
use mathlib.Core.List.{List, ◌++◌}
use Prim.Native.Nat.{ℕ, ◌≤◌}
use native.Mathlib.Omega.{arith}
use lib.Dec.{T}
use lib.ListN.{length, take, drop}
use lib.Seq.{take_at}
use Rattle.laws.specs.Groups.{all_below}
use Rattle.laws.proofs.Bools.{T_true}
use Rattle.capture_rules.specs.Capture.{Packed, character_count, characters_of, legal, byte_count, pack_of}
use Rattle.capture_rules.specs.Calls.{answered, pack_says, pack_leaves, unpack_says, unpack_leaves}
use Rattle.capture_rules.specs.Demands.{Call, Packable, Packs, RoundTrip, SameCapture}
use Rattle.capture_rules.proofs.Packing.{pack_length, pack_packed, unpack_pack, pack_unpack, pack_legal, characters_length, characters_below, legal_size, legal_packed, packed_sizes}
use Rattle.capture_rules.proofs.Laws.{PackComes, pack_done, unpack_done}

pub our_pack : Call
our_pack = record { answer = λ cs old. pack_says cs (length old); leaves = pack_leaves }

pub our_unpack : Call
our_unpack = record { answer = λ capture room. unpack_says capture (length room); leaves = unpack_leaves }

done : (cs old : List ℕ) → Packable cs → byte_count (length cs) ≤ length old
    → PackComes cs old (answered (byte_count (length cs))) (pack_of cs ++ drop (byte_count (length cs)) old)
done cs old p room = pack_done cs old p.few (T_true (all_below 1024 cs) p.small) room

-- the bytes that packing writes
written : (cs old : List ℕ) → Packable cs → byte_count (length cs) ≤ length old → take (byte_count (length cs)) (pack_leaves cs old) ≡ pack_of cs
written cs old p room =
    ap (take (byte_count (length cs))) (done cs old p room).output
    ∙ take_at (pack_of cs) (drop (byte_count (length cs)) old) (byte_count (length cs)) (pack_length cs)

-- the characters that unpacking writes
given : (capture old : List ℕ) → T (legal capture) → character_count (length capture) ≤ length old
    → take (character_count (length capture)) (unpack_leaves capture old) ≡ characters_of capture
given capture old l room =
    ap (take (character_count (length capture))) (unpack_done capture old (T_true (legal capture) l) room).output
    ∙ take_at (characters_of capture) (drop (character_count (length capture)) old) (character_count (length capture)) (characters_length capture)

pub ours_packs : Packs our_pack
unfolding our_pack
ours_packs = record {
  answers = λ cs old p room. (done cs old p room).answer;
  packed = λ cs old p room. subst (Packed cs) (sym (written cs old p room)) (pack_packed cs);
}

-- what was packed holds as many characters
count_again : (cs : List ℕ) → character_count (length (pack_of cs)) ≡ length cs
count_again cs = ap character_count (pack_length cs) ∙ omega arith

pub ours_round_trip : RoundTrip our_pack our_unpack
unfolding our_pack our_unpack
ours_round_trip = record {
  there = λ cs old room p h g.
      ap (λ (l : List ℕ). unpack_says l (length room)) (written cs old p h)
      ∙ (unpack_done (pack_of cs) room (T_true (legal (pack_of cs)) (pack_legal cs p.few)) (let e = count_again cs in omega arith)).answer
      ∙ ap answered (count_again cs);
  back = λ cs old room p h g.
      let e = count_again cs in
      ap (λ (l : List ℕ). take (length cs) (unpack_leaves l room)) (written cs old p h)
      ∙ ap (λ (n : ℕ). take n (unpack_leaves (pack_of cs) room)) (sym e)
      ∙ given (pack_of cs) room (pack_legal cs p.few) (omega arith)
      ∙ unpack_pack cs p.small;
}

-- a legal capture's characters may be packed, into as many bytes
packable : (capture : List ℕ) → T (legal capture) → Packable (characters_of capture)
packable capture l = record {
  few = let h = legal_size capture l in let e = characters_length capture in omega arith;
  small = characters_below capture;
}

bytes_again : (capture : List ℕ) → T (legal capture) → byte_count (length (characters_of capture)) ≡ length capture
bytes_again capture l = let p = legal_packed capture l in let s = packed_sizes (characters_of capture) capture p in let f = p.fewer in omega arith

pub ours_same_capture : SameCapture our_pack our_unpack
unfolding our_pack our_unpack
ours_same_capture = record {
  again = λ capture room old t l h g.
      let e = bytes_again capture l in
      ap (λ (cs : List ℕ). take (length capture) (pack_leaves cs old)) (given capture room l h)
      ∙ ap (λ (n : ℕ). take n (pack_leaves (characters_of capture) old)) (sym e)
      ∙ written (characters_of capture) old (packable capture l) (omega arith)
      ∙ pack_unpack capture t l;
}
