-- A packet within the rules: its symbols are a legal line and can all be written, and no refusal applies.
-- Assumes nothing.
use mathlib.Core.Path.{◌≡◌, refl, sym, ap, subst, ◌∙◌}
use mathlib.Core.Bool.{Bool, true, false, ◌&&◌}
use mathlib.Core.List.{List, [], ◌∷◌, ◌++◌, map}
use Prim.Native.Nat.{ℕ, suc, ◌+◌, ◌-◌, ◌*◌, ◌/◌, ◌%◌, ◌≤◌, ◌<◌}
use native.Mathlib.Omega.{arith}
use borrow.Author.Tests.{le-ltb, ne_eqb}
use lib.Bits.{bit_xor, xor_lt}
use lib.Dec.{T, ltb, lt→ltb}
use lib.IntN.{ℤ}
use lib.ListN.{length, length-append}
use Rattle.laws.specs.Lists.{all_of}
use Rattle.laws.proofs.Cases.{some_is_not_none}
use Rattle.laws.proofs.Bools.{and_left, and_right, and_both, T_true}
use Rattle.refusal.specs.Order.{refusal_of}
use Rattle.refusal.proofs.Laws.{refused_leaves}
use Rattle.symbol.specs.Symbols.{data_symbol, is_twelve}
use Rattle.symbol.specs.declared.Symbol.{Symbol}
use Rattle.character_rules.specs.Disparity.{is_disparity}
use Rattle.character_rules.specs.Demand.{can_write}
use Rattle.character_rules.specs.Writing.{closing_of}
use Rattle.crc.specs.Crc16.{crc_start, crc_from, crc_of}
use Rattle.crc.proofs.Laws.{check_bytes_lem}
use Rattle.packet_rules.specs.Answers.{Said, gave_byte}
use Rattle.segment_size.specs.Sizes.{size_allowed}
use Rattle.packet_rules.specs.Line.{SPP, SDP, end_symbol, Fill, reply, Inside, end, byte, closing, priority, Within, fill, nested, packet, Outside, within, data_packet}
use Rattle.packet_rules.specs.Packets.{Packet, in_data, in_priority, retry, packet_symbols, symbols_of, packet_checks, said_for, PacketWriting, wrote, not_wrote, packet_writing, packet_output}
use Rattle.packet_rules.specs.RoundTrip.{Allowed}
use Rattle.packet_rules.proofs.Read.{all_append}

-- ---- a legal line

plain : (Among : List Symbol → List Said → Type 0) (bs : List ℕ) → Inside Among bs (map data_symbol bs) (map gave_byte bs)
plain Among [] = end
plain Among (b ∷ bs) = byte b (plain Among bs)

pub legal : (s : ℕ) (p : Packet) → Allowed s p → Outside s (symbols_of p) (said_for p)
unfolding symbols_of said_for
legal s (in_data c bytes bad) h = data_packet (packet c bytes bad h.0 h.1 (plain (Within s) bytes))
legal s (in_priority c g bytes bad) h = within (nested (priority c g bytes bad h.0 h.1 h.2 h.3 (plain Fill bytes)))
legal s (retry nack n) h = within (fill (reply nack n h))

-- ---- symbols that can be written

pub byte_can : (b : ℕ) → b < 256 → T (can_write (data_symbol b))
byte_can b h = and_both (ltb b 256) true (lt→ltb b 256 h) tt

bytes_can : (bs : List ℕ) → T (all_of (λ b. ltb b 256) bs) → T (all_of can_write (map data_symbol bs))
bytes_can [] a = tt
bytes_can (b ∷ bs) a =
    and_both (can_write (data_symbol b)) (all_of can_write (map data_symbol bs))
    (and_both (ltb b 256) true (and_left (ltb b 256) (all_of (λ x. ltb x 256) bs) a) tt)
    (bytes_can bs (and_right (ltb b 256) (all_of (λ x. ltb x 256) bs) a))

crc_can : (bs : List ℕ) → T (all_of can_write (map data_symbol (crc_of bs)))
unfolding crc_of
crc_can bs =
    let c = crc_from crc_start bs in
    subst (λ (l : List ℕ). T (all_of can_write (map data_symbol l))) (sym (check_bytes_lem c))
    (and_both (can_write (data_symbol (255 - c % 256))) (can_write (data_symbol (255 - c / 256 % 256)) && true) (byte_can (255 - c % 256) (omega arith))
    (and_both (can_write (data_symbol (255 - c / 256 % 256))) true (byte_can (255 - c / 256 % 256) (omega arith)) tt))

end_can : (bad : Bool) → T (can_write (end_symbol bad))
unfolding is_twelve
end_can true = tt
end_can false = tt

pub closing_can : (o : ℕ) (bs : List ℕ) (bad : Bool) → o < 256 → T (all_of can_write (closing bad o bs))
closing_can o bs bad ho =
    and_both (can_write (end_symbol bad)) (all_of can_write (data_symbol o ∷ map data_symbol (crc_of bs))) (end_can bad)
    (and_both (can_write (data_symbol o)) (all_of can_write (map data_symbol (crc_of bs))) (byte_can o ho) (crc_can bs))

packet_can : (x : Symbol) (o : ℕ) (bs : List ℕ) (bad : Bool) → T (can_write x) → o < 256 → T (all_of (λ b. ltb b 256) bs)
    → T (all_of can_write (packet_symbols x o bs bad))
packet_can x o bs bad cx ho hb =
    let body = map data_symbol bs ++ closing bad o bs in
    and_both (can_write x) (all_of can_write (data_symbol o ∷ body)) cx
    (and_both (can_write (data_symbol o)) (all_of can_write body) (byte_can o ho)
    (all_append can_write (map data_symbol bs) (closing bad o bs) (bytes_can bs hb) (closing_can o bs bad ho)))

pub can : (s : ℕ) (p : Packet) → Allowed s p → T (all_of can_write (symbols_of p))
unfolding symbols_of is_twelve
can s (in_data c bytes bad) h = packet_can SDP c bytes bad tt h.0 h.2
can s (in_priority c g bytes bad) h = packet_can SPP (16 * g + c) bytes bad tt (omega (arith, h.0, h.1)) h.4
can s (retry true n) h =
    and_both (can_write (data_symbol n)) _ (byte_can n (omega arith))
    (and_both (can_write (data_symbol (bit_xor 0x21 n))) true (byte_can (bit_xor 0x21 n) (xor_lt 8 0x21 n (omega arith) (omega arith))) tt)
can s (retry false n) h =
    and_both (can_write (data_symbol n)) _ (byte_can n (omega arith))
    (and_both (can_write (data_symbol (bit_xor 0x20 n))) true (byte_can (bit_xor 0x20 n) (xor_lt 8 0x20 n (omega arith) (omega arith))) tt)

-- ---- how long it is

length_map : (bs : List ℕ) → length (map data_symbol bs) ≡ length bs
length_map [] = refl
length_map (b ∷ bs) = ap suc (length_map bs)

pub length_packet : (x : Symbol) (o : ℕ) (bs : List ℕ) (bad : Bool) → length (packet_symbols x o bs bad) ≡ length bs + 6
unfolding crc_of
length_packet x o bs bad =
    let c = crc_from crc_start bs in
    let four : length (closing bad o bs) ≡ 4 = ap (λ (l : List ℕ). length (end_symbol bad ∷ data_symbol o ∷ map data_symbol l)) (check_bytes_lem c) in
    let body : length (map data_symbol bs ++ closing bad o bs) ≡ length bs + 4 =
    length-append (map data_symbol bs) (closing bad o bs) ∙ ap (λ (n : ℕ). n + length (closing bad o bs)) (length_map bs) ∙ ap (λ (n : ℕ). length bs + n) four in
    omega (arith, body)

-- ---- no refusal applies

pub accepted : (s : ℕ) (p : Packet) (d : ℤ) (room : ℕ) → size_allowed s ≡ true → Allowed s p → T (is_disparity d) → length (symbols_of p) ≤ room
    → refusal_of (packet_checks s p d room) ≡ 0
unfolding symbols_of
accepted s (in_data c bytes bad) d room ok h t l =
    simp (
      T_true (is_disparity d) t,
      le-ltb 255 c (omega (arith, h.0)),
      ne_eqb (length bytes) 0 (λ e. omega (arith, h.1, e)),
      le-ltb room (length bytes + 6) (omega (arith, length_packet SDP c bytes bad)),
    )
accepted s (in_priority c g bytes bad) d room ok h t l =
    simp (
      T_true (is_disparity d) t,
      ok,
      le-ltb 15 c (omega (arith, h.0)),
      le-ltb 15 g (omega (arith, h.1)),
      le-ltb s (length bytes) h.3,
      ne_eqb (length bytes) 0 (λ e. omega (arith, h.2, e)),
      le-ltb room (length bytes + 6) (omega (arith, length_packet SPP (16 * g + c) bytes bad)),
    )
accepted s (retry nack n) d room ok h t l = simp (T_true (is_disparity d) t, le-ltb 15 n (omega arith), le-ltb room 4 l)

-- ---- a refused call leaves the output as it stood

pub packet_leaves : (s : ℕ) (p : Packet) (d : ℤ) (out : List ℕ) (n : ℕ) → not_wrote n ≡ packet_writing s p d out → packet_output s p d out ≡ out
unfolding packet_writing packet_output
packet_leaves s p d out n e =
    refused_leaves (packet_checks s p d (length out)) not_wrote (wrote (length (symbols_of p)) (closing_of (symbols_of p) d)) n
    (λ z. some_is_not_none (ap (λ (w : PacketWriting). w.count) z)) e out _
