-- The three parts, one after the other, are the packet.
use mathlib.Core.Path.{◌≡◌, ap}
use mathlib.Core.List.{[], ◌∷◌, map}
use Prim.Native.Nat.{◌+◌}
use native.Mathlib.Omega.{arith}
use lib.ListN.{length}
use Rattle.symbol.specs.Symbols.{data_symbol}
use Rattle.packet_rules.specs.Line.{closing}
use Rattle.packet_rules.specs.declared.Written.{Written}
use Rattle.packet_writer.proofs.Laws.{wrote_more, wrote_disparity}
use Rattle.packet_writer.proofs.Turns.{length_map}
use Rattle.packet_writer.proofs.Parts.{closing_is, tail_can, packet_is}
use Rattle.packet_writer.proofs.put_packet.Goals as goal

pub put_bytes-filled-requires : goal.put_bytes-filled-requires
put_bytes-filled-requires c =
    let w = c.put_symbols-opened.ensures in
    let at : c.put_symbols-opened.result.count ≡ c.args.from.count + 2 = ap (λ (x : Written). x.count) w.next in
    (omega (arith, at, c.put_symbols-opened.auto.out, c.requires.0), wrote_disparity w c.requires.2)

pub put_symbols-requires : goal.put_symbols-requires
put_symbols-requires c =
    let a = c.args in
    let bs = a.bytes.now in
    let tail : c.end_symbol.result ∷ c.data-o.result ∷ c.data.result ∷ c.data-2.result ∷ [] ≡ closing a.bad a.opening bs =
    rw (c.data-o.ensures, c.data.ensures, c.data-2.ensures)
    (closing_is a.bad a.opening bs c.check_of-check.result c.end_symbol.result c.end_symbol.ensures c.check_of-check.ensures) in
    let w = c.put_symbols-opened.ensures in
    let v = c.put_bytes-filled.ensures in
    let at : c.put_symbols-opened.result.count ≡ a.from.count + 2 = ap (λ (x : Written). x.count) w.next in
    let then : c.put_bytes-filled.result.count ≡ c.put_symbols-opened.result.count + length (map data_symbol bs) = ap (λ (x : Written). x.count) v.next in (
      omega (arith, at, then, c.put_symbols-opened.auto.out, c.put_bytes-filled.auto.out, c.requires.0, length_map data_symbol bs),
      tail_can a.bad a.opening bs (omega arith) tail,
      wrote_disparity v (wrote_disparity w c.requires.2),
    )

pub returns : goal.returns
returns c =
    let a = c.args in
    let bs = a.bytes.now in
    let tail : c.end_symbol.result ∷ c.data-o.result ∷ c.data.result ∷ c.data-2.result ∷ [] ≡ closing a.bad a.opening bs =
    rw (c.data-o.ensures, c.data.ensures, c.data-2.ensures)
    (closing_is a.bad a.opening bs c.check_of-check.result c.end_symbol.result c.end_symbol.ensures c.check_of-check.ensures) in
    let room = c.requires.0 in
    let both = wrote_more c.put_symbols-opened.ensures c.put_bytes-filled.ensures (omega (arith, room)) in
    packet_is a.from a.start a.opening bs a.bad c.data-o.ensures tail
    (wrote_more both c.put_symbols.ensures (omega (arith, room, length_map data_symbol bs)))
