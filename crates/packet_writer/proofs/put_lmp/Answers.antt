-- Four symbols: SLP, the two bytes, and their exclusive-or.
use mathlib.Core.Bool.{true, ◌&&◌}
use Prim.Native.Nat.{ℕ, ◌<◌}
use native.Mathlib.Omega.{arith}
use lib.Bits.{bit_xor, xor_lt}
use lib.Dec.{T}
use Rattle.laws.specs.Lists.{all_of}
use Rattle.laws.proofs.Bools.{and_both}
use Rattle.symbol.specs.Symbols.{data_symbol, is_twelve}
use Rattle.character_rules.specs.Demand.{can_write}
use Rattle.packet_rules.proofs.Packets.{byte_can}
use Rattle.packet_writer.specs.Writing.{lmp_symbols}
use Rattle.packet_writer.proofs.put_lmp.Goals as goal

four_can : (t n : ℕ) → t < 256 → n < 256 → T (all_of can_write (lmp_symbols t n))
unfolding is_twelve
four_can t n ht hn =
    let x = bit_xor t n in
    and_both (can_write (data_symbol t)) (can_write (data_symbol n) && (can_write (data_symbol x) && true)) (byte_can t ht)
    (and_both (can_write (data_symbol n)) (can_write (data_symbol x) && true) (byte_can n hn)
    (and_both (can_write (data_symbol x)) true (byte_can x (xor_lt 8 t n ht hn)) tt))

pub put_symbols-requires : goal.put_symbols-requires
put_symbols-requires c =
    (c.requires.0, rw (c.data.ensures, c.data-2.ensures, c.data-3.ensures) (four_can c.args.t c.args.n (omega arith) (omega arith)), c.requires.1)
