-- What the writer answers is what C is told.
use Rattle.packet_rules.specs.Packets.{in_priority}
use Rattle.host_rules.specs.Numbers.{mark_of}
use Rattle.host_rules.proofs.Signed.{same}
use Rattle.host_calls.specs.PacketCalls.{WritesPacket}
use Rattle.host_packets.proofs.Told.{all_told}
use Rattle.host_packets.proofs.writers.buzz_write_priority.Goals as goal

pub returns : goal.returns
returns c =
    let a = c.args in
    let old : WritesPacket = record { disparity = a.disparity.now; characters = a.characters.now; count = a.count.now } in
    all_told a.size (in_priority a.channel a.segment a.bytes.now (mark_of a.bad)) old _ _ _ _ _ _ (same a.disparity.now c.write_priority-arg-1.given)
    c.write_priority-written.ensures c.told.ensures
