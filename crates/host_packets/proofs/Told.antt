-- What C is told of a packet is what the call comes to.
-- Assumes nothing.
use Prim.Native.Nat.{ℕ}
use mathlib.Core.Path.{◌≡◌, ap, ◌∙◌}
use mathlib.Core.List.{List}
use lib.IntN.{ℤ}
use Rattle.std.specs.Prelude.{Result}
use Rattle.refusal.specs.declared.Refusal.{Refusal}
use Rattle.refusal.specs.Order.{refusal_says}
use Rattle.packet_rules.specs.declared.Written.{Written}
use Rattle.packet_rules.specs.Packets.{Packet, written_says, packet_writing, packet_output}
use Rattle.host_rules.specs.Numbers.{or_old}
use Rattle.host_calls.specs.PacketCalls.{WritesPacket, writes_packet}
use Rattle.host_calls.proofs.PacketLaws.{packet_told}

-- `d` is the disparity as the writer was given it
pub all_told :
    (size : ℕ) (packet : Packet) (old : WritesPacket) (w : Result Written Refusal) (d : ℤ) (r n : ℕ) (closing : ℤ) (out : List ℕ)
    → d ≡ old.disparity
    → (written_says w ≡ packet_writing size packet d old.characters) × (out ≡ packet_output size packet d old.characters)
    → (r ≡ refusal_says w) × (closing ≡ or_old (written_says w).disparity old.disparity) × (n ≡ or_old (written_says w).count old.count)
    → (r ≡ (writes_packet size packet old).refusal) × (closing ≡ (writes_packet size packet old).lent.disparity)
    × (out ≡ (writes_packet size packet old).lent.characters) × (n ≡ (writes_packet size packet old).lent.count)
all_told size packet old w d r n closing out same wrote told =
    let says = wrote.0 ∙ ap (λ (e : ℤ). packet_writing size packet e old.characters) same in
    let leaves = wrote.1 ∙ ap (λ (e : ℤ). packet_output size packet e old.characters) same in
    rw (packet_told size packet old w says) (told.0, told.1, leaves, told.2)
