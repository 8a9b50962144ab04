-- What is open in a state: a data packet, or none; a priority packet, or none.
use Rattle.std.specs.Prelude.{ℕ, Bool, Option, Some}
use Rattle.packet_rules.specs.declared.DataPacket.{DataPacket}
use Rattle.packet_rules.specs.declared.PriorityPacket.{PriorityPacket}

abbrev pub OpenData : Type 0
OpenData = Option DataPacket

abbrev pub OpenPriority : Type 0
OpenPriority = Option PriorityPacket

abbrev pub open_data : ℕ → Bool → ℕ → OpenData
open_data h begun c = Some (record { channel = h; begun = begun; register = c })

abbrev pub open_priority : ℕ → ℕ → ℕ → OpenPriority
open_priority o n c = Some (record { opening = o; count = n; register = c })
