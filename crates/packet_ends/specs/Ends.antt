-- How the code goes about the end of a packet. Proved equal to the rules in packet_reader/proofs/Agree.antt.
use Rattle.std.specs.Prelude.{ℕ, Bool, cond}
use Rattle.packet_rules.specs.Open.{OpenData, OpenPriority}
use Rattle.packet_rules.specs.declared.Event.{Event}
use Rattle.packet_rules.specs.declared.Event.TheVariants.{End, Violation as Violates}
use Rattle.packet_rules.specs.declared.Violation.TheVariants.{Crc}
use Rattle.packet_rules.specs.Answers.{violation_number}
use Rattle.packet_rules.specs.State.{register_in}
use Rattle.packet_rules.specs.Violations.{right_crc}

-- the second CRC byte ends the packet where the CRC is right, and is violation 6 where it is not
abbrev pub end_of : OpenData → OpenPriority → Bool → ℕ → ℕ → Event
end_of d p bad a b = cond (right_crc (register_in d p) a b) (End bad) (Violates (violation_number Crc))
