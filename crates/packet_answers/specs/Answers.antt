-- The answers of a step: an event, and the packets and the phase after it.
-- Proved equal to the rules in packet_reader/proofs/Agree.antt.
use Rattle.std.specs.Prelude.{ℕ, ◌/◌, ◌%◌, false, Some, None}
use Rattle.crc.specs.Crc16.{crc_start}
use Rattle.packet_rules.specs.Open.{OpenData, OpenPriority, open_data, open_priority}
use Rattle.packet_rules.specs.declared.Phase.{Phase}
use Rattle.packet_rules.specs.declared.Phase.TheVariants.{Free, Dropping}
use Rattle.packet_rules.specs.declared.Event.{Event}
use Rattle.packet_rules.specs.declared.Event.TheVariants.{StartData, StartPriority, Violation as Violates}
use Rattle.packet_rules.specs.declared.Reader.{Reader}
use Rattle.packet_rules.specs.declared.Step.{Step}

abbrev pub to : Event → OpenData → OpenPriority → Phase → Reader → Step
to e d p w r = record { event = e; reader = record { size = r.size; packet = d; priority = p; phase = w } }

abbrev pub moved_to : Event → Phase → Reader → Step
moved_to e w r = to e r.packet r.priority w r

abbrev pub violated_to : ℕ → Reader → Step
violated_to n r = to (Violates n) None None Dropping r

abbrev pub closed_to : Event → Reader → OpenPriority → Step
closed_to e r (Some inner) = to e r.packet None Free r
closed_to e r None = to e None None Free r

abbrev pub started_data : ℕ → Reader → Step
started_data b r = to (StartData b) (open_data b false crc_start) r.priority Free r

abbrev pub started_priority : ℕ → Reader → Step
started_priority b r = to (StartPriority (b % 16) (b / 16)) r.packet (open_priority b 0 crc_start) Free r
