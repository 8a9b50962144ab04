-- Demand 2 of characters: our reader and writer satisfy it.
-- Assumes nothing.
use Rattle.character_rules.specs.Writing.{writing}
use Rattle.character_rules.specs.Reading.{reading}
use Rattle.character_rules.specs.Demand.{DemandTwo}
use Rattle.character_rules.proofs.Trip.{round_trip, exact, otherwise}
use Rattle.character_rules.proofs.LineBalance.{balanced_line}

pub demand_two : DemandTwo reading writing
demand_two = record { round_trip = round_trip; exact = exact; otherwise = otherwise; balanced = balanced_line }
