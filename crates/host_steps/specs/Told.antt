-- What is told of a step that may be refused.
use Rattle.std.specs.Prelude.{Result, Ok, Err}
use Rattle.refusal.specs.declared.Refusal.{Refusal}
use Rattle.refusal.specs.Order.{number_of}
use Rattle.packet_rules.specs.declared.Event.{Event}
use Rattle.packet_rules.specs.Answers.{event_says}
use Rattle.host_rules.specs.declared.EventNumbers.{EventNumbers}
use Rattle.host_rules.specs.Answers.{Told, told_says}
use Rattle.host_rules.specs.Stepping.{told_of}

-- what is told beside a refusal
abbrev pub numbers_of : Told → EventNumbers
numbers_of t = record { event = t.event; value = t.value; number = t.number }

-- of an event what is told of it; what refused a step is handed on, whatever it is
abbrev pub answer_numbers : {E : Type 0} → Result Event E → Result EventNumbers E
answer_numbers (Ok e) = Ok (numbers_of (told_of (event_says e)))
answer_numbers (Err x) = Err x

-- of a refusal its number, and zeros
abbrev pub answer_told_says : Result EventNumbers Refusal → Told
answer_told_says (Ok e) = told_says e
answer_told_says (Err r) = record { refusal = number_of r; event = 0; value = 0; number = 0 }
