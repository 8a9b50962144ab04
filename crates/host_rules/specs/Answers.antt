-- What a step says, in numbers.
use Rattle.std.specs.Prelude.{ℕ}
use Rattle.host_rules.specs.declared.EventNumbers.{EventNumbers}

-- the refusal's number (0: none), the event's, and its two numbers
pub record Told : Type 0 where
  pub refusal : ℕ
  pub event : ℕ
  pub value : ℕ
  pub number : ℕ

abbrev pub number_told : ℕ → ℕ → ℕ → Told
number_told event value number = record { refusal = 0; event = event; value = value; number = number }

abbrev pub told_says : EventNumbers → Told
told_says e = number_told e.event e.value e.number
