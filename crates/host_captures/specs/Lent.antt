-- What a lent number holds after an answer: the number that is answered, and what it held where the call is refused.
use Rattle.std.specs.Prelude.{Result, Ok, Err}
use Rattle.refusal.specs.declared.Refusal.{Refusal}

abbrev pub lent_after : {A : Type 0} → Result A Refusal → A → A
lent_after (Ok new) old = new
lent_after (Err r) old = old
