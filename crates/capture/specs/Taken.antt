-- What taking some bytes for a legal capture answers: the refusal's number (0: not refused), and the bytes, which are the ones given.
use Rattle.std.specs.Prelude.{ℕ, List, [], ◌∷◌, Result, Ok, Err}
use Rattle.std.proofs.Math.Option.{Option, none, some}
use Rattle.refusal.specs.declared.Refusal.{Refusal}
use Rattle.refusal.specs.Order.{number_of, outcome}
use Rattle.capture_rules.specs.Calls.{readable}
use Rattle.capture.specs.declared.Legal.{Legal}

pub record Taken : Type 0 where
  pub refusal : ℕ
  pub bytes : Option (List ℕ)

abbrev pub not_taken : ℕ → Taken
not_taken n = record { refusal = n; bytes = none }

abbrev pub legal_says : Result Legal Refusal → Taken
legal_says (Ok taken) = record { refusal = 0; bytes = some taken.bytes.now }
legal_says (Err r) = not_taken (number_of r)

abbrev pub taken_of : List ℕ → Taken
taken_of bytes = outcome (readable bytes ∷ []) not_taken record { refusal = 0; bytes = some bytes }
