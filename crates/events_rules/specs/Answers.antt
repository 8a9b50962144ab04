-- What reading a whole capture answers, and what it hands back.
use Rattle.std.specs.Prelude.{ℕ, ℤ, Result, Ok, Err}
use Rattle.refusal.specs.declared.Refusal.{Refusal}
use Rattle.refusal.specs.Order.{number_of}
use Rattle.packet_rules.specs.declared.Reader.{Reader}

-- the refusal's number, 0 for none; how many characters were read, and so how many events were stored; the disparity and the state after them,
-- and on a refusal those that were given
pub record CaptureRead : Type 0 where
  pub refusal : ℕ
  pub count : ℕ
  pub disparity : ℤ
  pub reader : Reader

-- the same beside what is handed back
pub record ReadAnswer : Type 0 where
  pub refusal : ℕ
  pub count : ℕ

abbrev pub read_beside : CaptureRead → ReadAnswer
read_beside a = record { refusal = a.refusal; count = a.count }

abbrev pub read_says : Result ℕ Refusal → ReadAnswer
read_says (Ok n) = record { refusal = 0; count = n }
read_says (Err r) = record { refusal = number_of r; count = 0 }
