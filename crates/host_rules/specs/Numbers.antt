-- Numbers as they cross to C: marks, what a lent number holds after a call.
use Rattle.std.specs.Prelude.{ℕ, Bool, cond, not, eqb}
use Rattle.std.proofs.Math.Option.{Option, none, some}

-- a mark as a number: 0 is good, ACK, no; anything else is bad, NACK, yes
abbrev pub mark_of : ℕ → Bool
mark_of n = not (eqb n 0)

-- and a mark that is handed out: 0 or 1
abbrev pub mark_number : Bool → ℕ
mark_number b = cond b 1 0

-- what a lent thing holds after a call with this refusal's number: what the call makes of it, or the thing as it stood
unfoldable pub stands : {A : Type 0} → ℕ → A → A → A
stands n old new = cond (eqb n 0) new old

-- what a call comes to: the refusal's number, 0 for none, and what all that was lent to it holds afterwards
pub record Called (A : Type 0) : Type 0 where
  pub refusal : ℕ
  pub lent : A

-- on a refusal all that was lent is what stood there
unfoldable pub called : {A : Type 0} → ℕ → A → A → Called A
called n old new = record { refusal = n; lent = stands n old new }

-- what a lent number holds after an answer that may bring one
abbrev pub or_old : {A : Type 0} → Option A → A → A
or_old none old = old
or_old (some new) old = new
