-- A character that was refused, under whatever number, is refusal 1 with the state as it was: so what refused it need not be looked at.
-- Assumes nothing.
use mathlib.Core.Path.{◌≡◌, refl, sym}
use Prim.Native.Nat.{ℕ}
use Rattle.std.specs.Prelude.{Result, Ok, Err}
use Rattle.refusal.specs.declared.Refusal.{Refusal}
use Rattle.refusal.specs.Order.{number_of}
use Rattle.character_rules.specs.declared.Decoded.{Decoded}
use Rattle.character_rules.specs.Answers.{decoded_says, not_read, reading_says}
use Rattle.packet_rules.specs.declared.Reader.{Reader}
use Rattle.packet_rules.specs.Answers.{refused, OneOfTen}
use Rattle.packet_rules.specs.Step.{refused_step, step_of, step_with}
use Rattle.packet_rules.proofs.Violated.{silent_one_of_ten, gives_one_of_ten}

pub unread_refused : (r : Reader) (n : ℕ) → step_of r (not_read n) ≡ refused_step r 1
unfolding step_of
unread_refused r n = refl

-- a result or a refusal is stepped as what it says
pub with_says : (r : Reader) (g : Result Decoded Refusal) → step_with r g ≡ step_of r (reading_says g)
with_says r (Ok g) = refl
with_says r (Err e) = sym (unread_refused r (number_of e))

-- so the violation that it is answered with is one of the ten
pub with_one_of_ten : {E : Type 0} (r : Reader) (g : Result Decoded E) → OneOfTen (step_with r g).said
with_one_of_ten r (Ok g) = gives_one_of_ten r (decoded_says g)
with_one_of_ten r (Err e) = silent_one_of_ten (refused 1) refl
