-- A call that reads a character, by the numbers of what was read.
-- Assumes nothing.
use Prim.Native.Nat.{ℕ}
use mathlib.Core.Path.{◌≡◌, ap}
use lib.IntN.{ℤ}
use Rattle.std.proofs.Math.Option.{Option, some}
use Rattle.character_rules.specs.declared.Decoded.{Decoded}
use Rattle.character_rules.specs.declared.Decoded.TheVariants.{Clean, WrongDisparity, Invalid}
use Rattle.character_rules.specs.Answers.{decoded_says}
use Rattle.character_rules.specs.Reading.{reading}
use Rattle.host_rules.specs.Numbers.{or_old}
use Rattle.host_rules.specs.Characters.{byte_in, control_in}
use Rattle.host_calls.specs.CharacterCalls.{Reads, reads}
use Rattle.host_calls.proofs.CharacterLaws.{read_clean, read_wrong, read_invalid}

module _ (character : ℕ) (old : Reads) (d : ℤ) (v b k : ℕ) where
  pub read_done :
      (x : Decoded) → some d ≡ (decoded_says x).disparity → v ≡ (decoded_says x).violation → b ≡ byte_in (decoded_says x).symbol
      → k ≡ control_in (decoded_says x).symbol → decoded_says x ≡ reading character old.disparity
      → reads character old ≡ record { refusal = 0; lent = record { disparity = d; violation = v; byte = b; control = k } }
  read_done (Clean s n) p q r t e =
      rw (ap (λ (o : Option ℤ). or_old o d) p, q, r, t) (read_clean character old s n e)
  read_done (WrongDisparity s n) p q r t e =
      rw (ap (λ (o : Option ℤ). or_old o d) p, q, r, t) (read_wrong character old s n e)
  read_done (Invalid n) p q r t e =
      rw (ap (λ (o : Option ℤ). or_old o d) p, q, r, t) (read_invalid character old n e)
