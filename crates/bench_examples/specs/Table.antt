-- Document 01, "On the bench": the lines marked P, one table under one statement, of the definitions that the contracts cite.
use Rattle.std.specs.Prelude.{◌≡◌, [], ◌∷◌}
use Rattle.character_rules.specs.Bench as characters
use Rattle.capture_rules.specs.Capture.{pack_of}
use Rattle.retry_rules.specs.Bench as retry

pub record Bench : Type 0 where
  -- D30.4, K28.5, D0.0, D17.7, D11.7
  pub characters_hold : characters.Rows
  -- K28.5 then D21.5 packs to 3E AA A0
  pub packs : pack_of (0b0011111010 ∷ 0b1010101010 ∷ []) ≡ 0x3E ∷ 0xAA ∷ 0xA0 ∷ []
  -- fresh, three and ten received; 0 to 2 sent, NACK, then ACK 0; and the two lines on eight stored and S, which are run besides
  pub retry_holds : retry.Rows
