-- Document 01, "On the bench": K28.5 then D21.5 packs to 3E AA A0.
-- Assumes nothing.
use mathlib.Core.Path.{◌≡◌, refl}
use mathlib.Core.List.{[], ◌∷◌}
use Rattle.capture_rules.specs.Capture.{pack_of}

pub k28_5_then_d21_5 : pack_of (0b0011111010 ∷ 0b1010101010 ∷ []) ≡ 0x3E ∷ 0xAA ∷ 0xA0 ∷ []
unfolding pack_of
k28_5_then_d21_5 = refl
