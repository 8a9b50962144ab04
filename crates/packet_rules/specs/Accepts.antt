-- When a reader finds nothing wrong in a line: from the outside, by its answers and the state after them.
use Rattle.std.specs.Prelude.{ℕ, ◌<◌, ◌≡◌, List, [], ◌∷◌}
use Rattle.std.proofs.Math.Option.{none}
use Rattle.symbol.specs.declared.Symbol.{Symbol}
use Rattle.character_rules.specs.Answers.{Reading}
use Rattle.packet_rules.specs.Answers.{Said}
use Rattle.packet_rules.specs.State.{fresh}
use Rattle.packet_rules.specs.Line.{said_of, after_of}

-- none of the answers is a refusal or a violation
abbrev pub Sound : List Said → Type 0
Sound [] = Unit {0}
Sound (e ∷ es) = ((e.refusal ≡ none) × (e.violation ≡ none)) × Sound es

-- each symbol's byte is a byte
abbrev pub Bytes : List Symbol → Type 0
Bytes [] = Unit {0}
Bytes (x ∷ xs) = (x.byte < 256) × Bytes xs

-- a fresh reader finds nothing wrong, and is outside again at the end
abbrev pub Accepts : ℕ → List Reading → Type 0
Accepts s gs = Sound (said_of (fresh s) gs) × (after_of (fresh s) gs ≡ fresh s)
