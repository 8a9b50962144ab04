-- After i turns the first i characters stand, and past them what stood there.
use mathlib.Core.Path.{◌≡◌}
use mathlib.Core.List.{◌++◌}
use lib.ListN.{length, take, drop}
use Rattle.capture_rules.specs.Capture.{characters_of}
use Rattle.listing_pieces.proofs.take_characters.Given as goal

abbrev pub invariant-loop-i : goal.invariant-loop-i
invariant-loop-i l =
    (l.out ≡ take l.i (drop l.place (characters_of l.capture.bytes.now)) ++ drop l.i l.initial.out) × (length l.out ≡ length l.initial.out)
