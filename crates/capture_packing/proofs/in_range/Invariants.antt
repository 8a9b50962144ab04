-- The loop keeps: what was looked at and what is left are in range exactly if the whole is.
use mathlib.Core.Path.{◌≡◌}
use mathlib.Core.Bool.{◌&&◌}
use lib.ListN.{drop}
use Rattle.laws.specs.Groups.{all_below}
use Rattle.capture_packing.proofs.in_range.Given as goal

abbrev pub invariant-loop-character : goal.invariant-loop-character
invariant-loop-character l = (l.good && all_below 1024 (drop l.character-index l.characters)) ≡ all_below 1024 l.characters
