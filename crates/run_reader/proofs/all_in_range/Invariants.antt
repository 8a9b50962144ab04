-- What was found so far and what remains say what the whole run would.
use mathlib.Core.Path.{◌≡◌}
use mathlib.Core.Bool.{◌&&◌}
use lib.ListN.{drop}
use Rattle.laws.specs.Lists.{all_of}
use Rattle.character_rules.specs.Results.{in_range}
use Rattle.run_reader.proofs.all_in_range.Given as goal

abbrev pub invariant-loop-character : goal.invariant-loop-character
invariant-loop-character l = all_of in_range l.characters ≡ (l.so_far && all_of in_range (drop l.character-index l.characters))
