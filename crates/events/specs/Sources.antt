-- The characters of the capture that is read.
use Rattle.std.specs.Prelude.{ℕ, List, length}
use Rattle.capture_rules.specs.Capture.{character_count, characters_of}
use Rattle.events.specs.declared.source.Source.{Source}

abbrev pub characters_in : Source → List ℕ
characters_in s = characters_of s.capture.bytes.now

abbrev pub places_in : Source → ℕ
places_in s = character_count (length s.capture.bytes.now)
