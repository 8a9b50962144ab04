-- The lines of packed results, put at the front of a piece.
use Rattle.std.specs.Prelude.{ℕ, ◌+◌, ◌≡◌, Bool, cond, ◌&&◌, List, ◌++◌, map, leb, length, drop}
use Rattle.character_rules.specs.Results.{unpacked}
use Rattle.packet_rules.specs.Answers.{Said}
use Rattle.packet_rules.specs.Line.{said_of, after_of}
use Rattle.listing_rules.specs.declared.Reached.{Reached}
use Rattle.listing_rules.specs.Lines.{lines_from, events_in}
use Rattle.listing_text.specs.Writing.{Wrote}
use Rattle.listing_lines.specs.declared.Progress.{Progress}

-- at most 64 results, whose lines have room, and a place and events that a capture has
abbrev pub is_block : ℕ → ℕ → ℕ → Bool
is_block n place events = leb n 64 && (leb place 52428 && leb events 52428)

abbrev pub takes : List ℕ → Reached → Bool
takes results from = is_block (length results) from.place from.events

-- what the reader says of the results
abbrev pub said_of_results : List ℕ → Reached → List Said
said_of_results results from = said_of from.reader (map unpacked results)

abbrev pub lines_of : List ℕ → Reached → List ℕ
lines_of results from = lines_from from.place (said_of_results results from)

-- the index after the lines, the events and the reader after the results; nothing is put where it is no block
abbrev pub begun : Reached → Progress
begun from = record { at = 0; events = from.events; reader = from.reader }

abbrev pub progress_of : List ℕ → Reached → Progress
progress_of results from =
    cond (takes results from)
    (record {
      at = length (lines_of results from);
      events = from.events + events_in (said_of_results results from);
      reader = after_of from.reader (map unpacked results);
    })
    (begun from)

abbrev pub lines_put : List ℕ → Reached → List ℕ → List ℕ
lines_put results from old = cond (takes results from) (lines_of results from ++ drop (length (lines_of results from)) old) old

-- the same of a part of a block, from an index on: its lines, the events so far and the reader after them
pub record Listed (place : ℕ) (results : List ℕ) (from : Progress) (old new : List ℕ) (to : Progress) : Type 0 where
  pub text : Wrote from.at (lines_from place (said_of from.reader (map unpacked results))) old new to.at
  pub events : to.events ≡ from.events + events_in (said_of from.reader (map unpacked results))
  pub reader : to.reader ≡ after_of from.reader (map unpacked results)
