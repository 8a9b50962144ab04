-- Two texts, one after another, where they have room.
use mathlib.Core.Path.{sym, ◌∙◌}
use Rattle.listing_text.specs.Writing.{worded_line, worded_room}
use Rattle.listing_text.proofs.Written.{wrote_more, put_done}
use Rattle.listing_text.proofs.put_worded.Goals as goal

pub returns : goal.returns
returns c =
    let a = c.args in
    put_done (worded_room a.at a.words.now) a.at (worded_line a.place a.words.now) a.out.now _ _
    (sym c.has_room.ensures ∙ c.if-not-has_room.false)
    (wrote_more c.put_number-a.ensures c.put.ensures)
