-- The one line of a refused capture, and the header.
use mathlib.Core.Path.{refl, sym, ◌∙◌}
use Rattle.listing_rules.specs.Text.{decimal}
use Rattle.listing_rules.specs.Lines.{header, refused_line}
use Rattle.listing_text.specs.Writing.{front_room}
use Rattle.listing_text.proofs.Written.{put_wrote}
use Rattle.listing.proofs.Nexts.{refused_is, header_is, is_made, made_is}
use Rattle.listing.proofs.first_piece.Goals as goal

pub returns-then-not-is_legal : goal.returns-then-not-is_legal
unfolding decimal
returns-then-not-is_legal c =
    let a = c.args in
    refused_is a.capture.now a.out.now c.put_front.new.out c.put_front.result (sym c.is_legal.ensures ∙ c.if-not-is_legal.true)
    (put_wrote (front_room refused_line) 0 refused_line a.out.now _ _ refl c.put_front.ensures)

pub unwrap-requires : goal.unwrap-requires
unwrap-requires c = is_made c.fresh.result c.fresh.ensures

pub returns : goal.returns
returns c =
    let put = c.put_front-length in
    let a = c.args in
    header_is a.capture.now a.out.now put.new.out put.result c.unwrap.result (made_is c.fresh.result c.unwrap.result c.fresh.ensures c.unwrap.ensures)
    (sym c.is_legal.ensures ∙ c.if-not-is_legal.false)
    (put_wrote (front_room header) 0 header a.out.now _ _ refl put.ensures)
