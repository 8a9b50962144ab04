-- A fresh listing, one that goes on, and one that has ended.
use Rattle.capture_rules.proofs.Answers.{handed_back}
use Rattle.listing.proofs.Nexts.{first_comes, refused_comes, ended_comes}
use Rattle.listing.proofs.next.Goals as goal

pub returns-in-Fresh : goal.returns-in-Fresh
returns-in-Fresh c =
    let a = c.args in
    first_comes a.capture.now a.listing.now c.first_piece-piece.result a.out.now c.first_piece-piece.new.out c.in-Fresh.is c.first_piece-piece.ensures

pub returns-in_err-piece-in-Going : goal.returns-in_err-piece-in-Going
returns-in_err-piece-in-Going c =
    let a = c.args in
    refused_comes a.capture.now a.listing.now c.in-Going.p _ _ a.out.now c.later_piece.new.out c.in-Going.is
    (handed_back _ _ c.from_residual.ensures.1) c.in_err-piece-in-Going.ensures.0 c.in_err-piece-in-Going.ensures.1

pub returns-in-Ended : goal.returns-in-Ended
returns-in-Ended c =
    let a = c.args in
    ended_comes a.capture.now a.listing.now a.out.now c.in-Ended.is
