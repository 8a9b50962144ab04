-- A listing handed out in pieces: the header, then the lines of at most 64 characters a call, then the last line. A piece goes into a lent output
-- of 2,048 bytes, where 64 lines fit.
use Rattle.std.specs.Prelude.{ℕ, ◌+◌, ◌≡◌, Bool, cond, not, ◌&&◌, ◌||◌, List, [], ◌∷◌, ◌++◌, ltb, leb, negsuc, length, take, drop, Result, Ok, Err, Option as Given, Some, None}
use Rattle.std.proofs.Math.Option.{Option, none, some}
use Rattle.refusal.specs.declared.Refusal.{Refusal}
use Rattle.refusal.specs.Order.{Check, check, number_of, outcome, left}
use Rattle.character_rules.specs.Disparity.{is_disparity}
use Rattle.character_rules.specs.Results.{run_closing, readings_of}
use Rattle.capture_rules.specs.Capture.{character_count, characters_of, legal}
use Rattle.capture_rules.specs.Calls.{readable}
use Rattle.packet_rules.specs.Answers.{Said as EventSaid}
use Rattle.packet_rules.specs.State.{well_formed, fresh}
use Rattle.packet_rules.specs.Line.{said_of, after_of}
use Rattle.listing_rules.specs.declared.Reached.{Reached}
use Rattle.listing_rules.specs.declared.Listing.{Listing}
use Rattle.listing_rules.specs.declared.Listing.TheVariants.{Fresh, Going, Ended}
use Rattle.listing_rules.specs.declared.Piece.{Piece}
use Rattle.listing_rules.specs.Lines.{lines_from, events_in, header, end_line, refused_line}

-- ---- what an answer says: the refusal's number, if it was refused; how many bytes were written, where a piece was; the listing after it

pub record Said : Type 0 where
  pub refusal : Option ℕ
  pub length : Option ℕ
  pub listing : Listing

abbrev pub wrote : ℕ → Listing → Said
wrote n l = record { refusal = none; length = some n; listing = l }

abbrev pub wrote_nothing : Listing → Said
wrote_nothing l = record { refusal = none; length = none; listing = l }

abbrev pub refused : Listing → ℕ → Said
refused l n = record { refusal = some n; length = none; listing = l }

-- the same of a call that is lent the listing: beside it the refusal's number, and how many bytes
pub record PieceAnswer : Type 0 where
  pub refusal : Option ℕ
  pub length : Option ℕ

abbrev pub piece_beside : Said → PieceAnswer
piece_beside s = record { refusal = s.refusal; length = s.length }

abbrev pub piece_says : Result (Given ℕ) Refusal → PieceAnswer
piece_says (Ok (Some n)) = record { refusal = none; length = some n }
piece_says (Ok None) = record { refusal = none; length = none }
piece_says (Err r) = record { refusal = some (number_of r); length = none }

-- and with the listing after it
abbrev pub says : Result (Given ℕ) Refusal → Listing → Said
says a l = record { refusal = (piece_says a).refusal; length = (piece_says a).length; listing = l }

-- the same of a call that hands back the listing with the piece, and none where it is refused
pub record LaterAnswer : Type 0 where
  pub refusal : Option ℕ
  pub length : Option ℕ
  pub listing : Option Listing

abbrev pub unless : Option ℕ → Listing → Option Listing
unless none l = some l
unless (some n) l = none

abbrev pub later_beside : Said → LaterAnswer
later_beside s = record { refusal = s.refusal; length = s.length; listing = unless s.refusal s.listing }

abbrev pub later_says : Result Piece Refusal → LaterAnswer
later_says (Ok p) = record { refusal = none; length = some p.length; listing = some p.listing }
later_says (Err r) = record { refusal = some (number_of r); length = none; listing = none }

-- ---- the written rule: no more events than characters, a disparity, and a reader that keeps its own rule

unfoldable pub keeps_rule : Reached → Bool
keeps_rule p = leb p.events p.place && (is_disparity p.disparity && well_formed p.reader)

abbrev pub start : Reached
start = record { place = 0; events = 0; disparity = negsuc 0; reader = fresh 8 }

-- ---- the next 64 characters, or as many as are left

abbrev pub next_characters : List ℕ → ℕ → List ℕ
next_characters capture place = take 64 (drop place (characters_of capture))

abbrev pub said_of_run : List ℕ → Reached → List EventSaid
said_of_run cs p = said_of p.reader (readings_of cs p.disparity)

abbrev pub after_run : List ℕ → Reached → Reached
after_run cs p =
    record {
      place = p.place + length cs;
      events = p.events + events_in (said_of_run cs p);
      disparity = run_closing cs p.disparity;
      reader = after_of p.reader (readings_of cs p.disparity);
    }

abbrev pub is_going : List ℕ → Reached → Bool
is_going capture p = ltb p.place (character_count (length capture))

-- ---- the next piece, and the listing after it

unfoldable pub piece_of : List ℕ → Listing → List ℕ
piece_of capture Fresh = cond (legal capture) header refused_line
piece_of capture (Going p) = cond (is_going capture p) (lines_from p.place (said_of_run (next_characters capture p.place) p)) (end_line p.place p.events)
piece_of capture Ended = []

unfoldable pub listing_after : List ℕ → Listing → Listing
listing_after capture Fresh = cond (legal capture) (Going start) Ended
listing_after capture (Going p) = cond (is_going capture p) (Going (after_run (next_characters capture p.place) p)) Ended
listing_after capture Ended = Ended

-- a fresh listing takes any capture; one that goes on is refused with 8 if its capture is not legal, and with 1 if it breaks its rule or stands
-- past the capture's end
unfoldable pub next_checks : List ℕ → Listing → List Check
next_checks capture Fresh = []
next_checks capture (Going p) =
    readable capture ∷ check 1 (not (keeps_rule p) || not (leb p.place (character_count (length capture)))) ∷ []
next_checks capture Ended = []

abbrev pub done_says : List ℕ → Listing → Said
done_says capture Fresh = wrote (length (piece_of capture Fresh)) (listing_after capture Fresh)
done_says capture (Going p) = wrote (length (piece_of capture (Going p))) (listing_after capture (Going p))
done_says capture Ended = wrote_nothing Ended

unfoldable pub next_says : List ℕ → Listing → Said
next_says capture l = outcome (next_checks capture l) (refused l) (done_says capture l)

unfoldable pub next_leaves : List ℕ → Listing → List ℕ → List ℕ
next_leaves capture l old = left (next_checks capture l) old (piece_of capture l ++ drop (length (piece_of capture l)) old)

-- the next piece, put at an output's front, and the listing after it
pub record Puts (capture : List ℕ) (l : Listing) (old : List ℕ) (piece : Piece) (new : List ℕ) : Type 0 where
  pub says : piece ≡ record { length = length (piece_of capture l); listing = listing_after capture l }
  pub whole : new ≡ piece_of capture l ++ drop (length (piece_of capture l)) old
