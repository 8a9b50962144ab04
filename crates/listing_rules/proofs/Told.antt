-- What an answer says tells which answer it is: so no second answer fits the contract.
-- Assumes nothing.
use mathlib.Core.Path.{◌≡◌, refl, sym, ap, ◌∙◌}
use mathlib.Core.Option.{Option, none, some}
use Prim.Native.Nat.{ℕ}
use Rattle.std.specs.Prelude.{Result, Ok, Err, Option as Given, Some, None}
use Rattle.refusal.specs.declared.Refusal.{Refusal}
use Rattle.refusal.specs.declared.Refusal.TheVariants.{OutOfRange}
use Rattle.refusal.specs.Order.{number_of}
use Rattle.packet_rules.specs.declared.Event.{Event}
use Rattle.packet_rules.proofs.Told.{the_refusal, answer_told}
use Rattle.listing_rules.specs.declared.Listing.{Listing}
use Rattle.listing_rules.specs.declared.Piece.{Piece}
use Rattle.listing_rules.specs.Pieces.{Said, PieceAnswer, LaterAnswer, wrote, wrote_nothing, refused, piece_says, later_says, says}

abbrev the_piece : Option ℕ → Option ℕ → Result (Given ℕ) Refusal
the_piece (some n) length = Err (the_refusal n)
the_piece none (some n) = Ok (Some n)
the_piece none none = Ok None

abbrev refused_as : Result Event Refusal → Result (Given ℕ) Refusal
refused_as (Ok e) = Ok None
refused_as (Err r) = Err r

piece_told : (a : Result (Given ℕ) Refusal) → the_piece (piece_says a).refusal (piece_says a).length ≡ a
piece_told (Ok (Some n)) = refl
piece_told (Ok None) = refl
piece_told (Err r) = ap refused_as (answer_told (Err r))

-- an answer's three cases say what the rule says of a piece, of the end and of a refusal
pub says_piece : (n : ℕ) (l : Listing) → says (Ok (Some n)) l ≡ wrote n l
says_piece n l = refl

pub says_end : (l : Listing) → says (Ok None) l ≡ wrote_nothing l
says_end l = refl

pub says_refusal : (r : Refusal) (l : Listing) → says (Err r) l ≡ refused l (number_of r)
says_refusal r l = refl

-- two answers that say the same are the same, and so are the listings after them
pub one_next : (a b : Result (Given ℕ) Refusal) (l m : Listing) → says a l ≡ says b m → (a ≡ b) × (l ≡ m)
one_next a b l m e = (
  sym (piece_told a) ∙ ap (λ (s : Said). the_piece s.refusal s.length) e ∙ piece_told b,
  ap (λ (s : Said). s.listing) e,
)

-- the same of what `next` answers beside the lent listing
pub one_piece : (a b : Result (Given ℕ) Refusal) → piece_says a ≡ piece_says b → a ≡ b
one_piece a b e = sym (piece_told a) ∙ ap (λ (s : PieceAnswer). the_piece s.refusal s.length) e ∙ piece_told b

-- ---- a later piece, which is handed back with the listing after it

abbrev the_later : Option ℕ → Option ℕ → Option Listing → Result Piece Refusal
the_later (some n) length listing = Err (the_refusal n)
the_later none none listing = Err OutOfRange
the_later none (some n) none = Err OutOfRange
the_later none (some n) (some l) = Ok (record { length = n; listing = l })

abbrev refused_later : Result Event Refusal → Result Piece Refusal
refused_later (Ok e) = Err OutOfRange
refused_later (Err r) = Err r

later_told : (a : Result Piece Refusal) → the_later (later_says a).refusal (later_says a).length (later_says a).listing ≡ a
later_told (Ok p) = refl
later_told (Err r) = ap refused_later (answer_told (Err r))

pub one_later : (a b : Result Piece Refusal) → later_says a ≡ later_says b → a ≡ b
one_later a b e = sym (later_told a) ∙ ap (λ (s : LaterAnswer). the_later s.refusal s.length s.listing) e ∙ later_told b
