-- The next piece by its cases: a fresh listing, one that goes on, and one that has ended.
-- Assumes nothing.
use mathlib.Core.Path.{◌≡◌, refl, sym, ap, ap₂, ◌∙◌, subst}
use mathlib.Core.Bool.{Bool, true, false, cond}
use mathlib.Core.List.{List, ◌++◌}
use mathlib.Core.Option.{Option, none, some}
use Prim.Native.Nat.{ℕ}
use native.Mathlib.Omega.{arith}
use lib.Dec.{eqb}
use lib.IntN.{negsuc}
use lib.ListN.{length, drop}
use Rattle.std.specs.Prelude.{Result, Ok, Err, Option as Given, Some, None}
use Rattle.std.specs.Result.{IsOk}
use Rattle.refusal.specs.declared.Refusal.{Refusal}
use Rattle.refusal.specs.Order.{number_of, refusal_of}
use Rattle.capture_rules.specs.Capture.{legal}
use Rattle.packet_rules.specs.declared.Reader.{Reader}
use Rattle.packet_rules.specs.Answers.{Made, made, fresh_says}
use Rattle.segment_size.specs.Sizes.{size_allowed}
use Rattle.packet_rules.specs.State.{fresh, fresh_reader}
use Rattle.listing_rules.specs.declared.Reached.{Reached}
use Rattle.listing_rules.specs.declared.Listing.{Listing}
use Rattle.listing_rules.specs.declared.Listing.TheVariants.{Fresh, Going, Ended}
use Rattle.listing_rules.specs.declared.Piece.{Piece}
use Rattle.listing_rules.specs.Lines.{header, refused_line}
use Rattle.listing_rules.specs.Pieces.{Said, PieceAnswer, piece_beside, piece_says, LaterAnswer, later_says, later_beside}
use Rattle.listing_rules.specs.Pieces.{refused, unless, Puts, piece_of, listing_after, next_checks, done_says, next_says, next_leaves}
use Rattle.listing_rules.proofs.Whole.{not_refused, leaves_piece}
use Rattle.laws.proofs.Cases.{some_is_not_none}
use Rattle.listing_text.specs.Writing.{Wrote}
use Rattle.listing_text.proofs.Written.{wrote_whole}

abbrev piece : ℕ → Listing → Piece
piece n l = record { length = n; listing = l }

abbrev answer : Option ℕ → Option ℕ → PieceAnswer
answer r n = record { refusal = r; length = n }

abbrev listing_in : Listing → Option Listing → Listing
listing_in l none = l
listing_in l (some m) = m

-- ---- a fresh reader for S = 8 is made

fresh_made : (f : Result Reader Refusal) → fresh_says f ≡ fresh_reader 8 → fresh_says f ≡ made (fresh 8)
unfolding fresh_reader size_allowed
fresh_made f e = e

abbrev reader_in : Reader → Option Reader → Reader
reader_in r none = r
reader_in r (some q) = q

abbrev count : Option Reader → ℕ
count none = 0
count (some q) = 1

pub is_made : (f : Result Reader Refusal) → fresh_says f ≡ fresh_reader 8 → IsOk f
is_made (Ok r) e = refl
is_made (Err r) e = let z : ◌≡◌ {A = ℕ} 0 1 = ap (λ (k : Made). count k.reader) (fresh_made (Err r) e) in absurd (omega arith)

pub made_is : (f : Result Reader Refusal) (r : Reader) → fresh_says f ≡ fresh_reader 8 → f ≡ Ok r → r ≡ fresh 8
made_is f r e is = ap (λ (m : Made). reader_in r m.reader) (sym (ap fresh_says is) ∙ fresh_made f e)

-- ---- the first piece

comes : (capture old new : List ℕ) (n : ℕ) (l m : Listing) (bytes : List ℕ) → bytes ≡ piece_of capture l → m ≡ listing_after capture l
    → Wrote 0 bytes old new n → Puts capture l old (piece n m) new
comes capture old new n l m bytes e f w =
    let v = wrote_whole w in
    record { says = ap₂ piece (v.0 ∙ ap length e) f; whole = v.1 ∙ ap (λ (t : List ℕ). t ++ drop (length t) old) e }

module _ (capture old new : List ℕ) (n : ℕ) where
  pub refused_is : legal capture ≡ false → Wrote 0 refused_line old new n → Puts capture Fresh old (piece n Ended) new
  unfolding piece_of listing_after
  refused_is out w = comes capture old new n Fresh Ended refused_line (sym (rw out)) (sym (rw out)) w

  pub header_is : (r : Reader) → r ≡ fresh 8 → legal capture ≡ true → Wrote 0 header old new n
      → Puts capture Fresh old (piece n (Going (record { place = 0; events = 0; disparity = negsuc 0; reader = r }))) new
  unfolding piece_of listing_after
  header_is r same ok w =
      comes capture old new n Fresh (Going (record { place = 0; events = 0; disparity = negsuc 0; reader = r })) header (sym (rw ok))
      (ap (λ (q : Reader). Going (record { place = 0; events = 0; disparity = negsuc 0; reader = q })) same ∙ sym (rw ok)) w

-- ---- a listing, and what asking it came to

abbrev pub Comes : List ℕ → Listing → PieceAnswer → Listing → List ℕ → List ℕ → Type 0
Comes capture l said m old new =
    (said ≡ piece_beside (next_says capture l)) × (m ≡ (next_says capture l).listing) × (new ≡ next_leaves capture l old)

pub first_comes : (capture : List ℕ) (l : Listing) (first : Piece) (old new : List ℕ) → l ≡ Fresh → Puts capture Fresh old first new
    → Comes capture l (piece_says (Ok (Some first.length))) first.listing old new
unfolding next_checks
first_comes capture l first old new is a =
    let free = not_refused capture Fresh refl in
    subst (λ (x : Listing). Comes capture x (piece_says (Ok (Some first.length))) first.listing old new) (sym is) (
      ap (λ (x : Piece). piece_says (Ok (Some x.length))) a.says ∙ sym (ap piece_beside free),
      ap (λ (x : Piece). x.listing) a.says ∙ sym (ap (λ (s : Said). s.listing) free),
      a.whole ∙ sym (leaves_piece capture Fresh refl old),
    )

pub ended_comes : (capture : List ℕ) (l : Listing) (old : List ℕ) → l ≡ Ended → Comes capture l (piece_says (Ok None)) l old old
unfolding next_says next_leaves next_checks piece_of
ended_comes capture l old is = subst (λ (x : Listing). Comes capture x (piece_says (Ok None)) x old old) (sym is) (refl, refl, refl)

-- one that goes on: the answer with the listing in it tells both
unless_is : (r : Option ℕ) (l m : Listing) → none ≡ r → some m ≡ unless r l → m ≡ l
unless_is none l m e f = ap (λ (x : Option Listing). listing_in m x) f
unless_is (some n) l m e f = absurd (some_is_not_none (sym e))

pub later_comes : (capture : List ℕ) (l : Listing) (p : Reached) (a : Piece) (old new : List ℕ) → l ≡ Going p
    → later_says (Ok a) ≡ later_beside (next_says capture (Going p)) → new ≡ next_leaves capture (Going p) old
    → Comes capture l (piece_says (Ok (Some a.length))) a.listing old new
later_comes capture l p a old new is e w =
    let s = next_says capture (Going p) in
    subst (λ (x : Listing). Comes capture x (piece_says (Ok (Some a.length))) a.listing old new) (sym is) (
      ap (λ (x : LaterAnswer). answer x.refusal x.length) e,
      unless_is s.refusal s.listing a.listing (ap (λ (x : LaterAnswer). x.refusal) e) (ap (λ (x : LaterAnswer). x.listing) e),
      w,
    )

-- and a refused one stays as it was
stays : (capture : List ℕ) (l : Listing) (n : ℕ) → (done_says capture l).refusal ≡ none → some n ≡ (next_says capture l).refusal → l ≡ (next_says capture l).listing
unfolding next_says
stays capture l n free = go (eqb (refusal_of (next_checks capture l)) 0)
  where
    go : (b : Bool) → some n ≡ (cond b (done_says capture l) (refused l (refusal_of (next_checks capture l)))).refusal
        → l ≡ (cond b (done_says capture l) (refused l (refusal_of (next_checks capture l)))).listing
    go true e = absurd (some_is_not_none (e ∙ free))
    go false e = refl

pub refused_comes : (capture : List ℕ) (l : Listing) (p : Reached) (a : Result (Given ℕ) Refusal) (r : Refusal) (old new : List ℕ) → l ≡ Going p → a ≡ Err r
    → later_says (Err r) ≡ later_beside (next_says capture (Going p)) → new ≡ next_leaves capture (Going p) old
    → Comes capture l (piece_says a) l old new
refused_comes capture l p a r old new is f e w =
    subst (λ (x : Listing). Comes capture x (piece_says a) x old new) (sym is) (
      ap piece_says f ∙ ap (λ (x : LaterAnswer). answer x.refusal x.length) e,
      stays capture (Going p) (number_of r) refl (ap (λ (x : LaterAnswer). x.refusal) e),
      w,
    )
