-- What is asked of whoever hands out a listing, as a predicate over any such program.
use Rattle.std.specs.Prelude.{ℕ, ◌≡◌, List, [], ◌++◌, length, take}
use Rattle.listing_rules.specs.declared.Listing.{Listing}
use Rattle.listing_rules.specs.declared.Listing.TheVariants.{Fresh}
use Rattle.listing_rules.specs.Lines.{listing_of}
use Rattle.listing_rules.specs.Pieces.{Said, wrote, wrote_nothing}

-- what it answers to a capture and a listing, and what it leaves of a lent output
pub record Lister : Type 0 where
  pub answers : List ℕ → Listing → Said
  pub leaves : List ℕ → Listing → List ℕ → List ℕ

-- from a listing on, these bytes are handed out one piece after another, whatever stood in the outputs; and there it ends
pub data HandsOut (lister : Lister) (capture : List ℕ) : Listing → List ℕ → Type 0 where
  all : (l m : Listing) → lister.answers capture l ≡ wrote_nothing m → HandsOut lister capture l []
  piece : (l m : Listing) (bytes : List ℕ) {rest : List ℕ}
      → lister.answers capture l ≡ wrote (length bytes) m
      → ((out : List ℕ) → length out ≡ 2048 → take (length bytes) (lister.leaves capture l out) ≡ bytes)
      → HandsOut lister capture m rest → HandsOut lister capture l (bytes ++ rest)

-- THE DEMAND: asked again and again from a fresh listing, it hands out exactly the capture's listing, and ends
pub record Lists (lister : Lister) : Type 0 where
  pub whole : (capture : List ℕ) → HandsOut lister capture Fresh (listing_of capture)
