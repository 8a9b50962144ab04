-- Wrong listers, each refused by what is asked of any.
-- Assumes nothing.
use mathlib.Core.Path.{◌≡◌, refl, sym, ap, ◌∙◌}
use mathlib.Core.List.{List, [], ◌++◌}
use Prim.Native.Nat.{ℕ, ◌<◌}
use native.Mathlib.Omega.{arith}
use lib.ListN.{length, take, drop, get_or, replicate, length-replicate}
use lib.Seq.{get_or-take, take-append_seam}
use Rattle.capture_rules.specs.Capture.{closing_bits, legal}
use Rattle.listing_rules.specs.declared.Listing.{Listing}
use Rattle.listing_rules.specs.declared.Listing.TheVariants.{Fresh, Going, Ended}
use Rattle.listing_rules.specs.Lines.{header}
use Rattle.listing_rules.specs.Pieces.{Said, wrote, wrote_nothing, start, piece_of, listing_after, next_checks, next_says, next_leaves}
use Rattle.listing_rules.specs.Demand.{Lister, HandsOut, all, piece, Lists}
use Rattle.listing_rules.proofs.Rows.{empty_capture}
use Rattle.listing_rules.proofs.Unique.{never_both, size, one_listing}

-- ---- one that hands out nothing

pub silent : Lister
silent = record { answers = λ capture l. wrote_nothing l; leaves = λ capture l old. old }

pub silent_lists_not : Lists silent → ⊥
unfolding silent
silent_lists_not s =
    let same = one_listing silent [] (all Fresh Fresh refl) (s.whole []) ∙ empty_capture in
    let bad : ◌≡◌ {A = ℕ} 0 112 = ap (λ (l : List ℕ). get_or l 0 0) same in
    omega arith

-- ---- one that answers as it should and stores nothing

pub stores_nothing : Lister
stores_nothing = record { answers = next_says; leaves = λ capture l old. old }

first_answer : next_says [] Fresh ≡ wrote (length header) (Going start)
unfolding next_says next_checks piece_of listing_after legal closing_bits
first_answer = refl

stored : {bytes : List ℕ} → HandsOut stores_nothing [] Fresh bytes → ⊥
unfolding stores_nothing
stored (all _ m e) = never_both m (Going start) (length header) (sym e ∙ first_answer)
stored (piece _ m bytes e f h) =
    let n : length header ≡ length bytes = ap (λ (s : Said). size s.length) (sym first_answer ∙ e) in
    let some : 0 < length bytes = omega arith in
    let zeros : List ℕ = replicate 2048 0 in
    let ones : List ℕ = replicate 2048 1 in
    let a : get_or (take (length bytes) zeros) 0 0 ≡ 0 = get_or-take (length bytes) zeros 0 0 some in
    let b : get_or (take (length bytes) ones) 0 0 ≡ 1 = get_or-take (length bytes) ones 0 0 some in
    let bad : ◌≡◌ {A = ℕ} 0 1 = sym a
    ∙ ap (λ (l : List ℕ). get_or l 0 0) (f zeros (length-replicate {A = ℕ} 2048 0) ∙ sym (f ones (length-replicate {A = ℕ} 2048 1))) ∙ b in
    omega arith

pub stores_nothing_lists_not : Lists stores_nothing → ⊥
stores_nothing_lists_not s = stored (s.whole [])

-- ---- one that ends after the header

abbrev stops : List ℕ → Listing → Said
stops capture Fresh = next_says capture Fresh
stops capture (Going p) = wrote_nothing Ended
stops capture Ended = wrote_nothing Ended

pub ends_early : Lister
ends_early = record { answers = stops; leaves = next_leaves }

header_front : (old : List ℕ) → take (length header) (next_leaves [] Fresh old) ≡ header
unfolding next_leaves next_checks piece_of legal closing_bits
header_front old = take-append_seam header (drop (length header) old)

pub ends_early_lists_not : Lists ends_early → ⊥
unfolding ends_early
ends_early_lists_not s =
    let only : HandsOut ends_early [] Fresh (header ++ []) = piece Fresh (Going start) header first_answer (λ old h. header_front old) (all (Going start) Ended refl) in
    let same = one_listing ends_early [] only (s.whole []) ∙ empty_capture in
    let bad : ◌≡◌ {A = ℕ} 19 27 = ap length same in
    omega arith
