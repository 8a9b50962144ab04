-- What each call on a capture answers C, and what is lent to it holds afterwards, by the answer of the call between our crates.
-- Assumes nothing.
use Rattle.std.specs.Prelude.{ℕ, ◌≡◌, List, length, Result, Ok, Err, MatchResult, IsOkAnd}
use mathlib.Core.Path.{refl}
use Rattle.refusal.specs.declared.Refusal.{Refusal}
use Rattle.refusal.specs.Order.{number_of, refusal_says}
use Rattle.capture_rules.specs.Calls.{says, count_says, character_says, pack_says, pack_leaves, unpack_says, unpack_leaves}
use Rattle.host_calls.specs.CaptureCalls.{counts, finds, Packs, packs, Unpacks, unpacks}
use Rattle.host_calls.proofs.CaptureLaws.{count_done, count_refused, find_done, find_refused, pack_done, pack_refused, unpack_done, unpack_refused}
use Rattle.host_captures.specs.Lent.{lent_after}

module _ (capture : List ℕ) (old : ℕ) where
  pub count_lent : (a : Result ℕ Refusal) → says a ≡ count_says capture
      → (refusal_says a ≡ (counts capture old).refusal) × (lent_after a old ≡ (counts capture old).lent)
  count_lent (Ok n) e = rw (count_done capture old n e) (refl, refl)
  count_lent (Err r) e = rw (count_refused capture old (number_of r) e) (refl, refl)

  pub find_lent : (place : ℕ) (found a : Result ℕ Refusal) → MatchResult found (λ x. IsOkAnd a (λ y. y ≡ x)) (λ e. a ≡ Err e) → says found ≡ character_says capture place
      → (refusal_says a ≡ (finds capture place old).refusal) × (lent_after a old ≡ (finds capture place old).lent)
  find_lent place (Ok n) (Ok m) h e = rw (h, find_done capture old place n e) (refl, refl)
  find_lent place (Ok n) (Err r) h e = absurd h
  find_lent place (Err r) a h e = rw (h, find_refused capture old place (number_of r) e) (refl, refl)

pub pack_lent : (characters : List ℕ) (old : Packs) (a : Result ℕ Refusal) → says a ≡ pack_says characters (length old.capture)
    → (refusal_says a ≡ (packs characters old).refusal) × (pack_leaves characters old.capture ≡ (packs characters old).lent.capture)
    × (lent_after a old.bytes ≡ (packs characters old).lent.bytes)
pack_lent characters old (Ok n) e = rw (pack_done characters old n e) (refl, refl, refl)
pack_lent characters old (Err r) e = rw (pack_refused characters old (number_of r) e) (refl, refl, refl)

pub unpack_lent : (capture : List ℕ) (old : Unpacks) (a : Result ℕ Refusal) → says a ≡ unpack_says capture (length old.characters)
    → (refusal_says a ≡ (unpacks capture old).refusal) × (unpack_leaves capture old.characters ≡ (unpacks capture old).lent.characters)
    × (lent_after a old.count ≡ (unpacks capture old).lent.count)
unpack_lent capture old (Ok n) e = rw (unpack_done capture old n e) (refl, refl, refl)
unpack_lent capture old (Err r) e = rw (unpack_refused capture old (number_of r) e) (refl, refl, refl)
