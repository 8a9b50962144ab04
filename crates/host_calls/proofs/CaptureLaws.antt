-- Each call on a capture by what its answer says: a refusal leaves all as it stood.
-- Assumes nothing.
use Prim.Native.Nat.{ℕ}
use mathlib.Core.Path.{◌≡◌, refl}
use mathlib.Core.List.{List}
use lib.ListN.{length}
use Rattle.capture_rules.specs.Calls.{answered, refused, count_says, character_says, pack_says, pack_leaves, unpack_says, unpack_leaves}
use Rattle.capture_rules.proofs.Laws.{pack_leaves_lem, unpack_leaves_lem}
use Rattle.host_rules.proofs.Numbers.{done_called}
use Rattle.host_calls.specs.CaptureCalls.{counts, finds, Packs, packs, Unpacks, unpacks}
use Rattle.host_calls.proofs.Same.{same_called}

module _ (capture : List ℕ) (old : ℕ) where
  pub count_done : (n : ℕ) → answered n ≡ count_says capture → counts capture old ≡ record { refusal = 0; lent = n }
  unfolding counts
  count_done n e = rw (← e) (done_called _ _ _ refl)

  pub count_refused : (n : ℕ) → refused n ≡ count_says capture → counts capture old ≡ record { refusal = n; lent = old }
  unfolding counts
  count_refused n e = rw (← e) (same_called n old)

  module _ (place : ℕ) where
    pub find_done : (n : ℕ) → answered n ≡ character_says capture place → finds capture place old ≡ record { refusal = 0; lent = n }
    unfolding finds
    find_done n e = rw (← e) (done_called _ _ _ refl)

    pub find_refused : (n : ℕ) → refused n ≡ character_says capture place → finds capture place old ≡ record { refusal = n; lent = old }
    unfolding finds
    find_refused n e = rw (← e) (same_called n old)

module _ (characters : List ℕ) (old : Packs) where
  pub pack_done :
      (n : ℕ) → answered n ≡ pack_says characters (length old.capture)
      → packs characters old ≡ record { refusal = 0; lent = record { capture = pack_leaves characters old.capture; bytes = n } }
  unfolding packs
  pack_done n e = rw (← e) (done_called _ _ _ refl)

  pub pack_refused :
      (n : ℕ) → refused n ≡ pack_says characters (length old.capture)
      → packs characters old ≡ record { refusal = n; lent = record { capture = pack_leaves characters old.capture; bytes = old.bytes } }
  unfolding packs
  pack_refused n e = rw (← e, pack_leaves_lem characters old.capture n e) (same_called n old)

module _ (capture : List ℕ) (old : Unpacks) where
  pub unpack_done :
      (n : ℕ) → answered n ≡ unpack_says capture (length old.characters)
      → unpacks capture old ≡ record { refusal = 0; lent = record { characters = unpack_leaves capture old.characters; count = n } }
  unfolding unpacks
  unpack_done n e = rw (← e) (done_called _ _ _ refl)

  pub unpack_refused :
      (n : ℕ) → refused n ≡ unpack_says capture (length old.characters)
      → unpacks capture old ≡ record { refusal = n; lent = record { characters = unpack_leaves capture old.characters; count = old.count } }
  unfolding unpacks
  unpack_refused n e = rw (← e, unpack_leaves_lem capture old.characters n e) (same_called n old)
