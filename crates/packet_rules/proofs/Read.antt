-- Characters that were written of symbols, read from the same disparity, are these symbols, clean, and close where the writer did.
-- Assumes nothing.
use mathlib.Core.Path.{◌≡◌, refl, sym, subst}
use mathlib.Core.Bool.{Bool}
use mathlib.Core.List.{List, [], ◌∷◌, ◌++◌}
use lib.Dec.{T}
use lib.IntN.{ℤ}
use Rattle.laws.specs.Lists.{all_of}
use Rattle.laws.proofs.Bools.{and_left, and_right, and_both}
use Rattle.symbol.specs.declared.Symbol.{Symbol}
use Rattle.character_rules.specs.Disparity.{is_disparity}
use Rattle.character_rules.specs.Blocks.{closing}
use Rattle.character_rules.specs.Answers.{Reading}
use Rattle.character_rules.specs.Results.{new_disparity, readings_of, run_closing}
use Rattle.character_rules.specs.Demand.{can_write}
use Rattle.character_rules.proofs.Disparities.{closing_disparity}
use Rattle.character_rules.proofs.Trip.{reads_back, can_byte, can_symbol}
use Rattle.character_rules.specs.Writing.{characters_of, closing_of}
use Rattle.packet_rules.specs.Line.{ReadClean, nil, next}
use Rattle.packet_rules.specs.RoundTrip.{AllClean}

-- what reading a line from d comes to
pub record Comes (ss : List Symbol) (gs : List Reading) (e f : ℤ) : Type 0 where
  pub symbols : ReadClean ss gs
  pub clean : AllClean gs
  pub closes : e ≡ f

pub comes : (ss : List Symbol) (d : ℤ) → T (all_of can_write ss) → T (is_disparity d)
    → Comes ss (readings_of (characters_of ss d) d) (run_closing (characters_of ss d) d) (closing_of ss d)
unfolding characters_of closing_of
comes [] d a t = record { symbols = nil; clean = tt; closes = refl }
comes (s ∷ ss) d a t =
    let w = and_left (can_write s) (all_of can_write ss) a in
    let e = closing s d in
    let cs = characters_of ss e in
    let k = comes ss e (and_right (can_write s) (all_of can_write ss) a) (closing_disparity s d t) in
    subst
    (λ (g : Reading). Comes (s ∷ ss) (g ∷ readings_of cs (new_disparity d g.disparity)) (run_closing cs (new_disparity d g.disparity)) (closing_of ss e))
    (sym (reads_back s d (can_byte s w) (can_symbol s w) t))
    (record { symbols = next s e k.symbols; clean = (refl, k.clean); closes = k.closes })

pub all_append : {A : Type 0} (f : A → Bool) (xs ys : List A) → T (all_of f xs) → T (all_of f ys) → T (all_of f (xs ++ ys))
all_append f [] ys a b = b
all_append f (x ∷ xs) ys a b =
    and_both (f x) (all_of f (xs ++ ys)) (and_left (f x) (all_of f xs) a) (all_append f xs ys (and_right (f x) (all_of f xs) a) b)
