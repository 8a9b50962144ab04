-- Whether a run is in range, a character at a time: what was found so far, and what remains.
-- Assumes nothing.
use mathlib.Core.Path.{◌≡◌, refl, sym, ◌∙◌, ap}
use mathlib.Core.Bool.{Bool, true, false, ◌&&◌}
use mathlib.Core.List.{List}
use Prim.Native.Nat.{ℕ, ◌+◌, ◌<◌}
use native.Mathlib.Numerals.{add-one}
use lib.ListN.{length, drop, get_or}
use lib.Seq.{drop-cons, drop-length}
use Rattle.laws.specs.Lists.{all_of}
use Rattle.character_rules.specs.Results.{in_range}

three : (a b c : Bool) → (a && (b && c)) ≡ ((a && b) && c)
three true b c = refl
three false b c = refl

with_true : (a : Bool) → (a && true) ≡ a
with_true true = refl
with_true false = refl

module _ (cs : List ℕ) (i : ℕ) (found : Bool) (so_far : all_of in_range cs ≡ (found && all_of in_range (drop i cs))) where
  pub range_on : i < length cs → all_of in_range cs ≡ ((found && in_range (get_or cs i 0)) && all_of in_range (drop (i + 1) cs))
  range_on h =
      so_far
      ∙ ap (λ (l : List ℕ). found && all_of in_range l) (drop-cons cs i 0 h)
      ∙ three found _ _
      ∙ ap (λ (n : ℕ). (found && in_range (get_or cs i 0)) && all_of in_range (drop n cs)) (sym (add-one i))

  pub range_end : i ≡ length cs → found ≡ all_of in_range cs
  range_end e =
      sym
      (so_far
      ∙ ap (λ (n : ℕ). found && all_of in_range (drop n cs)) e
      ∙ ap (λ (l : List ℕ). found && all_of in_range l) (drop-length cs)
      ∙ with_true found)
