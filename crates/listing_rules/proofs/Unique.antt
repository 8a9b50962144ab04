-- Whoever hands out a listing hands out one: what is asked again and again has one course.
-- Assumes nothing.
use mathlib.Core.Path.{◌≡◌, refl, sym, ap, ap₂, ◌∙◌, subst}
use mathlib.Core.List.{List, ◌++◌}
use mathlib.Core.Option.{Option, none, some}
use Prim.Native.Nat.{ℕ}
use native.Mathlib.Omega.{arith}
use lib.ListN.{length, take, replicate, length-replicate}
use Rattle.listing_rules.specs.declared.Listing.{Listing}
use Rattle.listing_rules.specs.Pieces.{Said, wrote, wrote_nothing}
use Rattle.listing_rules.specs.Demand.{Lister, HandsOut, all, piece}

abbrev pub size : Option ℕ → ℕ
size none = 0
size (some n) = n

abbrev is_there : Option ℕ → ℕ
is_there none = 0
is_there (some n) = 1

pub never_both : (m k : Listing) (n : ℕ) → wrote_nothing m ≡ wrote n k → ⊥
never_both m k n e =
    let z : is_there none ≡ is_there (some n) = ap (λ (s : Said). is_there s.length) e in
    omega arith

module _ (lister : Lister) (capture : List ℕ) where
  pub one_listing : {l : Listing} {bs cs : List ℕ} → HandsOut lister capture l bs → HandsOut lister capture l cs → bs ≡ cs
  one_listing (all l m e) (all _ k f) = refl
  one_listing (all l m e) (piece _ k ys f g h) = absurd (never_both m k (length ys) (sym e ∙ f))
  one_listing (piece l m xs e g h) (all _ k f) = absurd (never_both k m (length xs) (sym f ∙ e))
  one_listing (piece l m xs {rest = rest} e g h) (piece _ k ys f u v) =
      let n : length xs ≡ length ys = ap (λ (s : Said). size s.length) (sym e ∙ f) in
      let same : m ≡ k = ap (λ (s : Said). s.listing) (sym e ∙ f) in
      let out : List ℕ = replicate 2048 0 in
      let full : length out ≡ 2048 = length-replicate {A = ℕ} 2048 0 in
      let bytes : xs ≡ ys = sym (g out full) ∙ ap (λ (j : ℕ). take j (lister.leaves capture l out)) n ∙ u out full in
      ap₂ ◌++◌ bytes (one_listing (subst (λ (x : Listing). HandsOut lister capture x rest) same h) v)
