-- The rule of a listing that goes on, test by test.
-- Assumes nothing.
use mathlib.Core.Path.{◌≡◌, sym, ap, ◌∙◌}
use mathlib.Core.Bool.{Bool, true, false, ◌&&◌}
use Prim.Native.Nat.{◌<◌, ◌≤◌}
use borrow.Author.Tests.{lt-leb, le-leb}
use Rattle.character_rules.specs.Disparity.{is_disparity}
use Rattle.packet_rules.specs.State.{well_formed}
use Rattle.listing_rules.specs.declared.Reached.{Reached}
use Rattle.listing_rules.specs.Pieces.{keeps_rule}

abbrev rule_by : Bool → Bool → Bool → Bool
rule_by a b c = a && (b && c)

module _ (p : Reached) where
  pub too_many_events : p.place < p.events → false ≡ keeps_rule p
  unfolding keeps_rule
  too_many_events h = sym (ap (λ (b : Bool). rule_by b (is_disparity p.disparity) (well_formed p.reader)) (lt-leb p.events p.place h))

  module _ (h : p.events ≤ p.place) where
    enough : keeps_rule p ≡ (is_disparity p.disparity && well_formed p.reader)
    unfolding keeps_rule
    enough = ap (λ (b : Bool). rule_by b (is_disparity p.disparity) (well_formed p.reader)) (le-leb p.events p.place h)

    pub no_disparity : is_disparity p.disparity ≡ false → false ≡ keeps_rule p
    no_disparity d = sym (enough ∙ ap (λ (b : Bool). b && well_formed p.reader) d)

    pub by_reader : (b : Bool) → is_disparity p.disparity ≡ true → b ≡ well_formed p.reader → b ≡ keeps_rule p
    by_reader b d e = e ∙ sym (enough ∙ ap (λ (c : Bool). c && well_formed p.reader) d)
