-- A later piece by its cases: each refusal in its order, and a piece that is written.
-- Assumes nothing.
use mathlib.Core.Path.{◌≡◌, sym, ap, ◌∙◌}
use mathlib.Core.Bool.{true, false}
use mathlib.Core.List.{List}
use Prim.Native.Nat.{ℕ, ◌≤◌, ◌<◌}
use lib.ListN.{length}
use borrow.Author.Tests.{lt-leb}
use Rattle.std.specs.Prelude.{Result, Ok, Err}
use Rattle.refusal.specs.declared.Refusal.{Refusal}
use Rattle.refusal.specs.declared.Refusal.TheVariants.{OutOfRange}
use Rattle.refusal.specs.Order.{number_of}
use Rattle.capture_rules.specs.Capture.{character_count, legal}
use Rattle.listing_rules.specs.declared.Reached.{Reached}
use Rattle.listing_rules.specs.declared.Listing.TheVariants.{Going}
use Rattle.listing_rules.specs.declared.Piece.{Piece}
use Rattle.listing_rules.specs.Pieces.{LaterAnswer, later_says, later_beside, refused, keeps_rule, next_checks, next_says, next_leaves}
use Rattle.listing_rules.proofs.Whole.{not_refused, leaves_piece, going_free}
use Rattle.listing_rules.specs.Pieces.{Puts}

module _ (capture : List ℕ) (p : Reached) (old : List ℕ) where
  -- what asking for it came to
  abbrev pub Comes : LaterAnswer → List ℕ → Type 0
  Comes said new = (said ≡ later_beside (next_says capture (Going p))) × (new ≡ next_leaves capture (Going p) old)

  refused_comes : (r : Refusal) → next_says capture (Going p) ≡ refused (Going p) (number_of r) → next_leaves capture (Going p) old ≡ old
      → Comes (later_says (Err r)) old
  refused_comes r f g = (sym (ap later_beside f), sym g)

  pub bad_capture : (a : Result Piece Refusal) (r : Refusal) → a ≡ Err r → number_of r ≡ 8 → legal capture ≡ false → Comes (later_says a) old
  unfolding next_says next_leaves next_checks
  bad_capture a r e n out =
      let c = refused_comes r (simp out (ap (refused (Going p)) (sym n))) (simp out) in
      (ap later_says e ∙ c.0, c.1)

  module _ (ok : legal capture ≡ true) where
    pub broken_rule : keeps_rule p ≡ false → Comes (later_says (Err OutOfRange)) old
    unfolding next_says next_leaves next_checks
    broken_rule out = refused_comes OutOfRange (simp (ok, out)) (simp (ok, out))

    module _ (k : keeps_rule p ≡ true) where
      pub past_the_end : character_count (length capture) < p.place → Comes (later_says (Err OutOfRange)) old
      unfolding next_says next_leaves next_checks
      past_the_end h =
          let out = lt-leb p.place (character_count (length capture)) h in
          refused_comes OutOfRange (simp (ok, k, out)) (simp (ok, k, out))

      pub later_comes : (piece : Piece) (new : List ℕ) → p.place ≤ character_count (length capture) → Puts capture (Going p) old piece new
          → Comes (later_says (Ok piece)) new
      later_comes piece new h next =
          let free = going_free capture p ok k h in (
            ap (λ (x : Piece). later_says (Ok x)) next.says ∙ sym (ap later_beside (not_refused capture (Going p) free)),
            next.whole ∙ sym (leaves_piece capture (Going p) free old),
          )
