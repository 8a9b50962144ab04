-- What is seen from outside of a reply and of a tick, by cases.
-- Assumes nothing.
use mathlib.Core.Path.{◌≡◌, refl, sym, ◌∙◌}
use mathlib.Core.Bool.{Bool, true, false, ◌&&◌}
use Prim.Native.Nat.{ℕ, ◌+◌, ◌%◌, ◌≤◌, ◌<◌}
use native.Mathlib.Omega.{arith}
use lib.Dec.{ltb}
use borrow.Author.Tests.{lt-ltb, le-ltb, eq-eqb, ne_eqb}
use Rattle.laws.proofs.Cases.{by_cases, both_true, cond_true, cond_false, false_is_not_true}
use Rattle.delivery_rules.specs.Ends.{Reply, ack, nack, damaged_reply}
use Rattle.delivery_rules.specs.Outside.{Seen, is_up, outstanding, is_running, is_oldest, is_last, seen_with, seen_reply, seen_tick}

pub not_first : (a b : Bool) → a ≡ false → a && b ≡ false
not_first true b q = absurd (false_is_not_true (sym q))
not_first false b q = refl

pub not_second : (a b : Bool) → b ≡ false → a && b ≡ false
not_second true b q = q
not_second false b q = refl

-- a reply and a tick leave both lists, and a reply counts no expiry
pub record Quiet (g h : Seen) : Type 0 where
  pub accepted : h.accepted ≡ g.accepted
  pub delivered : h.delivered ≡ g.delivered

pub record Heard (g h : Seen) : Type 0 where
  pub lists : Quiet g h
  pub expiries : h.expiries ≤ g.expiries

pub reply_heard : (g : Seen) (y : Reply) → Heard g (seen_reply g y)
unfolding seen_reply
reply_heard g (ack k) =
    by_cases (Heard g) (is_oldest g k) (λ _. record { lists = record { accepted = refl; delivered = refl }; expiries = omega arith })
    (λ _. record { lists = record { accepted = refl; delivered = refl }; expiries = omega arith })
reply_heard g (nack k) =
    by_cases (Heard g) (is_oldest g k) (λ _. record { lists = record { accepted = refl; delivered = refl }; expiries = omega arith })
    (λ _. record { lists = record { accepted = refl; delivered = refl }; expiries = omega arith })
reply_heard g damaged_reply = record { lists = record { accepted = refl; delivered = refl }; expiries = omega arith }

pub tick_lists : (g : Seen) → Quiet g (seen_tick g)
unfolding seen_tick
tick_lists g =
    by_cases (Quiet g) (is_running g)
    (λ _. by_cases (Quiet g) (is_last g) (λ _. record { accepted = refl; delivered = refl }) (λ _. record { accepted = refl; delivered = refl }))
    (λ _. record { accepted = refl; delivered = refl })

module _ (g : Seen) where
  runs : g.expiries < 3 → g.released < g.gone → is_running g ≡ true
  runs h u = both_true (is_up g) (ltb 0 (outstanding g)) (lt-ltb g.expiries 3 h) (lt-ltb 0 (outstanding g) (omega arith))

  -- the timer stands where nothing is outstanding, and where the link is down
  pub stands : g.gone ≤ g.released → is_running g ≡ false
  stands h = not_second (is_up g) (ltb 0 (outstanding g)) (le-ltb 0 (outstanding g) (omega arith))

  pub is_down_lem : 3 ≤ g.expiries → is_running g ≡ false
  is_down_lem h = not_first (is_up g) (ltb 0 (outstanding g)) (le-ltb g.expiries 3 h)

  -- then a reply is not heard, and a tick does nothing
  pub unheard : (y : Reply) → is_running g ≡ false → seen_reply g y ≡ g
  unfolding seen_reply
  unheard (ack k) q = cond_false _ _ g (not_first (is_running g) _ q)
  unheard (nack k) q = cond_false _ _ g (not_first (is_running g) _ q)
  unheard damaged_reply q = refl

  pub unticked : is_running g ≡ false → seen_tick g ≡ g
  unfolding seen_tick
  unticked q = cond_false _ _ g q

  module _ (k : ℕ) where
    pub other_ack : (k ≡ g.released % 16 → ⊥) → seen_reply g (ack k) ≡ g
    unfolding seen_reply
    other_ack ne =
        cond_false _ _ g (not_second (is_running g) _ (ne_eqb k (g.released % 16) ne))

    pub other_nack : (k ≡ g.released % 16 → ⊥) → seen_reply g (nack k) ≡ g
    unfolding seen_reply
    other_nack ne =
        cond_false _ _ g (not_second (is_running g) _ (ne_eqb k (g.released % 16) ne))

  module _ (few : g.expiries < 3) (some : g.released < g.gone) where
    -- the oldest's number
    pub own_ack : (k : ℕ) → k ≡ g.released % 16 → seen_reply g (ack k) ≡ seen_with g g.gone (g.released + 1) 0 0
    unfolding seen_reply
    own_ack k q =
        cond_true _ _ g (both_true (is_running g) _ (runs few some) (eq-eqb k (g.released % 16) q))

    pub own_nack : (k : ℕ) → k ≡ g.released % 16 → seen_reply g (nack k) ≡ seen_with g g.gone g.released 0 0
    unfolding seen_reply
    own_nack k q =
        cond_true _ _ g (both_true (is_running g) _ (runs few some) (eq-eqb k (g.released % 16) q))

    -- a tick before the T-th, and the T-th
    pub plain_tick_lem : (g.ticks + 1 ≡ g.columns → ⊥) → seen_tick g ≡ seen_with g g.gone g.released (g.ticks + 1) g.expiries
    unfolding seen_tick
    plain_tick_lem ne = cond_true _ _ g (runs few some) ∙ cond_false _ _ _ (ne_eqb (g.ticks + 1) g.columns ne)

    pub expiry : g.ticks + 1 ≡ g.columns → seen_tick g ≡ seen_with g g.gone g.released 0 (g.expiries + 1)
    unfolding seen_tick
    expiry q = cond_true _ _ g (runs few some) ∙ cond_true _ _ _ (eq-eqb (g.ticks + 1) g.columns q)
