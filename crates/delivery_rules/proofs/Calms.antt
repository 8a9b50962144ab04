-- Of any two ends: emptying the lines and sending each stored segment once offer nothing and count no expiry; the one expiry offers nothing.
-- Assumes nothing.
use mathlib.Core.Path.{◌≡◌, refl, ◌∙◌, ap}
use mathlib.Core.Bool.{Bool}
use mathlib.Core.List.{List, [], ◌∷◌}
use Prim.Native.Nat.{ℕ, zero, suc, ◌≤◌}
use native.Mathlib.Omega.{arith}
use lib.Dec.{eqb}
use lib.ListN.{length, replicate}
use Rattle.laws.proofs.Cases.{by_cases}
use Rattle.delivery_rules.specs.Ends.{Item, Reply, Ends}
use Rattle.delivery_rules.specs.Outside.{outstanding, ticks_left}
use Rattle.delivery_rules.specs.Model.{Event, offer, send, arrive, lose, damage, hear, lose_reply, damage_reply, tick, World, arrives, hears, step, run}
use Rattle.delivery_rules.specs.Demand.{Empty, Calm, AllCalm, expire_once, SendsEach}
use Rattle.delivery_rules.proofs.Seeing.{reply_heard, tick_lists}
use Rattle.delivery_rules.proofs.Ordered.{Ordered, run_ordered}

module _ (E : Ends) where
  -- from one world to a later one nothing is accepted and no expiry is counted
  pub record Calmed (w v : World E) : Type 0 where
    pub accepted : v.seen.accepted ≡ w.seen.accepted
    pub expiries : v.seen.expiries ≤ w.seen.expiries

  pub hears_calm : (w : World E) (l : List Reply) → Calmed w (hears E w l)
  hears_calm w [] = record { accepted = refl; expiries = omega arith }
  hears_calm w (y ∷ l) =
      record { accepted = (reply_heard w.seen y).lists.accepted; expiries = (reply_heard w.seen y).expiries }

  pub arrives_calm : (w : World E) (room : Bool) (output : List ℕ) (l : List Item) → Calmed w (arrives E w room output l)
  arrives_calm w room output [] = record { accepted = refl; expiries = omega arith }
  arrives_calm w room output (i ∷ l) = record { accepted = refl; expiries = omega arith }

  calm_step : (e : Event) (w : World E) → Calm E e w → Calmed w (step E e w)
  unfolding step
  calm_step (offer x) w c = absurd c
  calm_step (send output) w c = record { accepted = refl; expiries = omega arith }
  calm_step (arrive room output) w c = arrives_calm w room output w.forward
  calm_step (lose n) w c = absurd c
  calm_step (damage n) w c = absurd c
  calm_step hear w c = hears_calm w w.backward
  calm_step (lose_reply n) w c = absurd c
  calm_step (damage_reply n) w c = absurd c
  calm_step tick w c = record { accepted = (tick_lists w.seen).accepted; expiries = omega (arith, c) }

  pub calm_run : (es : List Event) (w : World E) → AllCalm E es w → Calmed w (run E es w)
  unfolding run AllCalm
  calm_run [] w c = record { accepted = refl; expiries = omega arith }
  calm_run (e ∷ es) w c =
      let a = calm_step e w c.0 in
      let b = calm_run es (step E e w) c.1 in
      record { accepted = b.accepted ∙ a.accepted; expiries = omega (arith, a.expiries, b.expiries) }

  -- sending each stored segment once is calm
  pub sends_calm : (es : List Event) (j : ℕ) (w : World E) → SendsEach E j es w → AllCalm E es w
  unfolding AllCalm SendsEach
  sends_calm [] j w c = tt
  sends_calm (send output ∷ es) j w c = (tt, sends_calm es (suc j) (step E (send output) w) c.1)
  sends_calm (arrive room output ∷ es) j w c = (tt, sends_calm es j (step E (arrive room output) w) c.2)
  sends_calm (hear ∷ es) j w c = (tt, sends_calm es j (step E hear w) c)
  sends_calm (tick ∷ es) j w c = (c.0, sends_calm es j (step E tick w) c.1)
  sends_calm (offer x ∷ es) j w c = absurd c
  sends_calm (lose n ∷ es) j w c = absurd c
  sends_calm (damage n ∷ es) j w c = absurd c
  sends_calm (lose_reply n ∷ es) j w c = absurd c
  sends_calm (damage_reply n ∷ es) j w c = absurd c

  -- and sends no more than were accepted
  ends_at : (es : List Event) (j : ℕ) (w : World E) → SendsEach E j es w → j ≤ length (run E es w).seen.accepted
  unfolding run SendsEach
  ends_at [] j w c = omega (arith, c.0)
  ends_at (send output ∷ es) j w c = omega (arith, ends_at es (suc j) (step E (send output) w) c.1)
  ends_at (arrive room output ∷ es) j w c = ends_at es j (step E (arrive room output) w) c.2
  ends_at (hear ∷ es) j w c = ends_at es j (step E hear w) c
  ends_at (tick ∷ es) j w c = ends_at es j (step E tick w) c.1
  ends_at (offer x ∷ es) j w c = absurd c
  ends_at (lose n ∷ es) j w c = absurd c
  ends_at (damage n ∷ es) j w c = absurd c
  ends_at (lose_reply n ∷ es) j w c = absurd c
  ends_at (damage_reply n ∷ es) j w c = absurd c

  pub sends_le : (es : List Event) (j : ℕ) (w : World E) → SendsEach E j es w → j ≤ length w.seen.accepted
  sends_le es j w c = omega (arith, ends_at es j w c, ap length (calm_run es w (sends_calm es j w c)).accepted)

  -- the expiry leaves what was accepted, and lines that are empty
  ticks_accepted : (n : ℕ) (w : World E) → (run E (replicate n tick) w).seen.accepted ≡ w.seen.accepted
  unfolding run step
  ticks_accepted zero w = refl
  ticks_accepted (suc n) w = ticks_accepted n (step E tick w) ∙ (tick_lists w.seen).accepted

  ticks_empty : (n : ℕ) (w : World E) → Empty E w → Empty E (run E (replicate n tick) w)
  unfolding run step
  ticks_empty zero w e = e
  ticks_empty (suc n) w e = ticks_empty n (step E tick w) e

  pub record Expired (w v : World E) : Type 0 where
    pub accepted : v.seen.accepted ≡ w.seen.accepted
    pub empty : Empty E w → Empty E v
    pub ordered : Ordered w.seen → Ordered v.seen

  pub expired : (w : World E) → Expired w (expire_once E w)
  unfolding expire_once
  expired w =
      by_cases (Expired w) (eqb (outstanding w.seen) 0) (λ _. record { accepted = refl; empty = λ e. e; ordered = λ o. o })
      (λ _. record {
        accepted = ticks_accepted (ticks_left w.seen) w;
        empty = ticks_empty (ticks_left w.seen) w;
        ordered = run_ordered E (replicate (ticks_left w.seen) tick) w;
      })
