-- Of any two ends: no more is released than has gone out, and no more has gone out than was accepted.
-- Assumes nothing.
use mathlib.Core.Path.{◌≡◌}
use mathlib.Core.Bool.{Bool, true, false, cond}
use mathlib.Core.List.{List, [], ◌∷◌}
use Prim.Native.Nat.{ℕ, ◌+◌, ◌≤◌, ◌<◌}
use native.Mathlib.Omega.{arith}
use borrow.Author.Tests.{ltb-true}
use lib.Dec.{ltb}
use lib.ListN.{length, length-append}
use Rattle.laws.proofs.Cases.{by_cases, first_true, second_true}
use Rattle.delivery_rules.specs.Ends.{Item, Reply, ack, nack, damaged_reply, Ends}
use Rattle.delivery_rules.specs.Outside.{is_next, Seen, is_up, outstanding, is_running, is_oldest, is_last, gone_with, seen_with, seen_reply, seen_tick}
use Rattle.delivery_rules.specs.Model.{Event, offer, send, arrive, lose, damage, hear, lose_reply, damage_reply, tick, joined, World, arrives, hears, step, run}
use Rattle.delivery_rules.specs.Demand.{Moment, at}

pub record Ordered (g : Seen) : Type 0 where
  pub released_le : g.released ≤ g.gone
  pub gone_le : g.gone ≤ length g.accepted

-- something is outstanding where the timer runs
pub running : (g : Seen) → is_running g ≡ true → 0 < outstanding g
running g q = ltb-true 0 (outstanding g) (second_true (is_up g) (ltb 0 (outstanding g)) q)

reply_ordered : (g : Seen) (y : Reply) → Ordered g → Ordered (seen_reply g y)
unfolding seen_reply
reply_ordered g (ack k) o =
    by_cases Ordered (is_oldest g k)
    (λ t.
    let some = running g (first_true (is_running g) _ t) in
    record { released_le = omega arith; gone_le = o.gone_le })
    (λ _. o)
reply_ordered g (nack k) o =
    by_cases Ordered (is_oldest g k) (λ _. record { released_le = o.released_le; gone_le = o.gone_le }) (λ _. o)
reply_ordered g damaged_reply o = o

tick_ordered : (g : Seen) → Ordered g → Ordered (seen_tick g)
unfolding seen_tick
tick_ordered g o =
    let same : (t x : ℕ) → Ordered (seen_with g g.gone g.released t x) = λ t x.
    record { released_le = o.released_le; gone_le = o.gone_le } in
    by_cases Ordered (is_running g)
    (λ _. by_cases Ordered (is_last g) (λ _. same 0 (g.expiries + 1)) (λ _. same (g.ticks + 1) g.expiries))
    (λ _. o)

-- one more has gone out, or none
gone_ordered :
    (g : Seen) (b : Bool) (k : ℕ) → Ordered g
    → (g.gone ≤ cond b (gone_with g k) g.gone) × (cond b (gone_with g k) g.gone ≤ length g.accepted)
unfolding gone_with
gone_ordered g b k o =
    let P : ℕ → Type 0 = λ n. (g.gone ≤ n) × (n ≤ length g.accepted) in
    by_cases P b
    (λ _. by_cases P (is_next g k)
    (λ t.
    let lt = ltb-true g.gone (length g.accepted) (first_true (ltb g.gone (length g.accepted)) _ t) in
    omega arith)
    (λ _. omega arith))
    (λ _. omega arith)

longer : {A : Type 0} (l : List A) (b : Bool) (a : A) → length l ≤ length (joined l b a)
longer l true a = omega (arith, length-append l (a ∷ []))
longer l false a = omega arith

module _ (E : Ends) where
  arrives_ordered :
      (w : World E) (room : Bool) (output : List ℕ) (l : List Item) → Ordered w.seen → Ordered (arrives E w room output l).seen
  arrives_ordered w room output [] o = o
  arrives_ordered w room output (i ∷ l) o = record { released_le = o.released_le; gone_le = o.gone_le }

  hears_ordered : (w : World E) (l : List Reply) → Ordered w.seen → Ordered (hears E w l).seen
  hears_ordered w [] o = o
  hears_ordered w (y ∷ l) o = reply_ordered w.seen y o

  step_ordered : (e : Event) (w : World E) → Ordered w.seen → Ordered (step E e w).seen
  unfolding step
  step_ordered (offer x) w o =
      let a = E.offer w.sender w.buffers x in
      record { released_le = o.released_le; gone_le = omega (arith, longer w.seen.accepted a.accepted x) }
  step_ordered (send output) w o =
      let a = E.send w.sender w.buffers output in
      let z = gone_ordered w.seen a.sent a.number o in
      record { released_le = omega (arith, z.0, o.released_le); gone_le = z.1 }
  step_ordered (arrive room output) w o = arrives_ordered w room output w.forward o
  step_ordered (lose n) w o = o
  step_ordered (damage n) w o = o
  step_ordered hear w o = hears_ordered w w.backward o
  step_ordered (lose_reply n) w o = o
  step_ordered (damage_reply n) w o = o
  step_ordered tick w o = tick_ordered w.seen o

  pub run_ordered : (es : List Event) (w : World E) → Ordered w.seen → Ordered (run E es w).seen
  unfolding run
  run_ordered [] w o = o
  run_ordered (e ∷ es) w o = run_ordered es (step E e w) (step_ordered e w o)

  pub moment_ordered : (m : Moment E) → Ordered (at E m).seen
  moment_ordered m = run_ordered m.events _ (record { released_le = omega arith; gone_le = omega arith })
