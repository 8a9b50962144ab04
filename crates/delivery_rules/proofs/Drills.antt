-- Of any two ends: the drill can be carried out from every moment.
-- Assumes nothing.
use mathlib.Core.Path.{◌≡◌, refl, sym, ◌∙◌, ap, subst}
use mathlib.Core.Bool.{Bool, true, false}
use mathlib.Core.List.{List, [], ◌∷◌}
use Prim.Native.Nat.{ℕ, zero, suc, ◌+◌, ◌-◌, ◌≤◌}
use native.Mathlib.Omega.{arith}
use lib.ListN.{length, get_or}
use Rattle.delivery_rules.specs.Ends.{Item, segment, damaged, Reply, Ends}
use Rattle.delivery_rules.specs.Outside.{seen_reply}
use Rattle.delivery_rules.specs.Model.{Event, send, arrive, hear, World, arrived, arrives, told, hears, joined, step, run}
use Rattle.delivery_rules.proofs.Calms.{hears_calm, arrives_calm, expired}
use Rattle.delivery_rules.proofs.Ordered.{run_ordered, moment_ordered}
use Rattle.delivery_rules.specs.Demand.{no_content, Moment, at, Empty, AllCalm, expire_once, Fits, SendsEach, Drill}

module _ (E : Ends) where
  -- a run that empties both lines: each of the one line arrives, then each of the other
  record Emptied (w : World E) : Type 0 where
    events : List Event
    calm : AllCalm E events w
    empty : Empty E (run E events w)

  hear_all : (l : List Reply) (w : World E) → w.forward ≡ [] → w.backward ≡ l → Emptied w
  unfolding run AllCalm step
  hear_all [] w p q = record { events = []; calm = tt; empty = (p, q) }
  hear_all (y ∷ l) w p q =
      let next : World E = told E w (E.hear w.sender y) l (seen_reply w.seen y) in
      let is : next ≡ step E hear w = ap (hears E w) (sym q) in
      let r : Emptied (step E hear w) = subst Emptied is (hear_all l next p refl) in
      record { events = hear ∷ r.events; calm = (tt, r.calm); empty = r.empty }

  arrive_all : (l : List Item) (w : World E) → w.forward ≡ l → Emptied w
  unfolding run AllCalm step
  arrive_all [] w q = hear_all w.backward w q refl
  arrive_all (i ∷ l) w q =
      let next : World E = arrived E w l (E.arrive w.receiver i true []) in
      let is : next ≡ step E (arrive true []) w = ap (arrives E w true []) (sym q) in
      let r : Emptied (step E (arrive true []) w) = subst Emptied is (arrive_all l next refl) in
      record { events = arrive true [] ∷ r.events; calm = (tt, r.calm); empty = r.empty }

  -- a run that sends once for each segment from the j-th on, each with its reply
  record Sent (j : ℕ) (w : World E) : Type 0 where
    events : List Event
    each : SendsEach E j events w

  heard_one : (w : World E) (l : List Reply) → w.forward ≡ [] → w.backward ≡ l → length l ≤ 1 → Empty E (hears E w l)
  heard_one w [] p q h = (p, q)
  heard_one w (y ∷ []) p q h = (p, refl)
  heard_one w (y ∷ z ∷ l) p q h = absurd (omega arith)

  joined_one : {A : Type 0} (l : List A) (b : Bool) (a : A) → l ≡ [] → length (joined l b a) ≤ 1
  joined_one l true a q = rw q (omega arith)
  joined_one l false a q = rw q (omega arith)

  arrived_one :
      (w : World E) (l : List Item) (output : List ℕ) → w.forward ≡ l → w.backward ≡ [] → length l ≤ 1
      → ((arrives E w true output l).forward ≡ []) × (length (arrives E w true output l).backward ≤ 1)
  arrived_one w [] output p q h = (p, rw q (omega arith))
  arrived_one w (i ∷ []) output p q h =
      let a = E.arrive w.receiver i true output in
      (refl, joined_one w.backward a.answered a.reply q)
  arrived_one w (i ∷ i' ∷ l) output p q h = absurd (omega arith)

  -- an output that is long enough for what arrives next
  output_for : List Item → List ℕ
  output_for [] = []
  output_for (segment k x ∷ l) = x.bytes
  output_for (damaged ∷ l) = []

  fits : (l : List Item) → Fits E l (output_for l)
  unfolding output_for
  fits [] = tt
  fits (segment k x ∷ l) = omega arith
  fits (damaged ∷ l) = tt

  -- a send, its arrival and its reply leave both lines empty
  module _ (j : ℕ) (w : World E) (e : Empty E w) where
    out : List ℕ
    out = (get_or w.seen.accepted j no_content).bytes

    after_send : World E
    after_send = step E (send out) w

    into : List ℕ
    into = output_for after_send.forward

    after_arrival : World E
    after_arrival = step E (arrive true into) after_send

    after_reply : World E
    after_reply = step E hear after_arrival

    round_empty : Empty E after_reply
    unfolding after_reply after_arrival after_send step
    round_empty =
        let a = E.send w.sender w.buffers out in
        let one = joined_one w.forward a.sent (segment a.number a.content) e.0 in
        let b = arrived_one after_send after_send.forward into refl e.1 one in
        heard_one after_arrival after_arrival.backward b.0 refl b.1

    round_accepted : after_reply.seen.accepted ≡ w.seen.accepted
    unfolding after_reply after_arrival after_send step
    round_accepted =
        (hears_calm E after_arrival after_arrival.backward).accepted
        ∙ (arrives_calm E after_send true into after_send.forward).accepted

  send_all : (k j : ℕ) (w : World E) → Empty E w → k + j ≡ length w.seen.accepted → Sent j w
  unfolding SendsEach out into after_reply after_arrival after_send
  send_all zero j w e q = record { events = []; each = (omega arith, e) }
  send_all (suc k) j w e q =
      let r = send_all k (suc j) (after_reply j w e) (round_empty j w e) (omega (arith, ap length (round_accepted j w e))) in
      record {
        events = send (out j w e) ∷ arrive true (into j w e) ∷ hear ∷ r.events;
        each = (omega arith, (refl, fits (after_send j w e).forward, r.each));
      }

  -- the drill can be carried out from every moment
  pub can_drill : (m : Moment E) → Drill E (at E m)
  can_drill m =
      let w = at E m in
      let r = arrive_all w.forward w refl in
      let u = run E r.events w in
      let v = expire_once E u in
      let o = (expired E u).ordered (run_ordered E r.events w (moment_ordered E m)) in
      let left : ℕ = length v.seen.accepted - v.seen.released in
      let s = send_all left v.seen.released v ((expired E u).empty r.empty) (omega arith) in
      record { emptying = r.events; calm = r.calm; empty = r.empty; sending = s.events; each = s.each }
