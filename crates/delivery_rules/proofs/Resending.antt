-- The drill of any two ends, from what each call does while the stored segments are sent again: all is delivered and the buffers are empty.
-- Assumes nothing.
use mathlib.Core.Path.{◌≡◌, refl, sym, ◌∙◌, ap, subst}
use mathlib.Core.Bool.{Bool, true}
use mathlib.Core.List.{List, [], ◌∷◌, ◌++◌, map}
use Prim.Native.Nat.{ℕ, zero, suc, ◌+◌, ◌%◌, ◌≤◌, ◌<◌}
use native.Mathlib.Omega.{arith}
use lib.Dec.{eqb}
use lib.ListN.{length, get_or, replicate}
use lib.Seq.{take_all}
use borrow.Author.Tests.{eqb-true, eqb-false}
use Rattle.laws.proofs.Cases.{by_cases}
use Rattle.retry_rules.specs.Lent.{Content}
use Rattle.delivery_rules.specs.Ends.{Item, segment, damaged, Reply, ack, nack, damaged_reply, Ends}
use Rattle.delivery_rules.specs.Outside.{Seen, outstanding, ticks_left, seen_reply}
use Rattle.delivery_rules.specs.Model.{Event, offer, send, arrive, lose, damage, hear, lose_reply, damage_reply, tick, World, arrived, arrives, told, hears, step, run}
use Rattle.delivery_rules.specs.Demand.{no_content, AllGood, FirstSoMany, Empty, NoExpiry, expire_once, Fits, SendsEach, Drill, drilled, Recovered}
use Rattle.delivery_rules.proofs.Sequence.{Sequence, done, first_of, none_left}
use Rattle.delivery_rules.proofs.Seeing.{plain_tick_lem, expiry}
use Rattle.delivery_rules.proofs.Calms.{calm_run, sends_calm, sends_le, expired}
use Rattle.delivery_rules.proofs.Invariant.{IsItem, IsAck}

-- ends, what holds of them at every moment, and where their send point is: how many accepted segments lie before the next to go
module _ (E : Ends) (Inv : World E → Type 0) (point : World E → ℕ) where
  -- the j-th accepted segment is the next to go, the b-th the next to arrive; the replies on their way are the ACKs of all before it that are
  -- not released
  pub record Resending (j : ℕ) (w : World E) : Type 0 where
    pub inv : Inv w
    pub few : w.seen.expiries ≤ 2
    pub next : j ≡ point w
    pub b : ℕ
    pub delivered : b ≤ length w.seen.delivered
    pub items : Sequence (IsItem w.seen.accepted) b j w.forward
    pub replies : Sequence IsAck w.seen.released b w.backward

  -- what each call does
  pub record Resends (S : ℕ) : Type 0 where
    pub keeps : (e : Event) (w : World E) → Inv w → Inv (step E e w)
    pub prefix : (w : World E) → Inv w → FirstSoMany w.seen.delivered w.seen.accepted
    pub low : (w : World E) → Inv w → w.seen.released ≤ length w.seen.delivered
    pub sends :
        (w : World E) (j : ℕ) (output : List ℕ) → Resending j w → j < length w.seen.accepted
        → length (get_or w.seen.accepted j no_content).bytes ≤ length output → Resending (suc j) (step E (send output) w)
    pub arrives_at :
        (w : World E) (j k : ℕ) (x : Content) (rest : List Item) (output : List ℕ) (r : Resending j w)
        → IsItem w.seen.accepted (segment k x) r.b → Sequence (IsItem w.seen.accepted) (suc r.b) j rest
        → length x.bytes ≤ length output → Inv (arrived E w rest (E.arrive w.receiver (segment k x) true output))
        → Resending j (arrived E w rest (E.arrive w.receiver (segment k x) true output))
    pub hears_ack :
        (w : World E) (j k : ℕ) (rest : List Reply) (r : Resending j w) → k ≡ w.seen.released % 16
        → Sequence IsAck (suc w.seen.released) r.b rest
        → Inv (told E w (E.hear w.sender (ack k)) rest (seen_reply w.seen (ack k)))
        → Resending j (told E w (E.hear w.sender (ack k)) rest (seen_reply w.seen (ack k)))
    pub ticks_on : (w : World E) (j : ℕ) → Resending j w → NoExpiry E w → Resending j (step E tick w)
    -- with nothing outstanding, and after an expiry, the oldest is the next to go
    pub at_rest : (w : World E) → Inv w → w.seen.gone ≤ w.seen.released → point w ≡ w.seen.released
    pub time_left : (w : World E) → Inv w → w.seen.ticks < w.seen.columns
    pub at_expiry :
        (w : World E) → Inv w → w.seen.expiries < 2 → w.seen.released < w.seen.gone → w.seen.ticks + 1 ≡ w.seen.columns
        → point (step E tick w) ≡ w.seen.released
    -- with nothing stored the next eight good offers are accepted
    pub accepts :
        (w : World E) → Inv w → w.seen.expiries ≤ 2 → w.seen.released ≡ length w.seen.accepted → (xs : List Content) → length xs ≡ 8
        → AllGood S xs → (run E (map offer xs) w).seen.accepted ≡ w.seen.accepted ++ xs

  module _ (S : ℕ) (R : Resends S) where
    -- the sending
    arrival_next :
        (w : World E) (j : ℕ) (l : List Item) (output : List ℕ) (r : Resending j w) → Sequence (IsItem w.seen.accepted) r.b j l
        → Fits E l output → Inv (arrives E w true output l) → Resending j (arrives E w true output l)
    arrival_next w j [] output r q long inv = r
    arrival_next w j (segment k x ∷ rest) output r q long inv =
        R.arrives_at w j k x rest output r (first_of q).0 (first_of q).1 long inv
    arrival_next w j (damaged ∷ rest) output r q long inv = absurd (first_of q).0

    hearing_next :
        (w : World E) (j : ℕ) (l : List Reply) (r : Resending j w) → Sequence IsAck w.seen.released r.b l → Inv (hears E w l)
        → Resending j (hears E w l)
    hearing_next w j [] r q inv = r
    hearing_next w j (ack k ∷ rest) r q inv = R.hears_ack w j k rest r (first_of q).0 (first_of q).1 inv
    hearing_next w j (nack k ∷ rest) r q inv = absurd (first_of q).0
    hearing_next w j (damaged_reply ∷ rest) r q inv = absurd (first_of q).0

    -- at its end all that was accepted has been sent, has arrived and is released
    record Finished (w : World E) : Type 0 where
      inv : Inv w
      few : w.seen.expiries ≤ 2
      all_released : w.seen.released ≡ length w.seen.accepted
      all_delivered : length w.seen.accepted ≤ length w.seen.delivered

    finished : (j : ℕ) (w : World E) → Resending j w → j ≡ length w.seen.accepted → Empty E w → Finished w
    finished j w r q e =
        let a = none_left (subst (λ (l : List Item). Sequence (IsItem w.seen.accepted) r.b j l) e.0 r.items) in
        let b = none_left (subst (λ (l : List Reply). Sequence IsAck w.seen.released r.b l) e.1 r.replies) in
        record { inv = r.inv; few = r.few; all_released = b ∙ a ∙ q; all_delivered = omega (arith, a, r.delivered) }

    sent_each : (es : List Event) (j : ℕ) (w : World E) → SendsEach E j es w → Resending j w → Finished (run E es w)
    unfolding run SendsEach step
    sent_each [] j w c r = finished j w r c.0 c.1
    sent_each (send output ∷ es) j w c r =
        let lt = sends_le E es (suc j) (step E (send output) w) c.1 in
        sent_each es (suc j) (step E (send output) w) c.1 (R.sends w j output r lt c.0)
    sent_each (arrive room output ∷ es) j w c r =
        let next = arrival_next w j w.forward output r r.items c.1 (R.keeps (arrive true output) w r.inv) in
        sent_each es j (step E (arrive room output) w) c.2
        (subst (λ (b : Bool). Resending j (arrives E w b output w.forward)) (sym c.0) next)
    sent_each (hear ∷ es) j w c r =
        sent_each es j (step E hear w) c (hearing_next w j w.backward r r.replies (R.keeps hear w r.inv))
    sent_each (tick ∷ es) j w c r = sent_each es j (step E tick w) c.1 (R.ticks_on w j r c.0)
    sent_each (offer x ∷ es) j w c r = absurd c
    sent_each (lose n ∷ es) j w c r = absurd c
    sent_each (damage n ∷ es) j w c r = absurd c
    sent_each (lose_reply n ∷ es) j w c r = absurd c
    sent_each (damage_reply n ∷ es) j w c r = absurd c

    -- before it: both lines empty, the send point at the oldest
    record Ready (w : World E) : Type 0 where
      inv : Inv w
      few : w.seen.expiries ≤ 2
      oldest : point w ≡ w.seen.released
      empty : Empty E w

    resending : (w : World E) → Ready w → Resending w.seen.released w
    resending w r =
        record {
          inv = r.inv;
          few = r.few;
          next = sym r.oldest;
          b = w.seen.released;
          delivered = R.low w r.inv;
          items = subst (λ (l : List Item). Sequence (IsItem w.seen.accepted) w.seen.released w.seen.released l) (sym r.empty.0) (done refl);
          replies = subst (λ (l : List Reply). Sequence IsAck w.seen.released w.seen.released l) (sym r.empty.1) (done refl);
        }

    -- the expiry: so many ticks as are left
    expires :
        (k : ℕ) (w : World E) → Inv w → Empty E w → w.seen.expiries < 2 → w.seen.released < w.seen.gone → ticks_left w.seen ≡ k
        → Ready (run E (replicate k tick) w)
    unfolding run step
    expires zero w v e x o t = absurd (omega (arith, R.time_left w v))
    expires (suc zero) w v e x o t =
        let last : w.seen.ticks + 1 ≡ w.seen.columns = omega arith in
        let is = expiry w.seen (omega arith) o last in
        record {
          inv = R.keeps tick w v;
          few = omega (arith, ap (λ (g : Seen). g.expiries) is);
          oldest = R.at_expiry w v x o last ∙ sym (ap (λ (g : Seen). g.released) is);
          empty = e;
        }
    expires (suc (suc n)) w v e x o t =
        let is = plain_tick_lem w.seen (omega arith) o (λ q. omega arith) in
        expires (suc n) (step E tick w) (R.keeps tick w v) e (omega (arith, ap (λ (g : Seen). g.expiries) is))
        (omega (arith, ap (λ (g : Seen). g.released) is, ap (λ (g : Seen). g.gone) is)) (ap ticks_left is ∙ omega arith)

    expires_once : (w : World E) → Inv w → Empty E w → w.seen.expiries < 2 → Ready (expire_once E w)
    unfolding expire_once
    expires_once w v e x =
        by_cases Ready (eqb (outstanding w.seen) 0)
        (λ t. record {
          inv = v;
          few = omega arith;
          oldest = R.at_rest w v (omega (arith, eqb-true (outstanding w.seen) 0 t));
          empty = e;
        })
        (λ t. expires (ticks_left w.seen) w v e x (omega (arith, eqb-false (outstanding w.seen) 0 t)) refl)

    run_keeps : (es : List Event) (w : World E) → Inv w → Inv (run E es w)
    unfolding run
    run_keeps [] w v = v
    run_keeps (e ∷ es) w v = run_keeps es (step E e w) (R.keeps e w v)

    pub drill_recovers : (w : World E) → Inv w → w.seen.expiries < 2 → (d : Drill E w) → Recovered E S w (drilled E w d)
    drill_recovers w v x d =
        let emptied = run E d.emptying w in
        let calm = calm_run E d.emptying w d.calm in
        let ready = expire_once E emptied in
        let again = resending ready (expires_once emptied (run_keeps d.emptying w v) d.empty (omega (arith, calm.expiries))) in
        let sends = calm_run E d.sending ready (sends_calm E d.sending ready.seen.released ready d.each) in
        let end = drilled E w d in
        let f = sent_each d.sending ready.seen.released ready d.each again in
        record {
          all =
              R.prefix end f.inv ∙ take_all (length end.seen.delivered) end.seen.accepted f.all_delivered ∙ sends.accepted
              ∙ (expired E emptied).accepted
              ∙ calm.accepted;
          none_stored = omega (arith, f.all_released);
          eight_free = λ xs eight good. R.accepts end f.inv f.few f.all_released xs eight good;
        }
