-- The plain ends that are made by the rules meet demand 3, so each wrong choice is one step away from ends that meet it. 'Last eight' by remainder
-- alone meets it too.
-- Assumes nothing.
use mathlib.Core.Path.{◌≡◌, refl, sym, ◌∙◌, ap, subst}
use mathlib.Core.Bool.{Bool, true, false, not, cond, ◌&&◌, ◌||◌}
use mathlib.Core.List.{List, [], ◌∷◌, ◌++◌, map, append_assoc, append-nil}
use Prim.Native.Nat.{ℕ, suc, ◌+◌, ◌%◌, ◌≤◌, ◌<◌, min}
use native.Mathlib.Omega.{arith}
use native.Mathlib.Decide.{dec_lt}
use lib.Dec.{ltb, eqb}
use lib.ListN.{length, get_or, length-append}
use borrow.Author.Tests.{ltb-true, ltb-false, eqb-true, eqb-false, lt-ltb, le-ltb, ne_eqb}
use Rattle.laws.proofs.Cases.{by_cases, both_true, first_true, cond_true, cond_false}
use Rattle.retry_rules.specs.Numbers.{between, among_last}
use Rattle.retry_rules.specs.Lent.{Content}
use Rattle.delivery_rules.specs.Ends.{Item, segment, Reply, ack, Offering, Sending, Arriving}
use Rattle.delivery_rules.specs.Outside.{Seen, seen_with, seen_reply, seen_tick}
use Rattle.delivery_rules.specs.Model.{offer, send, tick, World, offered, sent, arrived, told, step, run}
use Rattle.delivery_rules.specs.Demand.{no_content, AllGood, Moment, at, NoExpiry, Delivers}
use Rattle.delivery_rules.proofs.Round.{near_is, among}
use Rattle.delivery_rules.proofs.Resending.{Resending, Resends, drill_recovers}
use Rattle.delivery_rules.proofs.Sequence.{Sequence, then_one, in_order}
use Rattle.delivery_rules.proofs.Seeing.{unticked, own_ack, plain_tick_lem, expiry}
use Rattle.delivery_rules.proofs.Drills.{can_drill}
use Rattle.delivery_rules.proofs.Invariant.{IsItem, IsAck}
use Rattle.delivery_wrong.specs.Plain.{eight_of, PlainSender, PlainReceiver, fallen, idle, moved, plain_taken, plain_offer, plain_goes, plain_send, plain_release, ahead, plain_hear, plain_tick, plain_arrive, rule_choice, plain, right, by_remainder}
use Rattle.delivery_wrong.proofs.RightInvariant.{Inv as InvOf, none_ahead, runs, still}
use Rattle.delivery_wrong.proofs.RightSteps.{due_is, step_inv, run_inv, start_inv}

-- whether of the last eight only those count that were really received or released
module _ (really : Bool) where
  abbrev Inv : World (plain (rule_choice really)) → Type 0
  Inv w = InvOf really w

  abbrev point_of : World (plain (rule_choice really)) → ℕ
  point_of w = w.sender.point

  abbrev Re : ℕ → World (plain (rule_choice really)) → Type 0
  Re j w = Resending (plain (rule_choice really)) Inv point_of j w

  up : (s : PlainSender) → s.expiries ≤ 2 → not (fallen s) ≡ true
  up s h = ap not (le-ltb 2 s.expiries h)

  busy : (s : PlainSender) → s.expiries ≤ 2 → s.released < s.gone → idle s ≡ false
  busy s h q = either (fallen s) (eqb s.gone s.released) (le-ltb 2 s.expiries h) (ne_eqb s.gone s.released (λ p. omega arith))
    where
      either : (a b : Bool) → a ≡ false → b ≡ false → a || b ≡ false
      either true b p q = p
      either false b p q = q

  module _ (w : World (plain (rule_choice really))) where
    sends_next : (j : ℕ) (output : List ℕ) → Re j w → j < length w.seen.accepted → Re (suc j) (step (plain (rule_choice really)) (send output) w)
    unfolding step plain_send
    sends_next j output r lt =
        let s = w.sender in
        let v = r.inv in
        let u = v.counts in
        let q = r.next in
        let few = r.few in
        let here : s.point < s.released + s.stored = omega arith in
        let goes = cond_true (not (fallen s) && ltb s.point (s.released + s.stored)) (plain_goes (rule_choice really) s) _
        (both_true (not (fallen s)) _ (up s (omega arith)) (lt-ltb s.point (s.released + s.stored) here)) in
        let P : Sending PlainSender → Type 0 = λ a. Inv (sent (plain (rule_choice really)) w a) → Re (suc j) (sent (plain (rule_choice really)) w a) in
        let there : P (plain_goes (rule_choice really) s) = λ inv.
        record {
          inv = inv;
          few = few;
          next = omega arith;
          b = r.b;
          delivered = r.delivered;
          items = then_one (segment (s.point % 16) _)
              (ap (λ (k : ℕ). k % 16) (sym q), due_is really w v here ∙ ap (λ (k : ℕ). get_or w.seen.accepted k no_content) (sym q)) r.items;
          replies = r.replies;
        } in
        subst P (sym goes) there (step_inv really (send output) w v)

    arrives_next :
        (j k : ℕ) (x : Content) (rest : List Item) (output : List ℕ) (r : Re j w)
        → IsItem w.seen.accepted (segment k x) r.b → Sequence (IsItem w.seen.accepted) (suc r.b) j rest
        → Inv (arrived (plain (rule_choice really)) w rest (plain_arrive (rule_choice really) w.receiver (segment k x) true output))
        → Re j (arrived (plain (rule_choice really)) w rest (plain_arrive (rule_choice really) w.receiver (segment k x) true output))
    unfolding plain_arrive among_last
    arrives_next j k x rest output r is l =
        let t = w.receiver.taken in
        let e : ℕ = length w.seen.delivered in
        let u = r.inv.counts in
        let q = r.next in
        let le = in_order l in
        let de = r.delivered in
        let back = in_order r.replies in
        let k_is : k ≡ r.b % 16 = is.0 in
        let expected : t % 16 ≡ e % 16 = ap (λ (n : ℕ). n % 16) u.taken in
        let at : r.b ≡ e → k ≡ t % 16 = λ p. k_is ∙ ap (λ (i : ℕ). i % 16) p ∙ sym expected in
        let close : e ≤ r.b + 8 = omega arith in
        let low : r.b < e + 8 = omega arith in
        let P : Arriving PlainReceiver → Type 0 = λ a. Inv (arrived (plain (rule_choice really)) w rest a) → Re j (arrived (plain (rule_choice really)) w rest a) in
        by_cases P (eqb k (t % 16))
        (λ eq inv.
        let b_is = near_is r.b e close low (sym k_is ∙ eqb-true k (t % 16) eq ∙ expected) in
        record {
          inv = inv;
          few = r.few;
          next = q;
          b = suc r.b;
          delivered = omega (arith, length-append w.seen.delivered (x ∷ []));
          items = l;
          replies = then_one (ack k) k_is r.replies;
        })
        (λ ne.
        let before : r.b < e = elim (dec_lt r.b e) [ yes p ↦ p | no p ↦ absurd (eqb-false k (t % 16) ne (at (omega arith))) ] in
        let last : between k (t % 16) < eight_of (rule_choice really) t = recent k r.b t e k_is u.taken (among r.b e before close) in
        by_cases P (ltb (between k (t % 16)) (eight_of (rule_choice really) t))
        (λ _ inv. record {
          inv = inv;
          few = r.few;
          next = q;
          b = suc r.b;
          delivered = before;
          items = l;
          replies = then_one (ack k) k_is r.replies;
        })
        (λ no. absurd (omega (arith, last, ltb-false (between k (t % 16)) (eight_of (rule_choice really) t) no))))
      where
        recent : (k b t e : ℕ) → k ≡ b % 16 → t ≡ e → between (b % 16) (e % 16) < min e 8 → between k (t % 16) < eight_of (rule_choice really) t
        recent k b t e p q h =
            let near = subst (λ (m : ℕ). between k (m % 16) < min m 8) (sym q) (subst (λ (m : ℕ). between m (e % 16) < min e 8) (sym p) h) in
            by_cases (λ (n : ℕ). between k (t % 16) < n) really (λ _. near) (λ _. omega arith)

    hears_next :
        (j k : ℕ) (rest : List Reply) (r : Re j w) → k ≡ w.seen.released % 16 → Sequence IsAck (suc w.seen.released) r.b rest
        → Inv (told (plain (rule_choice really)) w (plain_hear (rule_choice really) w.sender (ack k)) rest (seen_reply w.seen (ack k)))
        → Re j (told (plain (rule_choice really)) w (plain_hear (rule_choice really) w.sender (ack k)) rest (seen_reply w.seen (ack k)))
    unfolding plain_hear
    hears_next j k rest r q l =
        let s = w.sender in
        let g = w.seen in
        let u = r.inv.counts in
        let next = r.next in
        let few = r.few in
        let some = in_order l in
        let goes = in_order r.items in
        let out : g.released < g.gone = omega arith in
        let mine : k ≡ s.released % 16 = q ∙ ap (λ (o : ℕ). o % 16) (sym u.released) in
        let zero = none_ahead really k s.released mine in
        let hears_it = cond_false (idle s) s _ (busy s (omega arith) (omega arith))
        ∙ cond_true (ltb (ahead (rule_choice really) s k) 1) (plain_release (rule_choice really) s (ahead (rule_choice really) s k + 1)) _
        (lt-ltb (ahead (rule_choice really) s k) 1 (omega arith)) in
        let seen = own_ack g (omega arith) out k q in
        let P : PlainSender → Seen → Type 0 = λ s g. Inv (told (plain (rule_choice really)) w s rest g) → Re j (told (plain (rule_choice really)) w s rest g) in
        let there : P (plain_release (rule_choice really) s (ahead (rule_choice really) s k + 1)) (seen_with g g.gone (g.released + 1) 0 0) = λ inv.
        record {
          inv = inv;
          few = omega arith;
          next = omega arith;
          b = r.b;
          delivered = r.delivered;
          items = r.items;
          replies = subst (λ (i : ℕ). Sequence IsAck i r.b rest) (omega arith) l;
        } in
        subst (λ (d : PlainSender). P d (seen_reply g (ack k))) (sym hears_it)
        (subst (P (plain_release (rule_choice really) s (ahead (rule_choice really) s k + 1))) (sym seen) there)

    -- a tick: nothing outstanding, before the T-th, or an expiry
    tick_either :
        Inv w → w.seen.expiries ≤ 2 → (P : PlainSender → Seen → Type 0) → (w.seen.gone ≤ w.seen.released → P w.sender w.seen)
        → (w.seen.released < w.seen.gone → (w.seen.ticks + 1 ≡ w.seen.columns → ⊥)
        → P (moved w.sender w.sender.point (w.sender.ticks + 1) w.sender.expiries)
        (seen_with w.seen w.seen.gone w.seen.released (w.seen.ticks + 1) w.seen.expiries))
        → (w.seen.released < w.seen.gone → w.seen.ticks + 1 ≡ w.seen.columns
        → P (moved w.sender (cond (ltb w.sender.expiries 2) w.sender.released w.sender.point) 0 (w.sender.expiries + 1))
        (seen_with w.seen w.seen.gone w.seen.released 0 (w.seen.expiries + 1)))
        → P (plain_tick w.sender) (seen_tick w.seen)
    unfolding plain_tick
    tick_either v few P none plain last =
        let s = w.sender in
        let g = w.seen in
        let u = v.counts in
        by_cases (λ (t : PlainSender). P t (seen_tick g)) (idle s) (λ t.
        let same = eqb-true s.gone s.released
        (subst (λ (b : Bool). b || eqb s.gone s.released ≡ true) (le-ltb 2 s.expiries (omega arith)) t) in
        rw (unticked g (still really w v t)) (none (omega arith)))
        (λ t.
        let on = runs really w v t in
        by_cases (λ (t : PlainSender). P t (seen_tick g)) (eqb (s.ticks + 1) s.columns)
        (λ e.
        let is : g.ticks + 1 ≡ g.columns = omega (arith, eqb-true (s.ticks + 1) s.columns e) in
        rw (expiry g on.0 on.1 is) (last on.1 is))
        (λ e.
        let ne : g.ticks + 1 ≡ g.columns → ⊥ = λ q. eqb-false (s.ticks + 1) s.columns e (omega arith) in
        rw (plain_tick_lem g on.0 on.1 ne) (plain on.1 ne)))

    ticks_on : (j : ℕ) → Re j w → NoExpiry (plain (rule_choice really)) w → Re j (step (plain (rule_choice really)) tick w)
    unfolding step
    ticks_on j r quiet =
        tick_either r.inv r.few
        (λ s g. g.expiries ≡ w.seen.expiries → Inv (told (plain (rule_choice really)) w s w.backward g)
        → Re j (told (plain (rule_choice really)) w s w.backward g))
        (λ _ _ _. r)
        (λ _ _ _ inv. record {
          inv = inv;
          few = r.few;
          next = r.next;
          b = r.b;
          delivered = r.delivered;
          items = r.items;
          replies = r.replies;
        })
        (λ _ _ q. absurd (omega arith)) quiet (step_inv really tick w r.inv)

    at_expiry :
        Inv w → w.seen.expiries < 2 → w.seen.released < w.seen.gone → w.seen.ticks + 1 ≡ w.seen.columns
        → (step (plain (rule_choice really)) tick w).sender.point ≡ w.seen.released
    unfolding step
    at_expiry v few some last =
        let u = v.counts in
        tick_either v (omega arith) (λ s g. s.point ≡ w.seen.released) (λ none. absurd (omega arith)) (λ _ no. absurd (no last))
        (λ _ _. cond_true (ltb w.sender.expiries 2) w.sender.released _ (lt-ltb w.sender.expiries 2 (omega arith)) ∙ u.released)

  -- the buffers are empty
  accepts :
      (S : ℕ) (xs : List Content) (w : World (plain (rule_choice really))) → Inv w → w.seen.expiries ≤ 2 → w.sender.stored + length xs ≤ 8 → AllGood S xs
      → (run (plain (rule_choice really)) (map offer xs) w).seen.accepted ≡ w.seen.accepted ++ xs
  unfolding run step plain_offer
  accepts S [] w v x h g = sym (append-nil w.seen.accepted)
  accepts S (y ∷ xs) w v x h g =
      let s = w.sender in
      let u = v.counts in
      let free = cond_true (not (fallen s) && ltb s.stored 8) (plain_taken (rule_choice really) s w.buffers y) _
      (both_true (not (fallen s)) _ (up s (omega arith)) (lt-ltb s.stored 8 (omega arith))) in
      let P : Offering PlainSender → Type 0 = λ a. Inv (offered (plain (rule_choice really)) w y a)
      → (run (plain (rule_choice really)) (map offer xs) (offered (plain (rule_choice really)) w y a)).seen.accepted ≡ w.seen.accepted ++ y ∷ xs in
      let there : P (plain_taken (rule_choice really) s w.buffers y) = λ inv.
      accepts S xs _ inv x (omega arith) g.1 ∙ append_assoc w.seen.accepted (y ∷ []) xs in
      subst P (sym free) there (step_inv really (offer y) w v)

  resends : (S : ℕ) → Resends (plain (rule_choice really)) Inv point_of S
  resends S =
      record {
        keeps = step_inv really;
        prefix = λ w v. v.prefix;
        low = λ w v. v.counts.low;
        sends = λ w j output r lt _. sends_next w j output r lt;
        arrives_at = λ w j k x rest output r is l _ inv. arrives_next w j k x rest output r is l inv;
        hears_ack = hears_next;
        ticks_on = ticks_on;
        at_rest = λ w v none.
            let u = v.counts in
            omega arith;
        time_left = λ w v. v.counts.ticks_lt;
        at_expiry = at_expiry;
        accepts = λ w v few released xs eight good.
            let u = v.counts in
            accepts S xs w v few (omega arith) good;
      }

  rule_delivers : Delivers (plain (rule_choice really))
  rule_delivers =
      let inv : (m : Moment (plain (rule_choice really))) → Inv (at (plain (rule_choice really)) m) = λ m.
      run_inv really m.events _ (start_inv really m.T m.S m.lent (ltb-true 0 m.T (first_true (ltb 0 m.T) _ m.allowed.time))) in
      record {
        begins = λ T S lent a. (refl, refl);
        safe = λ m _. (inv m).prefix;
        recovers = λ m _ x d. drill_recovers (plain (rule_choice really)) Inv point_of m.S (resends m.S) (at (plain (rule_choice really)) m) (inv m) x d;
        can_drill = λ m _ _. can_drill (plain (rule_choice really)) m;
      }

pub right_delivers : Delivers right
right_delivers = rule_delivers true

-- next to a right other end, 'last eight' by remainder alone breaks no run: it is the rules about the past that refuse it
pub by_remainder_delivers : Delivers by_remainder
by_remainder_delivers = rule_delivers false
