-- What our ends do while the stored segments are sent again: what stands on the lines meanwhile is the next ones, each once and in order.
-- Assumes nothing.
use mathlib.Core.Path.{◌≡◌, refl, sym, ◌∙◌, ap, subst}
use mathlib.Core.Bool.{true, false}
use mathlib.Core.List.{List, [], ◌∷◌}
use Prim.Native.Nat.{ℕ, suc, ◌+◌, ◌*◌, ◌%◌, ◌≤◌, ◌<◌}
use native.Mathlib.Omega.{arith}
use native.Mathlib.Decide.{dec_lt}
use lib.ListN.{length, get_or, length-append}
use borrow.Author.Tests.{lt-ltb}
use Rattle.laws.proofs.Cases.{false_is_not_true}
use Rattle.retry_rules.specs.declared.Sender.{Sender}
use Rattle.retry_rules.specs.declared.Receiver.{Receiver}
use Rattle.retry_rules.specs.Numbers.{among_last, between}
use Rattle.retry_rules.specs.Lent.{Content, held_length, held_content}
use Rattle.retry_rules.specs.Send.{due_slot, send_point}
use Rattle.retry_rules.specs.Reply.{restarted, one_released, heard, with_counters}
use Rattle.retry_rules.proofs.Steps.{heard_cases}
use Rattle.retry_rules.proofs.StoredSlots.{stored_slot}
use Rattle.retry_rules.proofs.Seen.{send_passes, arrival_passes}
use Rattle.delivery_rules.specs.Ends.{Item, segment, Reply, ack, Sending, Arriving}
use Rattle.delivery_rules.specs.Outside.{Seen, seen_with, seen_reply}
use Rattle.delivery_rules.specs.Model.{send, tick, World, sent, arrived, told, step}
use Rattle.delivery_rules.specs.Demand.{no_content, Good, NoExpiry}
use Rattle.delivery_rules.specs.Ours.{hearing, arriving, ours}
use Rattle.delivery_rules.proofs.Round.{near_is, among, same_number}
use Rattle.delivery_rules.proofs.Resending.{Resending}
use Rattle.delivery_rules.proofs.Sequence.{Sequence, then_one, in_order}
use Rattle.retry_rules.proofs.Held.{held_length_lem}
use Rattle.delivery_rules.proofs.Seeing.{own_ack}
use Rattle.delivery_rules.proofs.Ticks.{tick_either}
use Rattle.delivery_rules.proofs.Calls.{send_either, arrive_either, ack_heard}
use Rattle.delivery_rules.proofs.Invariant.{IsItem, IsAck, Inv, numbers, slots_rule_lem, up}
use Rattle.delivery_rules.proofs.SenderSteps.{due_is}
use Rattle.delivery_rules.proofs.Safety.{step_inv}

-- how many accepted segments lie before the send point
abbrev pub point_of : World ours → ℕ
point_of w = w.seen.released + w.sender.counters.point

abbrev Ours : ℕ → ℕ → World ours → Type 0
Ours S j w = Resending ours (Inv S) point_of j w

module _ (S : ℕ) (w : World ours) where
  -- a send with a long enough output
  pub sends_next :
      (j : ℕ) (output : List ℕ) → Ours S j w → j < length w.seen.accepted
      → length (get_or w.seen.accepted j no_content).bytes ≤ length output → Ours S (suc j) (step ours (send output) w)
  unfolding step held_content
  sends_next j output r lt long =
      let s = w.sender in
      let c = s.counters in
      let v = r.inv in
      let n = (numbers s v.rule).numbers in
      let u = v.counts in
      let q = r.next in
      let few = r.few in
      let here : c.point < c.stored = omega arith in
      let sound = up S w v (omega arith) in
      let most = (stored_slot s c.point (slots_rule_lem s v.rule) here).most in
      let lent : length w.buffers ≡ 8 * c.size = omega (arith, v.lent, v.size) in
      let due = due_is S w v here in
      let slot_lt : due_slot c < 8 = omega arith in
      let long' : held_length s (due_slot c) ≤ length output =
      omega (
        arith,
        held_length_lem s w.buffers (due_slot c) lent slot_lt most,
        ap (λ (x : Content). length x.bytes) due,
        ap (λ (i : ℕ). length (get_or w.seen.accepted i no_content).bytes) q,
        long,
      ) in
      let passes = send_passes s (length w.buffers) (length output) (record { sound = sound; buffers = lent; long = λ _. long' }) in
      send_either s w.buffers output (λ (a : Sending Sender). Inv S (sent ours w a) → Ours S (suc j) (sent ours w a))
      (λ _ t inv.
      record {
        inv = inv;
        few = few;
        next = omega arith;
        b = r.b;
        delivered = r.delivered;
        items =
            then_one (segment (send_point c) _) (
              ap (λ (k : ℕ). (k + c.point) % 16) u.oldest ∙ same_number w.seen.released c.point ∙ ap (λ (k : ℕ). k % 16) (sym q),
              due ∙ ap (λ (k : ℕ). get_or w.seen.accepted k no_content) (sym q),
            )
            r.items;
        replies = r.replies;
      })
      (λ no. absurd (no passes (lt-ltb c.point c.stored here)))
      (step_inv S (send output) w v)

  -- an arrival with room and a long enough output: it is delivered, or was before; either way it is acknowledged
  pub arrives_next :
      (j k : ℕ) (x : Content) (rest : List Item) (output : List ℕ) (r : Ours S j w)
      → IsItem w.seen.accepted (segment k x) r.b → Sequence (IsItem w.seen.accepted) (suc r.b) j rest
      → length x.bytes ≤ length output → Inv S (arrived ours w rest (ours.arrive w.receiver (segment k x) true output))
      → Ours S j (arrived ours w rest (ours.arrive w.receiver (segment k x) true output))
  unfolding arriving among_last
  arrives_next j k x rest output r is l long =
      let v = r.inv in
      let e : ℕ = length w.seen.delivered in
      let n = (numbers w.sender v.rule).numbers in
      let u = v.counts in
      let f = v.follows in
      let q = r.next in
      let le = in_order l in
      let de = r.delivered in
      let back = in_order r.replies in
      let good : Good S x = subst (Good S) (sym is.1) (v.good r.b (omega arith)) in
      let k_is : k ≡ r.b % 16 = is.0 in
      let lt : k < 16 = omega arith in
      let most : length x.bytes ≤ w.receiver.size = omega (arith, good.most, v.receiver_size) in
      let passes =
      arrival_passes w.receiver k x.channel (length x.bytes) true (length output)
      (record { rule = v.receives; number_lt = lt; channel_lt = good.channel_lt; most = most; some = good.some; long = λ _. long }) in
      let at : r.b ≡ e → k ≡ w.receiver.expected = λ p. k_is ∙ ap (λ (i : ℕ). i % 16) p ∙ sym f.expected in
      let close : e ≤ r.b + 8 = omega arith in
      let low : r.b < e + 8 = omega arith in
      arrive_either w.receiver k x true output (λ (a : Arriving Receiver). Inv S (arrived ours w rest a) → Ours S j (arrived ours w rest a))
      (λ no. absurd (no passes))
      (λ eq _ inv.
      let b_is = near_is r.b e close low (sym k_is ∙ eq ∙ f.expected) in
      record {
        inv = inv;
        few = r.few;
        next = q;
        b = suc r.b;
        delivered = omega (arith, length-append w.seen.delivered (x ∷ []));
        items = l;
        replies = then_one (ack k) k_is r.replies;
      })
      (λ ne _ inv. record {
        inv = inv;
        few = r.few;
        next = q;
        b = suc r.b;
        delivered = elim (dec_lt r.b e) [ yes p ↦ p | no p ↦ absurd (ne (at (omega arith))) ];
        items = l;
        replies = then_one (ack k) k_is r.replies;
      })
      (λ not_next not_last.
      absurd
      (elim (dec_lt r.b e) [
        | yes p ↦
            let other : k ≡ w.receiver.expected → ⊥ = λ eq. ne_lt r.b e p (near_is r.b e close low (sym k_is ∙ eq ∙ f.expected)) in
            let last : between k w.receiver.expected < w.receiver.received =
            rw (f.expected, f.received, k_is) (among r.b e p close) in
            not_last other (lt-ltb (between k w.receiver.expected) w.receiver.received last)
        | no p ↦ not_next (at (omega arith)) refl
      ]))
    where
      ne_lt : (a b : ℕ) → a < b → a ≡ b → ⊥
      ne_lt a b h q = omega arith

  -- the reply that is heard is the ACK of the oldest
  pub hears_next :
      (j k : ℕ) (rest : List Reply) (r : Ours S j w) → k ≡ w.seen.released % 16 → Sequence IsAck (suc w.seen.released) r.b rest
      → Inv S (told ours w (hearing w.sender (ack k)) rest (seen_reply w.seen (ack k)))
      → Ours S j (told ours w (hearing w.sender (ack k)) rest (seen_reply w.seen (ack k)))
  hears_next j k rest r q l =
      let s = w.sender in
      let c = s.counters in
      let g = w.seen in
      let v = r.inv in
      let n = (numbers s v.rule).numbers in
      let u = v.counts in
      let next = r.next in
      let some = in_order l in
      let goes = in_order r.items in
      let few : g.expiries < 3 = omega (arith, r.few) in
      let k_lt : k < 16 = omega arith in
      let out : 0 < c.outstanding = omega arith in
      let mine : k ≡ c.oldest = q ∙ sym u.oldest in
      let is : heard c false k ≡ restarted (one_released c) =
      heard_cases (λ d. d ≡ restarted (one_released c)) c false k (λ none. absurd (omega arith)) (λ _ z. absurd (false_is_not_true z))
      (λ _ z. absurd (false_is_not_true z)) (λ _ _ _. refl) (λ _ _ ne _. absurd (ne mine)) (λ _ _ ne _. absurd (ne mine)) in
      let sender : hearing s (ack k) ≡ with_counters s (restarted (one_released c)) =
      ack_heard s k (record { sound = up S w v few; number_lt = k_lt }) ∙ ap (with_counters s) is in
      let seen = own_ack g few (omega arith) k q in
      let P : Sender → Seen → Type 0 = λ s g. Inv S (told ours w s rest g) → Ours S j (told ours w s rest g) in
      let there : P (with_counters s (restarted (one_released c))) (seen_with g g.gone (g.released + 1) 0 0) = λ inv.
      record {
        inv = inv;
        few = omega arith;
        next = omega arith;
        b = r.b;
        delivered = r.delivered;
        items = r.items;
        replies = subst (λ (i : ℕ). Sequence IsAck i r.b rest) (omega arith) l;
      } in
      subst (λ (d : Sender). P d (seen_reply g (ack k))) (sym sender)
      (subst (P (with_counters s (restarted (one_released c)))) (sym seen) there)

  -- a tick that is no expiry
  pub ticks_on : (j : ℕ) → Ours S j w → NoExpiry ours w → Ours S j (step ours tick w)
  unfolding step
  ticks_on j r quiet =
      let v = r.inv in
      let few = r.few in
      let c = w.sender.counters in
      tick_either S w v (omega arith)
      (λ s g. g.expiries ≡ w.seen.expiries → Inv S (told ours w s w.backward g) → Ours S j (told ours w s w.backward g))
      (λ _ _ _. r)
      (λ _ _ _ inv.
      record {
        inv = inv;
        few = few;
        next = r.next;
        b = r.b;
        delivered = r.delivered;
        items = r.items;
        replies = r.replies;
      })
      (λ _ _ _ q. absurd (omega arith)) (λ _ _ _ q. absurd (omega arith)) quiet (step_inv S tick w v)

  -- after an expiry the oldest is the next to go
  pub at_expiry :
      Inv S w → w.seen.expiries < 2 → w.seen.released < w.seen.gone → w.seen.ticks + 1 ≡ w.seen.columns
      → point_of (step ours tick w) ≡ w.seen.released
  unfolding step
  at_expiry v few some last =
      tick_either S w v (omega arith) (λ s g. g.released + s.counters.point ≡ w.seen.released) (λ none. absurd (omega arith))
      (λ _ no. absurd (no last)) (λ _ _ _. omega arith) (λ _ _ two. absurd (omega arith))
