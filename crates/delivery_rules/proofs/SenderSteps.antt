-- An offer and a send of our sender keep what holds at every moment.
-- Assumes nothing.
use mathlib.Core.Path.{◌≡◌, sym, ◌∙◌, ap, subst}
use mathlib.Core.Bool.{true}
use mathlib.Core.List.{List, [], ◌∷◌, ◌++◌}
use Prim.Native.Nat.{ℕ, ◌+◌, ◌%◌, ◌≤◌, ◌<◌}
use native.Mathlib.Omega.{arith}
use native.Mathlib.Decide.{dec_lt}
use lib.Dec.{ltb}
use lib.ListN.{length, get_or, length-append, get_or-append}
use lib.Seq.{take-append-le, get_or-append_seam}
use borrow.Author.Tests.{ltb-true, ltb-false, lt-ltb, eq-eqb, ne_eqb}
use Rattle.laws.proofs.Cases.{by_test, both_true, cond_true, cond_false}
use Rattle.retry_rules.specs.declared.Sender.{Sender}
use Rattle.retry_rules.specs.States.{sender_rule, slot_of, Eight}
use Rattle.retry_rules.specs.Lent.{Content, laid, buffer_at, held_bytes, held_content}
use Rattle.retry_rules.specs.Offer.{free_slot, stored_in, offer_of}
use Rattle.retry_rules.specs.Send.{to_send, due_slot, send_point, one_sent}
use Rattle.retry_rules.specs.Calls.{SenderCall}
use Rattle.retry_rules.proofs.Laid.{laid_length, buffers_apart}
use Rattle.retry_rules.proofs.Held.{stores, keeps_stored}
use Rattle.retry_rules.proofs.Seen.{Offers}
use Rattle.retry_rules.proofs.Kept.{offer_kept, eight_after, send_kept}
use Rattle.delivery_rules.specs.Ends.{Item, segment, damaged, Offering, Sending}
use Rattle.delivery_rules.specs.Outside.{is_next, gone_with}
use Rattle.delivery_rules.specs.Model.{World, offered, sent}
use Rattle.delivery_rules.specs.Demand.{no_content, Good}
use Rattle.delivery_rules.specs.Ours.{ours}
use Rattle.delivery_rules.proofs.Round.{other_number, same_number}
use Rattle.delivery_rules.proofs.Lines.{weaken, lower, snoc}
use Rattle.delivery_rules.proofs.Seeing.{not_second}
use Rattle.delivery_rules.proofs.Calls.{taken, offer_either, goes, send_either}
use Rattle.delivery_rules.proofs.Invariant.{IsItem, Inv, numbers}

-- one more accepted: what stood at a place stands there
pub grown : (acc : List Content) (x : Content) (a : Item) (j : ℕ) → j < length acc → IsItem acc a j → IsItem (acc ++ x ∷ []) a j
grown acc x (segment k y) j h t = (t.0, t.1 ∙ sym (get_or-append acc (x ∷ []) no_content j h))
grown acc x damaged j h t = t

module _ (S : ℕ) (w : World ours) (v : Inv S w) where
  -- an offer that is accepted
  taken_inv :
      (x : Content) → Offers w.sender (length w.buffers) x.channel (length x.bytes)
      → sender_rule (taken w.sender w.buffers x).state ≡ true → Eight (taken w.sender w.buffers x).state
      → Inv S (offered ours w x (taken w.sender w.buffers x))
  taken_inv x o rule eight =
      let s = w.sender in
      let c = s.counters in
      let g = w.seen in
      let acc = g.accepted in
      let n = (numbers s v.rule).numbers in
      let u = v.counts in
      let f = v.follows in
      let free = o.free in
      let inside : buffer_at s (free_slot c) + length x.bytes ≤ length w.buffers =
      omega (arith, buffers_apart c.size (free_slot c) 8 (omega arith), o.buffers, o.most) in
      let fits : Good c.size x = record { channel_lt = o.channel_lt; some = o.some; most = o.most } in
      let more : length (acc ++ x ∷ []) ≡ length acc + 1 = length-append acc (x ∷ []) in
      let fits_s : Good S x = subst (λ (z : ℕ). Good z x) v.size fits in
      record {
        rule = rule;
        eight = eight;
        size = v.size;
        lent = laid_length w.buffers (buffer_at s (free_slot c)) x.bytes inside ∙ v.lent;
        receives = v.receives;
        receiver_size = v.receiver_size;
        counts = omega arith;
        follows = omega arith;
        prefix = v.prefix ∙ sym (take-append-le (length g.delivered) acc (x ∷ []) (omega arith));
        good = λ j h.
            elim (dec_lt j (length acc)) [
              | yes p ↦
                  subst (Good S) (sym (get_or-append acc (x ∷ []) no_content j p)) (v.good j p)
              | no p ↦
                  let y : length acc ≡ j = omega (arith, more, h) in
                  subst (Good S)
                  (sym (get_or-append_seam acc x [] no_content) ∙ ap (λ (k : ℕ). get_or (acc ++ x ∷ []) k no_content) y) fits_s
            ];
        holds_it = λ i h.
            elim (dec_lt i c.stored) [
              | yes p ↦
                  keeps_stored s w.buffers x.channel x.bad x.bytes v.eight o i p ∙ v.holds_it i p
                  ∙ sym (get_or-append acc (x ∷ []) no_content (g.released + i) (omega arith))
              | no p ↦
                  let last : i ≡ c.stored = omega arith in
                  let y : g.released + i ≡ length acc = omega arith in
                  ap
                  (λ (k : ℕ).
                  held_content (stored_in s x.channel x.bad (length x.bytes))
                  (laid w.buffers (buffer_at s (free_slot c)) x.bytes) (slot_of c k))
                  last
                  ∙ stores s w.buffers x.channel x.bad x.bytes v.eight o
                  ∙ sym (get_or-append_seam acc x [] no_content)
                  ∙ ap (λ (k : ℕ). get_or (acc ++ x ∷ []) k no_content) (sym y)
            ];
        items = weaken (λ a j h t. grown acc x a j (omega arith) t) (omega arith) (omega arith) v.items;
        replies = v.replies;
      }

  pub offer_inv : (x : Content) → Inv S (offered ours w x (ours.offer w.sender w.buffers x))
  unfolding offer_of
  offer_inv x =
      offer_either w.sender w.buffers x
      (λ (a : Offering Sender). sender_rule a.state ≡ true → Eight a.state → Inv S (offered ours w x a))
      (λ o rule eight. taken_inv x o rule eight) (λ _ _ _. v)
      (offer_kept w.sender (length w.buffers) x.channel x.bad (length x.bytes) v.eight v.rule)
      (eight_after w.sender (SenderCall.offer (length w.buffers) x.channel x.bad (length x.bytes)) v.eight)

  -- what is seen to have gone out once the segment at the send point goes
  pub gone_is :
      to_send w.sender.counters ≡ true
      → gone_with w.seen (send_point w.sender.counters) ≡ w.seen.released + (one_sent w.sender.counters).outstanding
  unfolding gone_with
  gone_is t =
      let c = w.sender.counters in
      let g = w.seen in
      let n = (numbers w.sender v.rule).numbers in
      let u = v.counts in
      let lt = ltb-true c.point c.stored t in
      let few : c.outstanding ≤ 8 = omega arith in
      by_test (ltb c.point c.outstanding)
      (λ p.
      let again = ltb-true c.point c.outstanding p in
      let no = ne_eqb (send_point c) (g.gone % 16) (λ q. other_number g.released c.point c.outstanding again few
      (ap (λ (k : ℕ). (k + c.point) % 16) (sym u.oldest) ∙ q ∙ ap (λ (k : ℕ). k % 16) u.outstanding)) in
      cond_false (is_next g (send_point c)) (g.gone + 1) g.gone (not_second (ltb g.gone (length g.accepted)) _ no) ∙ omega arith)
      (λ p.
      let next = ltb-false c.point c.outstanding p in
      let at : c.point ≡ c.outstanding = omega arith in
      let yes = eq-eqb (send_point c) (g.gone % 16) (ap (λ (k : ℕ). (k + c.point) % 16) u.oldest ∙ same_number g.released c.point
      ∙ ap (λ (k : ℕ). (g.released + k) % 16) at ∙ ap (λ (k : ℕ). k % 16) (sym u.outstanding)) in
      cond_true (is_next g (send_point c)) (g.gone + 1) g.gone
      (both_true (ltb g.gone (length g.accepted)) _ (lt-ltb g.gone (length g.accepted) (omega arith)) yes)
      ∙ omega arith)

  -- the segment at the send point is one that was accepted
  pub due_is :
      w.sender.counters.point < w.sender.counters.stored
      → held_content w.sender w.buffers (due_slot w.sender.counters)
      ≡ get_or w.seen.accepted (w.seen.released + w.sender.counters.point) no_content
  due_is h = v.holds_it w.sender.counters.point h

  goes_inv :
      to_send w.sender.counters ≡ true → sender_rule (goes w.sender w.buffers).state ≡ true
      → Inv S (sent ours w (goes w.sender w.buffers))
  unfolding held_content held_bytes
  goes_inv t rule =
      let c = w.sender.counters in
      let g = w.seen in
      let n = (numbers w.sender v.rule).numbers in
      let u = v.counts in
      let f = v.follows in
      let lt = ltb-true c.point c.stored t in
      let gone = gone_is t in
      record {
        rule = rule;
        eight = record { slots = v.eight.slots };
        size = v.size;
        lent = v.lent;
        receives = v.receives;
        receiver_size = v.receiver_size;
        counts = omega arith;
        follows = omega arith;
        prefix = v.prefix;
        good = v.good;
        holds_it = v.holds_it;
        items =
            snoc (segment (send_point c) (held_content w.sender w.buffers (due_slot c))) (g.released + c.point)
            (ap (λ (k : ℕ). (k + c.point) % 16) u.oldest ∙ same_number g.released c.point, due_is lt)
            (omega arith) (omega arith) (omega arith) (lower (omega arith) (omega arith) v.items);
        replies = v.replies;
      }

  pub send_inv : (output : List ℕ) → Inv S (sent ours w (ours.send w.sender w.buffers output))
  send_inv output =
      send_either w.sender w.buffers output (λ (a : Sending Sender). sender_rule a.state ≡ true → Inv S (sent ours w a))
      (λ _ t rule. goes_inv t rule) (λ _ _. v)
      (send_kept w.sender (length w.buffers) (length output) v.rule)
