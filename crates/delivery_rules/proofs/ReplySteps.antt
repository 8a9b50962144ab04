-- A reply and a tick at our sender keep what holds at every moment.
-- Assumes nothing.
use mathlib.Core.Path.{◌≡◌, refl, sym, ◌∙◌, subst}
use mathlib.Core.Bool.{true, false}
use mathlib.Core.List.{List, [], ◌∷◌}
use Prim.Native.Nat.{ℕ, suc, ◌+◌, ◌-◌, ◌%◌, ◌<◌}
use native.Mathlib.Omega.{arith}
use lib.Dec.{ltb}
use lib.ListN.{length}
use borrow.Author.Tests.{ltb-true, ltb-false}
use Rattle.laws.proofs.Cases.{by_test, false_is_not_true}
use Rattle.retry_rules.specs.declared.Counters.{Counters}
use Rattle.retry_rules.specs.declared.Sender.{Sender}
use Rattle.retry_rules.specs.States.{slot_of, sender_rule}
use Rattle.retry_rules.specs.Lent.{held_bytes, held_content}
use Rattle.retry_rules.specs.Reply.{to_oldest, restarted, one_released, heard, with_counters}
use Rattle.retry_rules.specs.Tick.{tick_of}
use Rattle.retry_rules.proofs.Seen.{Hears}
use Rattle.retry_rules.proofs.Steps.{heard_cases}
use Rattle.retry_rules.proofs.Kept.{reply_kept, tick_kept}
use Rattle.delivery_rules.specs.Ends.{Reply, ack, nack, damaged_reply}
use Rattle.delivery_rules.specs.Outside.{Seen, seen_with, seen_reply, seen_tick}
use Rattle.delivery_rules.specs.Model.{World, told, hears}
use Rattle.delivery_rules.specs.Ours.{hearing, ours}
use Rattle.delivery_rules.proofs.Round.{near_is, next_slot}
use Rattle.delivery_rules.proofs.Lines.{Line, lower, tail, first}
use Rattle.delivery_rules.proofs.Seeing.{stands, is_down_lem, unheard, unticked, other_ack, other_nack, own_ack, own_nack}
use Rattle.delivery_rules.proofs.Calls.{ack_heard, nack_heard, damaged_heard, down_reply, down_tick}
use Rattle.delivery_rules.proofs.Ticks.{tick_either}
use Rattle.delivery_rules.proofs.Invariant.{IsAck, IsIdle, Inv, numbers, up, down, retimed, retimed_inv}

module _ (S : ℕ) (w : World ours) (v : Inv S w) where
  abbrev Replies : List Reply → Type 0
  Replies l = Line IsAck IsIdle (length w.seen.delivered) w.seen.released l

  -- a reply that changes nothing, or moves the send point to the oldest
  same_inv : (rest : List Reply) → Replies rest → Inv S (told ours w w.sender rest w.seen)
  same_inv rest l =
      let c = w.sender.counters in
      retimed_inv S w v c.point c.timer c.expiries c.link w.seen.ticks w.seen.expiries rest v.counts.timer
      v.counts.expiries l v.rule

  moved_inv :
      (rest : List Reply) → Replies rest → sender_rule (with_counters w.sender (to_oldest w.sender.counters)) ≡ true
      → Inv S (told ours w (with_counters w.sender (to_oldest w.sender.counters)) rest w.seen)
  moved_inv rest l rule =
      let c = w.sender.counters in
      retimed_inv S w v 0 c.timer c.expiries c.link w.seen.ticks w.seen.expiries rest v.counts.timer
      v.counts.expiries l rule

  -- the oldest is released
  released_inv :
      (rest : List Reply) → 0 < w.sender.counters.outstanding → w.seen.released < length w.seen.delivered
      → Line IsAck IsIdle (length w.seen.delivered) (suc w.seen.released) rest
      → sender_rule (with_counters w.sender (restarted (one_released w.sender.counters))) ≡ true
      → Inv S
      (told ours w (with_counters w.sender (restarted (one_released w.sender.counters))) rest
      (seen_with w.seen w.seen.gone (w.seen.released + 1) 0 0))
  unfolding held_content held_bytes
  released_inv rest some lt l rule =
      let c = w.sender.counters in
      let g = w.seen in
      let n = (numbers w.sender v.rule).numbers in
      let u = v.counts in
      let f = v.follows in
      record {
        rule = rule;
        eight = record { slots = v.eight.slots };
        size = v.size;
        lent = v.lent;
        receives = v.receives;
        receiver_size = v.receiver_size;
        counts = omega arith;
        follows = omega arith;
        prefix = v.prefix;
        good = v.good;
        holds_it = λ i h.
            let q : g.released + 1 + i ≡ g.released + (1 + i) = omega arith in
            let slot : slot_of (one_released c) i ≡ slot_of c (1 + i) = next_slot c.oldest i in
            rw (q, slot) (v.holds_it (1 + i) (omega arith));
        items = lower (omega arith) (omega arith) v.items;
        replies = lower (omega arith) (omega arith) l;
      }

  module _ (h : w.seen.expiries < 3) (rest : List Reply) where
    ack_inv : (k : ℕ) → Replies (ack k ∷ rest) → Inv S (told ours w (hearing w.sender (ack k)) rest (seen_reply w.seen (ack k)))
    unfolding hearing
    ack_inv k l =
        let s = w.sender in
        let c = s.counters in
        let g = w.seen in
        let n = (numbers s v.rule).numbers in
        let u = v.counts in
        let f = v.follows in
        let a = first (λ q. q) l in
        let is : k ≡ a.j % 16 = a.stands in
        let hears_it : Hears s k = record { sound = up S w v h; number_lt = omega arith } in
        let P : Counters → Type 0 = λ d. sender_rule (with_counters s d) ≡ true → Inv S (told ours w (with_counters s d) rest (seen_reply g (ack k))) in
        let other : (k ≡ c.oldest → ⊥) → seen_reply g (ack k) ≡ g = λ ne. other_ack g k (λ q. ne (q ∙ sym u.oldest)) in
        let all : P (heard c false k) =
        heard_cases P c false k (λ none _. rw (unheard g (ack k) (stands g (omega arith))) (same_inv rest (tail l)))
        (λ _ q. absurd (false_is_not_true q)) (λ _ q. absurd (false_is_not_true q))
        (λ some _ eq rule.
        let mine : k ≡ g.released % 16 = eq ∙ u.oldest in
        let low : a.j < g.released + 8 = omega arith in
        let j_is = near_is a.j g.released a.near low (sym is ∙ mine) in
        rw (own_ack g h (omega arith) k mine)
        (released_inv rest some (omega arith) (lower (omega arith) (omega arith) a.rest) rule))
        (λ _ _ ne _ _. rw (other ne) (same_inv rest (tail l))) (λ _ _ ne _ rule. rw (other ne) (moved_inv rest (tail l) rule)) in
        rw (ack_heard s k hears_it) (all (subst (λ (d : Sender). sender_rule d ≡ true) (ack_heard s k hears_it) (reply_kept s false k v.rule)))

    nack_inv : (k : ℕ) → Replies (nack k ∷ rest) → k < 16 → Inv S (told ours w (hearing w.sender (nack k)) rest (seen_reply w.seen (nack k)))
    unfolding hearing
    nack_inv k l lt =
        let s = w.sender in
        let c = s.counters in
        let g = w.seen in
        let u = v.counts in
        let hears_it : Hears s k = record { sound = up S w v h; number_lt = lt } in
        let P : Counters → Type 0 = λ d. sender_rule (with_counters s d) ≡ true → Inv S (told ours w (with_counters s d) rest (seen_reply g (nack k))) in
        let all : P (heard c true k) =
        heard_cases P c true k (λ none _. rw (unheard g (nack k) (stands g (omega arith))) (same_inv rest (tail l)))
        (λ some _ eq rule.
        rw (own_nack g h (omega arith) k (eq ∙ u.oldest))
        (retimed_inv S w v 0 c.columns 0 c.link 0 0 rest (omega arith) refl (tail l) rule))
        (λ _ _ ne rule. rw (other_nack g k (λ q. ne (q ∙ sym u.oldest))) (moved_inv rest (tail l) rule))
        (λ _ q. absurd (false_is_not_true (sym q))) (λ _ q. absurd (false_is_not_true (sym q))) (λ _ q. absurd (false_is_not_true (sym q))) in
        rw (nack_heard s k hears_it) (all (subst (λ (d : Sender). sender_rule d ≡ true) (nack_heard s k hears_it) (reply_kept s true k v.rule)))

    heard_inv : (y : Reply) → Replies (y ∷ rest) → Inv S (told ours w (hearing w.sender y) rest (seen_reply w.seen y))
    unfolding seen_reply
    heard_inv (ack k) l = ack_inv k l
    heard_inv (nack k) l = nack_inv k l (idle_lt l)
      where
        idle_lt : {U b : ℕ} → Line IsAck IsIdle U b (nack k ∷ rest) → k < 16
        idle_lt (Line.skip q r) = q
        idle_lt (Line.item j x lo hi r) = absurd x
    heard_inv damaged_reply l = rw (damaged_heard w.sender) (same_inv rest (tail l))

  pub hears_inv : (l : List Reply) → Replies l → Inv S (hears ours w l)
  hears_inv [] l = v
  hears_inv (y ∷ rest) l =
      by_test (ltb w.seen.expiries 3) (λ t. heard_inv (ltb-true w.seen.expiries 3 t) rest y l)
      (λ t.
      let three = ltb-false w.seen.expiries 3 t in
      rw (down_reply w.sender (down S w v three) y, unheard w.seen y (is_down_lem w.seen three)) (same_inv rest (tail l)))

  -- ticks
  ticked_inv : w.seen.expiries < 3 → Inv S (told ours w (tick_of w.sender).sender w.backward (seen_tick w.seen))
  ticked_inv h =
      let c = w.sender.counters in
      let g = w.seen in
      let n = (numbers w.sender v.rule).numbers in
      let u = v.counts in
      let P : Sender → Seen → Type 0 = λ s g. sender_rule s ≡ true → Inv S (told ours w s w.backward g) in
      let expires : (point link : ℕ) (rule : sender_rule (retimed S w v point c.columns (c.expiries + 1) link) ≡ true)
      → Inv S
      (told ours w (retimed S w v point c.columns (c.expiries + 1) link) w.backward
      (seen_with g g.gone g.released 0 (g.expiries + 1))) = λ point link rule.
      retimed_inv S w v point c.columns (c.expiries + 1) link 0 (g.expiries + 1) w.backward (omega arith) (omega arith) v.replies rule in
      tick_either S w v h P (λ _ _. v)
      (λ _ _ rule. retimed_inv S w v c.point (c.timer - 1) c.expiries c.link (g.ticks + 1) g.expiries w.backward (omega arith)
      u.expiries v.replies rule)
      (λ _ _ _ rule. expires 0 c.link rule) (λ _ _ _ rule. expires c.point 2 rule) (tick_kept w.sender v.rule)

  pub tick_inv : Inv S (told ours w (tick_of w.sender).sender w.backward (seen_tick w.seen))
  tick_inv =
      by_test (ltb w.seen.expiries 3) (λ t. ticked_inv (ltb-true w.seen.expiries 3 t))
      (λ t.
      let three = ltb-false w.seen.expiries 3 t in
      rw (down_tick w.sender (down S w v three), unticked w.seen (is_down_lem w.seen three)) (same_inv w.backward v.replies))
