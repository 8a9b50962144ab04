-- The sender's counters are what a host can write down from its calls and what it was told: after every list of calls from fresh.
-- Assumes nothing.
use mathlib.Core.Path.{◌≡◌, refl, sym, ◌∙◌, ap, subst}
use mathlib.Core.Bool.{Bool, true, false, cond}
use mathlib.Core.List.{List, [], ◌∷◌}
use Prim.Native.Nat.{ℕ, ◌+◌, ◌-◌, ◌%◌, ◌≤◌, ◌<◌, min}
use native.Mathlib.Omega.{arith}
use native.Mathlib.Nat.{add-zero}
use lib.Dec.{ltb, leb, eqb}
use borrow.Author.Tests.{ltb-true, leb-true, eqb-true, eqb-false, ne_eqb, eq-eqb, lt-ltb, le-ltb}
use Rattle.laws.proofs.Cases.{by_cases, by_both, cond_false, false_is_not_true, first_true, second_true}
use Rattle.retry_rules.specs.declared.Counters.{Counters}
use Rattle.retry_rules.specs.declared.Sender.{Sender}
use Rattle.retry_rules.specs.Answers.{Answered, Offered, Sent, Ticked}
use Rattle.retry_rules.specs.Numbers.{time_allowed}
use Rattle.segment_size.specs.Sizes.{size_allowed}
use Rattle.retry_rules.specs.States.{sender_rule, Eight}
use Rattle.retry_rules.specs.Offer.{one_stored, offer_checks, offer_of}
use Rattle.retry_rules.specs.Send.{to_send, send_point, one_sent, send_checks, send_of}
use Rattle.retry_rules.specs.Reply.{timer_at, heard, to_oldest, restarted, one_released, sender_checks, reply_checks, reply_of, damaged_reply_of}
use Rattle.retry_rules.specs.Tick.{expired, fallen, ticked, tick_of}
use Rattle.retry_rules.specs.Fresh.{reset_checks, reset_of}
use Rattle.retry_rules.specs.Refused.{refused_sender, refused_offer, refused_send, refused_tick}
use Rattle.retry_rules.specs.Calls.{SenderCall, offer, send, reply, damaged_reply, tick, reset, Told, only_refusal, offer_tells, send_tells, tick_tells, sender_called, sender_tells, our_sender}
use Rattle.retry_rules.specs.Ledger.{Ledger, blank, waits_for_reply, oldest_number, one_accepted, one_out, timed, entry, entered, sender_after, ledger_after}
use Rattle.refusal.proofs.Outcomes.{either_way}
use Rattle.retry_rules.proofs.Rules.{Numbers}
use Rattle.retry_rules.proofs.Seen.{sender_seen, reply_seen, send_seen, Begins}
use Rattle.retry_rules.proofs.Kept.{offer_kept, send_kept, reply_kept, damaged_reply_kept, tick_kept, reset_kept, fresh_sender_kept, eight_after}
use Rattle.retry_rules.proofs.Done.{fresh_sender_done}
use Rattle.retry_rules.proofs.Steps.{heard_cases, ticked_cases}

-- the counters and the ledger
pub record Agrees (c : Counters) (l : Ledger) : Type 0 where
  pub columns : c.columns ≡ l.columns
  pub size : c.size ≡ l.size
  pub stored : l.accepted ≡ l.released + c.stored
  pub outstanding : l.out ≡ l.released + c.outstanding
  pub oldest : c.oldest ≡ l.released % 16
  pub released : c.released ≡ min l.released 8
  pub timer : c.timer + l.ticks ≡ l.columns
  pub expiries : c.expiries ≡ l.expiries

stored_agrees : (c : Counters) (l : Ledger) → Agrees c l → Agrees (one_stored c) (one_accepted l)
stored_agrees c l a = omega arith

-- numbers that go round
pub wraps : (r p : ℕ) → (r % 16 + p) % 16 ≡ (r + p) % 16
wraps r p = omega arith

same_place : (r p g : ℕ) → p ≤ g → g ≤ 8 → (r % 16 + p) % 16 ≡ (r + g) % 16 → p ≡ g
same_place r p g h₁ h₂ q = omega arith

first_time : (c : Counters) (l : Ledger) → Agrees c l → c.point ≡ c.outstanding → Agrees (one_sent c) (one_out l)
first_time c l a p = omega arith

again : (c : Counters) (l : Ledger) → Agrees c l → c.point < c.outstanding → Agrees (one_sent c) l
again c l a p = omega arith

not_last : (p g : ℕ) → p ≤ g → (p ≡ g → ⊥) → p < g
not_last p g h q = omega arith

-- a segment goes out; it is the first time if its number is the next
sent_agrees :
    (c : Counters) (l : Ledger) → Numbers c → c.point < c.stored → Agrees c l
    → Agrees (one_sent c) (cond (eqb (send_point c) (l.out % 16)) (one_out l) l)
sent_agrees c l n h a =
    let le = n.point_le in
    let number : send_point c ≡ (l.released % 16 + c.point) % 16 = ap (λ (o : ℕ). (o + c.point) % 16) a.oldest in
    let next : l.out % 16 ≡ (l.released + c.outstanding) % 16 = ap (λ (o : ℕ). o % 16) a.outstanding in
    by_cases (Agrees (one_sent c)) (eqb (send_point c) (l.out % 16))
    (λ t.
    let last = same_place l.released c.point c.outstanding le (omega (arith, n.outstanding_le, n.stored_le))
    (sym number ∙ eqb-true (send_point c) (l.out % 16) t ∙ next) in
    first_time c l a last)
    (λ t.
    let before : c.point < c.outstanding = not_last c.point c.outstanding le
    (λ p. eqb-false (send_point c) (l.out % 16) t (number ∙ wraps l.released c.point ∙ ap (λ (m : ℕ). (l.released + m) % 16) p ∙ sym next)) in
    again c l a before)

-- a reply: what is written down of it
module _ (d : Counters) (l : Ledger) (nack : Bool) (k : ℕ) (told : Told) where
  clears :
      waits_for_reply l ≡ true → eqb k (oldest_number l) ≡ true → Agrees d (timed 0 0 (cond nack 0 1) l) → Agrees d (entry l (reply nack k) told)
  clears p q a =
      by_both (Agrees d) (waits_for_reply l) (eqb k (oldest_number l)) (λ _ _. a) (λ t. absurd (false_is_not_true (sym t ∙ p)))
      (λ t. absurd (false_is_not_true (sym t ∙ q)))

  keeps_idle : waits_for_reply l ≡ false → Agrees d l → Agrees d (entry l (reply nack k) told)
  keeps_idle p a =
      by_both (Agrees d) (waits_for_reply l) (eqb k (oldest_number l)) (λ t _. absurd (false_is_not_true (sym p ∙ t))) (λ _. a) (λ _. a)

  keeps_other : eqb k (oldest_number l) ≡ false → Agrees d l → Agrees d (entry l (reply nack k) told)
  keeps_other p a =
      by_both (Agrees d) (waits_for_reply l) (eqb k (oldest_number l)) (λ _ t. absurd (false_is_not_true (sym p ∙ t))) (λ _. a) (λ _. a)

heard_agrees :
    (c : Counters) (l : Ledger) (nack : Bool) (k : ℕ) (told : Told) → Numbers c → Agrees c l
    → Agrees (heard c nack k) (entry l (reply nack k) told)
heard_agrees c l nack k told n a =
    let waits : 0 < c.outstanding → waits_for_reply l ≡ true = λ h. lt-ltb l.released l.out (omega (arith, a.outstanding)) in
    let oldest : k ≡ c.oldest → eqb k (oldest_number l) ≡ true = λ p. eq-eqb k (oldest_number l) (p ∙ a.oldest) in
    let other : (k ≡ c.oldest → ⊥) → eqb k (oldest_number l) ≡ false = λ p. ne_eqb k (oldest_number l) (λ q. p (q ∙ sym a.oldest)) in
    heard_cases (λ d. Agrees d (entry l (reply nack k) told)) c nack k
    (λ z. keeps_idle c l nack k told (le-ltb l.released l.out (omega (arith, a.outstanding))) a)
    (λ some u p. clears (to_oldest (restarted c)) l nack k told (waits some) (oldest p)
    (subst (λ (b : Bool). Agrees (to_oldest (restarted c)) (timed 0 0 (cond b 0 1) l)) (sym u) (omega arith)))
    (λ some u p. keeps_other (to_oldest c) l nack k told (other p) (omega arith))
    (λ some u p. clears (restarted (one_released c)) l nack k told (waits some) (oldest p)
    (subst (λ (b : Bool). Agrees (restarted (one_released c)) (timed 0 0 (cond b 0 1) l)) (sym u) (omega arith)))
    (λ some u p v. keeps_other c l nack k told (other p) a) (λ some u p v. keeps_other (to_oldest c) l nack k told (other p) (omega arith))

-- a tick: idle, running, an expiry
module _ (d : Counters) (l : Ledger) (told : Told) where
  idle_tick : waits_for_reply l ≡ false → Agrees d l → Agrees d (entry l tick told)
  idle_tick p a = by_cases (Agrees d) (waits_for_reply l) (λ t. absurd (false_is_not_true (sym p ∙ t))) (λ _. a)

  run_tick :
      waits_for_reply l ≡ true → (l.ticks + 1 ≡ l.columns → ⊥) → Agrees d (timed (l.ticks + 1) l.expiries 0 l) → Agrees d (entry l tick told)
  run_tick p q a =
      by_cases (Agrees d) (waits_for_reply l)
      (λ _. by_cases (Agrees d) (eqb (l.ticks + 1) l.columns) (λ t. absurd (q (eqb-true (l.ticks + 1) l.columns t))) (λ _. a))
      (λ t. absurd (false_is_not_true (sym t ∙ p)))

  expiry_tick :
      waits_for_reply l ≡ true → l.ticks + 1 ≡ l.columns → Agrees d (timed 0 (l.expiries + 1) 0 l) → Agrees d (entry l tick told)
  expiry_tick p q a =
      by_cases (Agrees d) (waits_for_reply l)
      (λ _. by_cases (Agrees d) (eqb (l.ticks + 1) l.columns) (λ _. a) (λ t. absurd (eqb-false (l.ticks + 1) l.columns t q)))
      (λ t. absurd (false_is_not_true (sym t ∙ p)))

ticked_agrees : (c : Counters) (l : Ledger) (told : Told) → Numbers c → Agrees c l → Agrees (ticked c) (entry l tick told)
ticked_agrees c l told n a =
    let waits : 0 < c.outstanding → waits_for_reply l ≡ true = λ h. lt-ltb l.released l.out (omega (arith, a.outstanding)) in
    let pos = n.timer_pos in
    ticked_cases (λ d. Agrees d (entry l tick told)) c
    (λ z. idle_tick c l told (le-ltb l.released l.out (omega (arith, a.outstanding))) a)
    (λ some more. run_tick (timer_at (c.timer - 1) c.expiries c) l told (waits some) (λ q. more (omega (arith, a.timer))) (omega arith))
    (λ some one few. expiry_tick (to_oldest (expired c)) l told (waits some) (omega (arith, a.timer)) (omega arith))
    (λ some one two. expiry_tick (fallen (expired c)) l told (waits some) (omega (arith, a.timer)) (omega arith))

-- a sender and a ledger of it
pub record Honest (s : Sender) (l : Ledger) : Type 0 where
  pub rule : sender_rule s ≡ true
  pub eight : Eight s
  pub agrees : Agrees s.counters l

module _ (s : Sender) (l : Ledger) (h : Honest s l) where
  -- a refused call leaves both
  refused_same : (c : SenderCall) (told : Told) → (told.refusal ≡ 0 → ⊥) → Agrees s.counters (entered l c told)
  refused_same c told p =
      subst (Agrees s.counters) (sym (cond_false (eqb told.refusal 0) (entry l c told) l (ne_eqb told.refusal 0 p))) h.agrees

  agrees_after : (c : SenderCall) → Agrees (sender_called s c).counters (entered l c (sender_tells s c))
  unfolding offer_of send_of reply_of damaged_reply_of tick_of reset_of
  agrees_after (offer lent channel bad n) =
      either_way (offer_checks s lent channel n)
      (λ (a : Offered). Agrees a.sender.counters (entered l (offer lent channel bad n) (offer_tells a))) (refused_offer s) _
      (λ _. stored_agrees s.counters l h.agrees) (refused_same (offer lent channel bad n) (only_refusal _))
  agrees_after (send lent output) =
      let P : Sent → Type 0 = λ a. Agrees a.sender.counters
      (entered l (send lent output) (send_tells a)) in
      either_way (send_checks s lent output) P (refused_send s) _
      (λ p.
      let n = (send_seen s lent output p).sound.rule.numbers in
      by_cases P (to_send s.counters)
      (λ t. sent_agrees s.counters l n (ltb-true s.counters.point s.counters.stored t) h.agrees) (λ _. h.agrees))
      (refused_same (send lent output) (only_refusal _))
  agrees_after (reply nack k) =
      either_way (reply_checks s k)
      (λ (a : Answered). Agrees a.sender.counters (entered l (reply nack k) (only_refusal a.refusal))) (refused_sender s) _
      (λ p. heard_agrees s.counters l nack k (only_refusal 0) (reply_seen s k p).sound.rule.numbers h.agrees)
      (refused_same (reply nack k) (only_refusal _))
  agrees_after damaged_reply =
      either_way (sender_checks s)
      (λ (a : Answered). Agrees a.sender.counters (entered l damaged_reply (only_refusal a.refusal))) (refused_sender s) _
      (λ p. h.agrees) (refused_same damaged_reply (only_refusal _))
  agrees_after tick =
      either_way (sender_checks s)
      (λ (a : Ticked). Agrees a.sender.counters (entered l tick (tick_tells a))) (refused_tick s) _
      (λ p. ticked_agrees s.counters l (only_refusal 0) (sender_seen s p).rule.numbers h.agrees) (refused_same tick (only_refusal _))
  agrees_after (reset t size) =
      either_way (reset_checks s t size)
      (λ (a : Answered). Agrees a.sender.counters (entered l (reset t size) (only_refusal a.refusal))) (refused_sender s) _
      (λ p. record {
        columns = refl;
        size = refl;
        stored = refl;
        outstanding = refl;
        oldest = refl;
        released = refl;
        timer = add-zero t;
        expiries = refl;
      })
      (refused_same (reset t size) (only_refusal _))

  rule_after : (c : SenderCall) → sender_rule (sender_called s c) ≡ true
  rule_after (offer lent channel bad n) = offer_kept s lent channel bad n h.eight h.rule
  rule_after (send lent output) = send_kept s lent output h.rule
  rule_after (reply nack k) = reply_kept s nack k h.rule
  rule_after damaged_reply = damaged_reply_kept s h.rule
  rule_after tick = tick_kept s h.rule
  rule_after (reset t size) = reset_kept s t size h.rule

  pub honest_after : (c : SenderCall) → Honest (sender_called s c) (entered l c (sender_tells s c))
  honest_after c = record { rule = rule_after c; eight = eight_after s c h.eight; agrees = agrees_after c }

-- all of a list, and from fresh
pub honest_calls :
    (s : Sender) (l : Ledger) → Honest s l → (cs : List SenderCall) → Honest (sender_after our_sender s cs) (ledger_after our_sender s l cs)
unfolding sender_after ledger_after
honest_calls s l h [] = h
honest_calls s l h (c ∷ cs) =
    honest_calls (sender_called s c) (entered l c (sender_tells s c)) (honest_after s l h c) cs

pub honest_fresh : (t s : ℕ) → time_allowed t ≡ true → size_allowed s ≡ true → Honest (our_sender.fresh t s) (blank t s)
honest_fresh t s p q =
    let b : Begins t s = record {
      some = ltb-true 0 t (first_true (ltb 0 t) (leb t 65535) p);
      most = leb-true t 65535 (second_true (ltb 0 t) (leb t 65535) p);
      size = q;
    } in
    let k = fresh_sender_kept t s (ap (λ a. a.refusal) (fresh_sender_done t s b)) in
    record {
      rule = k.1;
      eight = k.2;
      agrees = subst (λ (x : Sender). Agrees x.counters (blank t s)) (sym k.0) (record {
        columns = refl;
        size = refl;
        stored = refl;
        outstanding = refl;
        oldest = refl;
        released = refl;
        timer = add-zero t;
        expiries = refl;
      });
    }
