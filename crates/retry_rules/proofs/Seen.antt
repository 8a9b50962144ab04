-- What a call that is not refused has seen, and that what is so seen is not refused.
-- Assumes nothing.
use mathlib.Core.Path.{◌≡◌, refl, sym, ap, subst}
use mathlib.Core.Bool.{Bool, true, false, not, ◌&&◌}
use mathlib.Core.List.{List}
use Prim.Native.Nat.{ℕ, ◌*◌, ◌≤◌, ◌<◌}
use native.Mathlib.Omega.{arith}
use lib.Dec.{T, ltb, leb, eqb}
use borrow.Author.Tests.{ltb-true, ltb-false, leb-true, eqb-true, eqb-false, lt-ltb, le-ltb, le-leb, eq-eqb, ne_eqb, not-false}
use Rattle.laws.proofs.Bools.{T_true, true_t}
use Rattle.laws.proofs.Cases.{both_true, first_true, second_true, false_is_not_true}
use Rattle.refusal.specs.Order.{Check, refusal_of}
use Rattle.retry_rules.specs.declared.Sender.{Sender}
use Rattle.retry_rules.specs.declared.Receiver.{Receiver}
use Rattle.retry_rules.specs.Numbers.{time_allowed}
use Rattle.segment_size.specs.Sizes.{size_allowed}
use Rattle.retry_rules.specs.States.{is_down, counters_rule, slots_rule, sender_rule, buffers_rule, receiver_rule}
use Rattle.retry_rules.specs.Fresh.{fresh_checks, size_checks, reset_checks}
use Rattle.retry_rules.specs.Lent.{held_length}
use Rattle.retry_rules.specs.Offer.{offer_checks}
use Rattle.retry_rules.specs.Send.{to_send, due_slot, send_checks}
use Rattle.retry_rules.specs.Reply.{sender_checks, reply_checks}
use Rattle.retry_rules.specs.Arrival.{wanted, arrival_checks, receiver_checks}
use Rattle.refusal.proofs.Outcomes.{passed, numbered, has_passed, is_not_refused}
use Rattle.retry_rules.proofs.Rules.{Holds, holds, keeps}

-- one check that does not apply, and the others
peel : (b rest : Bool) → not b && rest ≡ true → (b ≡ false) × (rest ≡ true)
peel true rest q = absurd (false_is_not_true q)
peel false rest q = (refl, q)

fold : (b rest : Bool) → b ≡ false → rest ≡ true → not b && rest ≡ true
fold true rest p q = absurd (false_is_not_true (sym p))
fold false rest p q = q

not_both : (a b : Bool) → (a ≡ true → b ≡ false) → a && b ≡ false
not_both true b f = f refl
not_both false b f = refl

all_of : (cs : List Check) → T (numbered cs) → refusal_of cs ≡ 0 → passed cs ≡ true
all_of cs m q = T_true (passed cs) (has_passed cs m q)

none_of : (cs : List Check) → passed cs ≡ true → refusal_of cs ≡ 0
none_of cs p = is_not_refused cs (true_t (passed cs) p)

-- a state that keeps its rule, on a link that is up
pub record Sound (s : Sender) : Type 0 where
  pub up : s.counters.link ≡ 1
  pub rule : Holds s.counters
  pub slots : slots_rule s ≡ true

pub rule_holds : (s : Sender) → sender_rule s ≡ true → Holds s.counters
unfolding sender_rule
rule_holds s q = holds s.counters (first_true (counters_rule s.counters) (slots_rule s) q)

pub sound : (s : Sender) → is_down s.counters ≡ false → sender_rule s ≡ true → Sound s
unfolding sender_rule
sound s d q =
    let h = rule_holds s q in
    let ne = eqb-false s.counters.link 2 d in
    let n = h.numbers in
    record { up = omega arith; rule = h; slots = second_true (counters_rule s.counters) (slots_rule s) q }

pub sound_rule : (s : Sender) → Sound s → sender_rule s ≡ true
unfolding sender_rule
sound_rule s h = both_true (counters_rule s.counters) (slots_rule s) (keeps s.counters h.rule) h.slots

-- neither 7 nor the state's 1
alive : (s : Sender) → Sound s → (is_down s.counters ≡ false) × (not (sender_rule s) ≡ false)
alive s h = (ne_eqb s.counters.link 2 (λ p. omega (arith, h.up)), ap not (sound_rule s h))

-- a call that takes the sender alone
pub sender_seen : (s : Sender) → refusal_of (sender_checks s) ≡ 0 → Sound s
unfolding sender_checks
sender_seen s q =
    let a = peel (is_down s.counters) _ (all_of (sender_checks s) tt q) in
    let b = peel (not (sender_rule s)) _ a.1 in
    sound s a.0 (not-false (sender_rule s) b.0)

pub sender_passes : (s : Sender) → Sound s → refusal_of (sender_checks s) ≡ 0
unfolding sender_checks
sender_passes s h =
    none_of (sender_checks s) (fold (is_down s.counters) _ (alive s h).0 (fold (not (sender_rule s)) _ (alive s h).1 refl))

-- a reply
pub record Hears (s : Sender) (k : ℕ) : Type 0 where
  pub sound : Sound s
  pub number_lt : k < 16

pub reply_seen : (s : Sender) (k : ℕ) → refusal_of (reply_checks s k) ≡ 0 → Hears s k
unfolding reply_checks sender_checks
reply_seen s k q =
    let a = peel (not (ltb k 16)) _ (all_of (reply_checks s k) tt q) in
    let b = peel (is_down s.counters) _ a.1 in
    let d = peel (not (sender_rule s)) _ b.1 in
    record {
      sound = sound s b.0 (not-false (sender_rule s) d.0);
      number_lt = ltb-true k 16 (not-false (ltb k 16) a.0);
    }

pub reply_passes : (s : Sender) (k : ℕ) → Hears s k → refusal_of (reply_checks s k) ≡ 0
unfolding reply_checks sender_checks
reply_passes s k h =
    let a = alive s h.sound in
    none_of (reply_checks s k)
    (fold (not (ltb k 16)) _ (ap not (lt-ltb k 16 h.number_lt))
    (fold (is_down s.counters) _ a.0 (fold (not (sender_rule s)) _ a.1 refl)))

-- an offer
pub record Offers (s : Sender) (lent channel n : ℕ) : Type 0 where
  pub sound : Sound s
  pub buffers : lent ≡ 8 * s.counters.size
  pub channel_lt : channel < 16
  pub most : n ≤ s.counters.size
  pub some : 0 < n
  pub free : s.counters.stored < 8

pub offer_seen : (s : Sender) (lent channel n : ℕ) → refusal_of (offer_checks s lent channel n) ≡ 0 → Offers s lent channel n
unfolding offer_checks
offer_seen s lent channel n q =
    let c = s.counters in
    let a = peel (is_down c) _ (all_of (offer_checks s lent channel n) tt q) in
    let b = peel (not (sender_rule s)) _ a.1 in
    let d = peel (not (buffers_rule s lent)) _ b.1 in
    let e = peel (not (ltb channel 16)) _ d.1 in
    let f = peel (ltb c.size n) _ e.1 in
    let g = peel (eqb n 0) _ f.1 in
    let h = peel (eqb c.stored 8) _ g.1 in
    let state = sound s a.0 (not-false (sender_rule s) b.0) in
    let le = state.rule.numbers.stored_le in
    record {
      sound = state;
      buffers = eqb-true lent (8 * c.size) (not-false (buffers_rule s lent) d.0);
      channel_lt = ltb-true channel 16 (not-false (ltb channel 16) e.0);
      most = ltb-false c.size n f.0;
      some = omega (arith, eqb-false n 0 g.0);
      free = omega (arith, eqb-false c.stored 8 h.0);
    }

pub offer_passes : (s : Sender) (lent channel n : ℕ) → Offers s lent channel n → refusal_of (offer_checks s lent channel n) ≡ 0
unfolding offer_checks
offer_passes s lent channel n o =
    let c = s.counters in
    let a = alive s o.sound in
    none_of (offer_checks s lent channel n)
    (fold (is_down c) _ a.0
    (fold (not (sender_rule s)) _ a.1
    (fold (not (buffers_rule s lent)) _ (ap not (eq-eqb lent (8 * c.size) o.buffers))
    (fold (not (ltb channel 16)) _ (ap not (lt-ltb channel 16 o.channel_lt))
    (fold (ltb c.size n) _ (le-ltb c.size n o.most)
    (fold (eqb n 0) _ (ne_eqb n 0 (λ p. omega (arith, o.some)))
    (fold (eqb c.stored 8) _ (ne_eqb c.stored 8 (λ p. omega (arith, o.free))) refl)))))))

-- a send; an output need only be long enough where there is something to send
pub record Sends (s : Sender) (lent output : ℕ) : Type 0 where
  pub sound : Sound s
  pub buffers : lent ≡ 8 * s.counters.size
  pub long : to_send s.counters ≡ true → held_length s (due_slot s.counters) ≤ output

pub send_seen : (s : Sender) (lent output : ℕ) → refusal_of (send_checks s lent output) ≡ 0 → Sends s lent output
unfolding send_checks
send_seen s lent output q =
    let c = s.counters in
    let n = held_length s (due_slot c) in
    let a = peel (is_down c) _ (all_of (send_checks s lent output) tt q) in
    let b = peel (not (sender_rule s)) _ a.1 in
    let d = peel (not (buffers_rule s lent)) _ b.1 in
    let e = peel (to_send c && ltb output n) _ d.1 in
    record {
      sound = sound s a.0 (not-false (sender_rule s) b.0);
      buffers = eqb-true lent (8 * c.size) (not-false (buffers_rule s lent) d.0);
      long = λ t. ltb-false output n (subst (λ (x : Bool). x && ltb output n ≡ false) t e.0);
    }

pub send_passes : (s : Sender) (lent output : ℕ) → Sends s lent output → refusal_of (send_checks s lent output) ≡ 0
unfolding send_checks
send_passes s lent output o =
    let c = s.counters in
    let n = held_length s (due_slot c) in
    let a = alive s o.sound in
    none_of (send_checks s lent output)
    (fold (is_down c) _ a.0
    (fold (not (sender_rule s)) _ a.1
    (fold (not (buffers_rule s lent)) _ (ap not (eq-eqb lent (8 * c.size) o.buffers))
    (fold (to_send c && ltb output n) _ (not_both (to_send c) (ltb output n) (λ t. le-ltb output n (o.long t))) refl))))

-- an arrival; an output need only be long enough where the segment is delivered
pub record Arrives (r : Receiver) (k channel n : ℕ) (room : Bool) (output : ℕ) : Type 0 where
  pub rule : receiver_rule r ≡ true
  pub number_lt : k < 16
  pub channel_lt : channel < 16
  pub most : n ≤ r.size
  pub some : 0 < n
  pub long : wanted r k room ≡ true → n ≤ output

pub arrival_seen :
    (r : Receiver) (k channel n : ℕ) (room : Bool) (output : ℕ) → refusal_of (arrival_checks r k channel n room output) ≡ 0
    → Arrives r k channel n room output
unfolding arrival_checks
arrival_seen r k channel n room output q =
    let a = peel (not (receiver_rule r)) _ (all_of (arrival_checks r k channel n room output) tt q) in
    let b = peel (not (ltb k 16)) _ a.1 in
    let d = peel (not (ltb channel 16)) _ b.1 in
    let e = peel (ltb r.size n) _ d.1 in
    let f = peel (eqb n 0) _ e.1 in
    let g = peel (wanted r k room && ltb output n) _ f.1 in
    record {
      rule = not-false (receiver_rule r) a.0;
      number_lt = ltb-true k 16 (not-false (ltb k 16) b.0);
      channel_lt = ltb-true channel 16 (not-false (ltb channel 16) d.0);
      most = ltb-false r.size n e.0;
      some = omega (arith, eqb-false n 0 f.0);
      long = λ t. ltb-false output n (subst (λ (x : Bool). x && ltb output n ≡ false) t g.0);
    }

pub arrival_passes :
    (r : Receiver) (k channel n : ℕ) (room : Bool) (output : ℕ) → Arrives r k channel n room output
    → refusal_of (arrival_checks r k channel n room output) ≡ 0
unfolding arrival_checks
arrival_passes r k channel n room output o =
    none_of (arrival_checks r k channel n room output)
    (fold (not (receiver_rule r)) _ (ap not o.rule)
    (fold (not (ltb k 16)) _ (ap not (lt-ltb k 16 o.number_lt))
    (fold (not (ltb channel 16)) _ (ap not (lt-ltb channel 16 o.channel_lt))
    (fold (ltb r.size n) _ (le-ltb r.size n o.most)
    (fold (eqb n 0) _ (ne_eqb n 0 (λ p. omega (arith, o.some)))
    (fold (wanted r k room && ltb output n) _ (not_both (wanted r k room) (ltb output n) (λ t. le-ltb output n (o.long t))) refl))))))

-- a fresh sender's T and S
pub record Begins (t s : ℕ) : Type 0 where
  pub some : 0 < t
  pub most : t ≤ 65535
  pub size : size_allowed s ≡ true

pub fresh_seen : (t s : ℕ) → refusal_of (fresh_checks t s) ≡ 0 → Begins t s
unfolding fresh_checks
fresh_seen t s q =
    let a = peel (not (time_allowed t)) _ (all_of (fresh_checks t s) tt q) in
    let b = peel (not (size_allowed s)) _ a.1 in
    let time = not-false (time_allowed t) a.0 in
    record {
      some = ltb-true 0 t (first_true (ltb 0 t) (leb t 65535) time);
      most = leb-true t 65535 (second_true (ltb 0 t) (leb t 65535) time);
      size = not-false (size_allowed s) b.0;
    }

pub fresh_passes : (t s : ℕ) → Begins t s → refusal_of (fresh_checks t s) ≡ 0
unfolding fresh_checks
fresh_passes t s h =
    none_of (fresh_checks t s)
    (fold (not (time_allowed t)) _
    (ap not (both_true (ltb 0 t) (leb t 65535) (lt-ltb 0 t h.some) (le-leb t 65535 h.most)))
    (fold (not (size_allowed s)) _ (ap not h.size) refl))

-- a reset's too, once its state keeps the rule
pub reset_seen : (given : Sender) (t s : ℕ) → refusal_of (reset_checks given t s) ≡ 0 → Begins t s
unfolding reset_checks fresh_checks
reset_seen given t s q =
    let a = peel (not (sender_rule given)) _ (all_of (reset_checks given t s) tt q) in
    fresh_seen t s (none_of (fresh_checks t s) a.1)

pub reset_passes : (given : Sender) (t s : ℕ) → sender_rule given ≡ true → Begins t s → refusal_of (reset_checks given t s) ≡ 0
unfolding reset_checks fresh_checks
reset_passes given t s q h =
    none_of (reset_checks given t s)
    (fold (not (sender_rule given)) _ (ap not q) (all_of (fresh_checks t s) tt (fresh_passes t s h)))

-- a fresh receiver's S, and a receiver that keeps its rule
pub size_seen : (s : ℕ) → refusal_of (size_checks s) ≡ 0 → size_allowed s ≡ true
unfolding size_checks
size_seen s q = not-false (size_allowed s) (peel (not (size_allowed s)) _ (all_of (size_checks s) tt q)).0

pub size_passes : (s : ℕ) → size_allowed s ≡ true → refusal_of (size_checks s) ≡ 0
unfolding size_checks
size_passes s q = none_of (size_checks s) (fold (not (size_allowed s)) _ (ap not q) refl)

pub receiver_passes : (r : Receiver) → receiver_rule r ≡ true → refusal_of (receiver_checks r) ≡ 0
unfolding receiver_checks
receiver_passes r q = none_of (receiver_checks r) (fold (not (receiver_rule r)) _ (ap not q) refl)
