-- At every moment of our two ends, what is delivered is the first so many accepted, and the counters are what is seen from outside.
-- Assumes nothing.
use mathlib.Core.Path.{◌≡◌, refl, sym, ◌∙◌, ap, subst}
use mathlib.Core.Bool.{Bool, true, not, ◌&&◌}
use mathlib.Core.List.{List, [], ◌∷◌}
use Prim.Native.Nat.{ℕ}
use native.Mathlib.Omega.{arith}
use lib.Dec.{ltb}
use lib.ListN.{set}
use borrow.Author.Tests.{ltb-true, ltb-false, leb-true, eq-eqb, ne_eqb}
use Rattle.laws.proofs.Cases.{by_test, first_true, second_true}
use Rattle.retry_rules.specs.Fresh.{fresh_sender, fresh_receiver, fresh_sender_of, fresh_receiver_of}
use Rattle.retry_rules.specs.declared.Sender.{Sender}
use Rattle.retry_rules.specs.declared.Receiver.{Receiver}
use Rattle.retry_rules.proofs.Kept.{fresh_sender_kept, fresh_receiver_kept}
use Rattle.retry_rules.proofs.Refusals.{fresh_sender_number, fresh_receiver_number}
use Rattle.retry_rules.proofs.Seen.{Begins, fresh_passes, size_passes}
use Rattle.retry_rules.specs.States.{is_up as says_up, is_down, sender_rule, receiver_rule, Eight}
use Rattle.retry_rules.specs.Tick.{tick_of}
use Rattle.delivery_rules.specs.Ends.{damaged, damaged_reply}
use Rattle.delivery_rules.specs.Outside.{is_up, seen_tick}
use Rattle.delivery_rules.specs.Model.{Event, offer, send, arrive, lose, damage, hear, lose_reply, damage_reply, tick, without, World, step, run, start}
use Rattle.delivery_rules.specs.Demand.{Allowed, FirstSoMany, Moment, at}
use Rattle.delivery_rules.specs.Ours.{ours}
use Rattle.delivery_rules.specs.Honest.{Honest}
use Rattle.delivery_rules.proofs.Lines.{empty, lost, damaged_at}
use Rattle.delivery_rules.proofs.Calls.{tick_fell, down_fell}
use Rattle.delivery_rules.proofs.Invariant.{Inv, numbers, up, down, lined_inv}
use Rattle.delivery_rules.proofs.SenderSteps.{offer_inv, send_inv}
use Rattle.delivery_rules.proofs.ReplySteps.{hears_inv, tick_inv}
use Rattle.delivery_rules.proofs.ArrivalSteps.{arrives_inv}

module _ (S : ℕ) where
  pub step_inv : (e : Event) (w : World ours) → Inv S w → Inv S (step ours e w)
  unfolding step
  step_inv (offer x) w v = offer_inv S w v x
  step_inv (send output) w v = send_inv S w v output
  step_inv (arrive room output) w v = arrives_inv S w v room output w.forward v.items
  step_inv (lose n) w v = lined_inv S w v (without w.forward n) w.backward (lost n v.items) v.replies
  step_inv (damage n) w v = lined_inv S w v (set w.forward n damaged) w.backward (damaged_at n damaged tt v.items) v.replies
  step_inv hear w v = hears_inv S w v w.backward v.replies
  step_inv (lose_reply n) w v = lined_inv S w v w.forward (without w.backward n) v.items (lost n v.replies)
  step_inv (damage_reply n) w v =
      lined_inv S w v w.forward (set w.backward n damaged_reply) v.items (damaged_at n damaged_reply tt v.replies)
  step_inv tick w v = tick_inv S w v

  pub run_inv : (es : List Event) (w : World ours) → Inv S w → Inv S (run ours es w)
  unfolding run
  run_inv [] w v = v
  run_inv (e ∷ es) w v = run_inv es (step ours e w) (step_inv e w v)

-- a fresh sender and a fresh receiver with the same S are made, and keep their rules
module _ (T S : ℕ) (lent : List ℕ) (a : Allowed T S lent) where
  begins_of : Begins T S
  begins_of =
      record {
        some = ltb-true 0 T (first_true (ltb 0 T) _ a.time);
        most = leb-true T 65535 (second_true (ltb 0 T) _ a.time);
        size = a.size;
      }

  pub sender_begins : (fresh_sender_of T S).refusal ≡ 0
  sender_begins = fresh_sender_number T S ∙ fresh_passes T S begins_of

  pub receiver_begins : (fresh_receiver_of S).refusal ≡ 0
  receiver_begins = fresh_receiver_number S ∙ size_passes S a.size

  start_inv : Inv S (start ours T S lent)
  start_inv =
      let s = fresh_sender_kept T S sender_begins in
      let r = fresh_receiver_kept S receiver_begins in
      let P : Sender → Receiver → Type 0 = λ s r. sender_rule s ≡ true → Eight s → receiver_rule r ≡ true
      → Inv S (record { sender = s; buffers = lent; receiver = r; forward = []; backward = []; seen = (start ours T S lent).seen }) in
      let fresh : P (fresh_sender T S) (fresh_receiver S) = λ rule eight receives.
      record {
        rule = rule;
        eight = eight;
        size = refl;
        lent = a.eight;
        receives = receives;
        receiver_size = refl;
        counts = omega arith;
        follows = omega arith;
        prefix = refl;
        good = λ j h. absurd (omega arith);
        holds_it = λ i h. absurd (omega arith);
        items = empty;
        replies = empty;
      } in
      subst (λ (r : Receiver). P (fresh_sender_of T S).sender r) (sym r.0)
      (subst (λ (s : Sender). P s (fresh_receiver S)) (sym s.0) fresh) s.1 s.2 r.1

pub moment_inv : (m : Moment ours) → Inv m.S (at ours m)
moment_inv m = run_inv m.S m.events (start ours m.T m.S m.lent) (start_inv m.T m.S m.lent m.allowed)

-- safety, whether the link is up or down
pub first_so_many : (m : Moment ours) → FirstSoMany (at ours m).seen.delivered (at ours m).seen.accepted
first_so_many m = (moment_inv m).prefix

-- our counters tell the truth
module _ (S : ℕ) (w : World ours) (v : Inv S w) where
  up_is : says_up w.sender.counters ≡ is_up w.seen
  up_is =
      by_test (is_up w.seen) (λ t. eq-eqb w.sender.counters.link 1 (up S w v (ltb-true w.seen.expiries 3 t)).up ∙ sym t)
      (λ t.
      let two = down S w v (ltb-false w.seen.expiries 3 t) in
      ne_eqb w.sender.counters.link 1 (λ q. omega arith) ∙ sym t)

  down_is : is_down w.sender.counters ≡ not (is_up w.seen)
  down_is =
      by_test (is_up w.seen)
      (λ t.
      let one = (up S w v (ltb-true w.seen.expiries 3 t)).up in
      ne_eqb w.sender.counters.link 2 (λ q. omega arith) ∙ ap not (sym t))
      (λ t. eq-eqb w.sender.counters.link 2 (down S w v (ltb-false w.seen.expiries 3 t)) ∙ ap not (sym t))

fell : (S : ℕ) (w : World ours) → Inv S w → (tick_of w.sender).fell ≡ (is_up w.seen && not (is_up (seen_tick w.seen)))
unfolding step
fell S w v =
    by_test (is_up w.seen)
    (λ t.
    tick_fell w.sender (up S w v (ltb-true w.seen.expiries 3 t)) ∙ down_is S (step ours tick w) (step_inv S tick w v)
    ∙ sym (ap (λ (b : Bool). b && not (is_up (seen_tick w.seen))) t))
    (λ t.
    down_fell w.sender (down S w v (ltb-false w.seen.expiries 3 t))
    ∙ sym (ap (λ (b : Bool). b && not (is_up (seen_tick w.seen))) t))

honest_of : (S : ℕ) (w : World ours) → Inv S w → Honest w.sender w.receiver w.seen
honest_of S w v =
    let c = w.sender.counters in
    let n = (numbers w.sender v.rule).numbers in
    let u = v.counts in
    record {
      up = up_is S w v;
      oldest_is = u.oldest;
      stored_is = omega arith;
      outstanding_is = omega arith;
      released_is = u.released;
      expiries_is = u.expiries;
      timer_is = omega arith;
      fell_is = fell S w v;
      expected_is = v.follows.expected;
      received_is = v.follows.received;
    }

pub honest : (m : Moment ours) → Honest (at ours m).sender (at ours m).receiver (at ours m).seen
honest m = honest_of m.S (at ours m) (moment_inv m)
