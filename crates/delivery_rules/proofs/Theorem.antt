-- Demand 3 of our two ends.
-- Assumes nothing.
use mathlib.Core.Path.{◌≡◌, sym, ◌∙◌}
use mathlib.Core.List.{List, [], ◌∷◌, ◌++◌, map, append_assoc, append-nil}
use Prim.Native.Nat.{ℕ, ◌+◌, ◌*◌, ◌≤◌}
use native.Mathlib.Omega.{arith}
use lib.ListN.{length}
use Rattle.retry_rules.specs.declared.Sender.{Sender}
use Rattle.retry_rules.specs.Lent.{Content}
use Rattle.delivery_rules.specs.Ends.{Offering}
use Rattle.delivery_rules.specs.Model.{offer, World, offered, step, run}
use Rattle.delivery_rules.specs.Demand.{AllGood, at, Delivers}
use Rattle.delivery_rules.specs.Ours.{ours}
use Rattle.delivery_rules.proofs.Calls.{offer_either}
use Rattle.delivery_rules.proofs.Invariant.{Inv, numbers, up}
use Rattle.delivery_rules.proofs.Safety.{sender_begins, receiver_begins, step_inv, moment_inv, first_so_many}
use Rattle.delivery_rules.proofs.Drills.{can_drill}
use Rattle.delivery_rules.proofs.Resending.{Resends, drill_recovers}
use Rattle.delivery_rules.proofs.Recovery.{point_of, sends_next, arrives_next, hears_next, ticks_on, at_expiry}

-- good offers are accepted while fewer than eight are stored
accepts :
    (S : ℕ) (xs : List Content) (w : World ours) → Inv S w → w.seen.expiries ≤ 2 → w.sender.counters.stored + length xs ≤ 8 → AllGood S xs
    → (run ours (map offer xs) w).seen.accepted ≡ w.seen.accepted ++ xs
unfolding run step
accepts S [] w v x h g = sym (append-nil w.seen.accepted)
accepts S (y ∷ xs) w v x h g =
    let c = w.sender.counters in
    let good = g.0 in
    let most : length y.bytes ≤ c.size = omega (arith, good.most, v.size) in
    let lent : length w.buffers ≡ 8 * c.size = omega (arith, v.lent, v.size) in
    offer_either w.sender w.buffers y
    (λ (a : Offering Sender). Inv S (offered ours w y a) → (run ours (map offer xs) (offered ours w y a)).seen.accepted ≡ w.seen.accepted ++ y ∷ xs)
    (λ _ inv. accepts S xs _ inv x (omega arith) g.1 ∙ append_assoc w.seen.accepted (y ∷ []) xs)
    (λ no. absurd
    (no
    (record {
      sound = up S w v (omega arith);
      buffers = lent;
      channel_lt = good.channel_lt;
      most = most;
      some = good.some;
      free = omega arith;
    })))
    (step_inv S (offer y) w v)

resends : (S : ℕ) → Resends ours (Inv S) point_of S
resends S =
    record {
      keeps = step_inv S;
      prefix = λ w v. v.prefix;
      low = λ w v. v.follows.low;
      sends = sends_next S;
      arrives_at = arrives_next S;
      hears_ack = hears_next S;
      ticks_on = ticks_on S;
      at_rest = λ w v none.
          let n = (numbers w.sender v.rule).numbers in
          let u = v.counts in
          omega arith;
      time_left = λ w v.
          let n = (numbers w.sender v.rule).numbers in
          let u = v.counts in
          omega arith;
      at_expiry = at_expiry S;
      accepts = λ w v few released xs eight good.
          let u = v.counts in
          accepts S xs w v few (omega arith) good;
    }

pub delivers : Delivers ours
delivers =
    record {
      begins = λ T S lent a. (sender_begins T S lent a, receiver_begins T S lent a);
      safe = λ m _. first_so_many m;
      recovers = λ m _ x d. drill_recovers ours (Inv m.S) point_of m.S (resends m.S) (at ours m) (moment_inv m) x d;
      can_drill = λ m _ _. can_drill ours m;
    }
