-- What holds of our two ends at every moment: the counters are what is seen from outside, the buffers hold what was accepted, and what stands
-- on each line is near to what its end expects.
-- Assumes nothing.
use mathlib.Core.Path.{◌≡◌}
use mathlib.Core.Bool.{true}
use mathlib.Core.List.{List}
use Prim.Native.Nat.{ℕ, ◌+◌, ◌*◌, ◌%◌, ◌≤◌, ◌<◌, min}
use native.Mathlib.Omega.{arith}
use lib.ListN.{length, get_or, take}
use Rattle.laws.proofs.Cases.{first_true, second_true}
use Rattle.retry_rules.specs.declared.Counters.{Counters}
use Rattle.retry_rules.specs.declared.Sender.{Sender}
use Rattle.retry_rules.specs.declared.Receiver.{Receiver}
use Rattle.retry_rules.specs.States.{slot_of, counters_rule, slots_rule, sender_rule, receiver_rule, Eight}
use Rattle.retry_rules.specs.Lent.{Content, held_bytes, held_content}
use Rattle.retry_rules.proofs.Rules.{Holds, holds}
use Rattle.retry_rules.proofs.Seen.{Sound}
use Rattle.delivery_rules.specs.Ends.{Item, segment, damaged, Reply, ack, nack, damaged_reply}
use Rattle.delivery_rules.specs.Outside.{Seen, seen_with}
use Rattle.delivery_rules.specs.Model.{World, told, lined}
use Rattle.delivery_rules.specs.Demand.{no_content, Good}
use Rattle.delivery_rules.specs.Ours.{ours}
use Rattle.delivery_rules.proofs.Lines.{Line}

-- an item on the line is the j-th accepted segment under its number; one that is damaged counts for nothing
abbrev pub IsItem : List Content → Item → ℕ → Type 0
IsItem accepted (segment k x) j = (k ≡ j % 16) × (x ≡ get_or accepted j no_content)
IsItem accepted damaged j = ⊥

abbrev pub IsDamaged : Item → Type 0
IsDamaged (segment k x) = ⊥
IsDamaged damaged = Unit {0}

-- an ACK on the line is of the j-th segment; other replies count for nothing
abbrev pub IsAck : Reply → ℕ → Type 0
IsAck (ack k) j = k ≡ j % 16
IsAck (nack k) j = ⊥
IsAck damaged_reply j = ⊥

abbrev pub IsIdle : Reply → Type 0
IsIdle (ack k) = ⊥
IsIdle (nack k) = k < 16
IsIdle damaged_reply = Unit {0}

-- the sender's counters are what is seen from outside
pub record Counts (c : Counters) (g : Seen) : Type 0 where
  pub oldest : c.oldest ≡ g.released % 16
  pub released : c.released ≡ min g.released 8
  pub stored : length g.accepted ≡ g.released + c.stored
  pub outstanding : g.gone ≡ g.released + c.outstanding
  pub columns : c.columns ≡ g.columns
  pub timer : c.timer + g.ticks ≡ g.columns
  pub expiries : c.expiries ≡ g.expiries

-- and so are the receiver's; what is delivered lies between what is released and what has gone out
pub record Follows (r : Receiver) (g : Seen) : Type 0 where
  pub expected : r.expected ≡ length g.delivered % 16
  pub received : r.received ≡ min (length g.delivered) 8
  pub low : g.released ≤ length g.delivered
  pub high : length g.delivered ≤ g.gone

pub record Inv (S : ℕ) (w : World ours) : Type 0 where
  -- both states keep their rules, and both ends have the same S
  pub rule : sender_rule w.sender ≡ true
  pub eight : Eight w.sender
  pub size : w.sender.counters.size ≡ S
  pub lent : length w.buffers ≡ 8 * S
  pub receives : receiver_rule w.receiver ≡ true
  pub receiver_size : w.receiver.size ≡ S
  pub counts : Counts w.sender.counters w.seen
  pub follows : Follows w.receiver w.seen
  -- what is delivered is the first so many accepted; each accepted segment is good, and a stored one stands in its buffer
  pub prefix : w.seen.delivered ≡ take (length w.seen.delivered) w.seen.accepted
  pub good : (j : ℕ) → j < length w.seen.accepted → Good S (get_or w.seen.accepted j no_content)
  pub holds_it :
      (i : ℕ) → i < w.sender.counters.stored
      → held_content w.sender w.buffers (slot_of w.sender.counters i) ≡ get_or w.seen.accepted (w.seen.released + i) no_content
  -- what stands on each line is near to what is delivered, and to what is released
  pub items : Line (IsItem w.seen.accepted) IsDamaged w.seen.gone (length w.seen.delivered) w.forward
  pub replies : Line IsAck IsIdle (length w.seen.delivered) w.seen.released w.backward

-- the sender's rule in numbers
pub numbers : (s : Sender) → sender_rule s ≡ true → Holds s.counters
unfolding sender_rule
numbers s q = holds s.counters (first_true (counters_rule s.counters) (slots_rule s) q)

pub slots_rule_lem : (s : Sender) → sender_rule s ≡ true → slots_rule s ≡ true
unfolding sender_rule
slots_rule_lem s q = second_true (counters_rule s.counters) (slots_rule s) q

module _ (S : ℕ) (w : World ours) (v : Inv S w) where
  -- the link is up with fewer than three expiries seen, and down with three
  pub up : w.seen.expiries < 3 → Sound w.sender
  up h =
      let n = numbers w.sender v.rule in
      let a = n.numbers in
      let c = v.counts in
      record { up = omega arith; rule = n; slots = slots_rule_lem w.sender v.rule }

  pub down : 3 ≤ w.seen.expiries → w.sender.counters.link ≡ 2
  down h =
      let n = (numbers w.sender v.rule).numbers in
      let c = v.counts in
      omega arith

  -- other lines
  pub lined_inv :
      (f : List Item) (b : List Reply) → Line (IsItem w.seen.accepted) IsDamaged w.seen.gone (length w.seen.delivered) f
      → Line IsAck IsIdle (length w.seen.delivered) w.seen.released b → Inv S (lined ours w f b)
  lined_inv f b p q =
      record {
        rule = v.rule;
        eight = v.eight;
        size = v.size;
        lent = v.lent;
        receives = v.receives;
        receiver_size = v.receiver_size;
        counts = v.counts;
        follows = v.follows;
        prefix = v.prefix;
        good = v.good;
        holds_it = v.holds_it;
        items = p;
        replies = q;
      }

  -- another send point, timer, count and link
  abbrev pub retimed : ℕ → ℕ → ℕ → ℕ → Sender
  retimed point timer expiries link =
      let c = w.sender.counters in
      record {
        counters = record {
          oldest = c.oldest;
          stored = c.stored;
          outstanding = c.outstanding;
          point = point;
          released = c.released;
          timer = timer;
          expiries = expiries;
          columns = c.columns;
          size = c.size;
          link = link;
        };
        slots = w.sender.slots;
      }

  pub retimed_inv :
      (point timer expiries link ticks counted : ℕ) (rest : List Reply) → timer + ticks ≡ w.seen.columns → expiries ≡ counted
      → Line IsAck IsIdle (length w.seen.delivered) w.seen.released rest
      → sender_rule (retimed point timer expiries link) ≡ true
      → Inv S (told ours w (retimed point timer expiries link) rest (seen_with w.seen w.seen.gone w.seen.released ticks counted))
  unfolding held_content held_bytes
  retimed_inv point timer expiries link ticks counted rest q p l k =
      let c = v.counts in
      let f = v.follows in
      record {
        rule = k;
        eight = record { slots = v.eight.slots };
        size = v.size;
        lent = v.lent;
        receives = v.receives;
        receiver_size = v.receiver_size;
        counts = omega arith;
        follows = omega arith;
        prefix = v.prefix;
        good = v.good;
        holds_it = v.holds_it;
        items = v.items;
        replies = l;
      }
