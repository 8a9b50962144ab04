-- Each call of the receiver by its answer: a refusal leaves all as it stood, else what the answer says.
-- Assumes nothing.
use Prim.Native.Nat.{ℕ}
use mathlib.Core.Path.{◌≡◌, sym, ap, ◌∙◌}
use mathlib.Core.List.{List}
use lib.ListN.{length}
use Rattle.retry_rules.specs.Answers.{Arrived, Begun}
use Rattle.retry_rules.specs.Fresh.{fresh_receiver_of}
use Rattle.retry_rules.specs.Arrival.{arrival_of, arrival_output, damaged_arrival_of}
use Rattle.retry_rules.proofs.Refusals.{arrival_leaves}
use Rattle.host_rules.specs.Numbers.{mark_of, mark_number}
use Rattle.host_rules.proofs.Numbers.{refused_called, done_called}
use Rattle.host_retry_rules.specs.ReceiverBytes.{receiver_in, receiver_bytes}
use Rattle.host_calls.specs.ReceiverCalls.{begins_receiver, Arrives, arrives, ArrivesDamaged, arrives_damaged}

module _ (size : ℕ) (old : List ℕ) (a : Begun) (e : a ≡ fresh_receiver_of size) where
  pub begin_refused : (a.refusal ≡ 0 → ⊥) → begins_receiver size old ≡ record { refusal = a.refusal; lent = old }
  unfolding begins_receiver
  begin_refused h = rw (← e) (refused_called _ _ _ h)

  pub begin_done : a.refusal ≡ 0 → begins_receiver size old ≡ record { refusal = a.refusal; lent = receiver_bytes a.receiver }
  unfolding begins_receiver
  begin_done h = rw (← e) (done_called _ _ _ h)

module _ (old : ArrivesDamaged) (a : Arrived) (e : a ≡ damaged_arrival_of (receiver_in old.receiver)) where
  pub damaged_refused : (a.refusal ≡ 0 → ⊥) → arrives_damaged old ≡ record { refusal = a.refusal; lent = old }
  unfolding arrives_damaged
  damaged_refused h = rw (← e) (refused_called _ _ _ h)

  pub damaged_done :
      a.refusal ≡ 0
      → arrives_damaged old ≡ record {
        refusal = a.refusal;
        lent = record {
          receiver = receiver_bytes a.receiver;
          nack = mark_number a.nack;
          reply = a.number;
        };
      }
  unfolding arrives_damaged
  damaged_done h = rw (← e) (done_called _ _ _ h)

module _ (number channel bad : ℕ) (bytes : List ℕ) (room : ℕ) (old : Arrives) (a : Arrived)
    (e : a ≡ arrival_of (receiver_in old.receiver) number channel (mark_of bad) (length bytes) (mark_of room) (length old.output)) where
  -- the output as the rule says, which on a refusal is as it stood
  abbrev pub after : List ℕ
  after = arrival_output (receiver_in old.receiver) number channel bytes (mark_of room) old.output

  pub arrival_refused :
      (a.refusal ≡ 0 → ⊥)
      → arrives number channel bad bytes room old
      ≡ record {
        refusal = a.refusal;
        lent = record {
          receiver = old.receiver;
          output = after;
          delivered = old.delivered;
          channel = old.channel;
          bad = old.bad;
          size = old.size;
          nack = old.nack;
          reply = old.reply;
        };
      }
  unfolding arrives
  arrival_refused h =
      rw (← e) (refused_called _ _ _ h ∙ sym (ap (λ (out : List ℕ). record {
        refusal = a.refusal;
        lent = record {
          receiver = old.receiver;
          output = out;
          delivered = old.delivered;
          channel = old.channel;
          bad = old.bad;
          size = old.size;
          nack = old.nack;
          reply = old.reply;
        };
      }) (arrival_leaves (receiver_in old.receiver) number channel (mark_of bad) bytes (mark_of room) old.output
      (λ z. h (ap (λ (x : Arrived). x.refusal) e ∙ z)))))

  pub arrival_done :
      a.refusal ≡ 0
      → arrives number channel bad bytes room old
      ≡ record {
        refusal = a.refusal;
        lent = record {
          receiver = receiver_bytes a.receiver;
          output = after;
          delivered = mark_number a.delivered;
          channel = a.channel;
          bad = mark_number a.bad;
          size = a.length;
          nack = mark_number a.nack;
          reply = a.number;
        };
      }
  unfolding arrives
  arrival_done h = rw (← e) (done_called _ _ _ h)
