-- Each call of the sender by its answer: a refusal leaves all as it stood, else what the answer says.
-- Assumes nothing.
use Prim.Native.Nat.{ℕ}
use mathlib.Core.Path.{◌≡◌, sym, ap, ◌∙◌}
use mathlib.Core.List.{List}
use lib.ListN.{length}
use Rattle.retry_rules.specs.Answers.{Answered, Offered, Sent, Ticked}
use Rattle.retry_rules.specs.Fresh.{fresh_sender_of, reset_of}
use Rattle.retry_rules.specs.Offer.{offer_of, offer_buffers}
use Rattle.retry_rules.specs.Send.{send_of, send_output}
use Rattle.retry_rules.specs.Reply.{reply_of, damaged_reply_of}
use Rattle.retry_rules.specs.Tick.{tick_of}
use Rattle.retry_rules.proofs.Refusals.{offer_leaves, send_leaves}
use Rattle.host_rules.specs.Numbers.{mark_of, mark_number}
use Rattle.host_rules.proofs.Numbers.{refused_called, done_called}
use Rattle.host_retry_rules.specs.SenderBytes.{sender_in, sender_bytes}
use Rattle.host_calls.specs.SenderCalls.{begins_sender, resets, hears, hears_damaged, Ticks, ticks, Offers, offers, Sends, sends}

module _ (columns size : ℕ) (old : List ℕ) (a : Answered) (e : a ≡ fresh_sender_of columns size) where
  pub begin_refused : (a.refusal ≡ 0 → ⊥) → begins_sender columns size old ≡ record { refusal = a.refusal; lent = old }
  unfolding begins_sender
  begin_refused h = rw (← e) (refused_called _ _ _ h)

  pub begin_done : a.refusal ≡ 0 → begins_sender columns size old ≡ record { refusal = a.refusal; lent = sender_bytes a.sender }
  unfolding begins_sender
  begin_done h = rw (← e) (done_called _ _ _ h)

module _ (columns size : ℕ) (old : List ℕ) (a : Answered) (e : a ≡ reset_of (sender_in old) columns size) where
  pub reset_refused : (a.refusal ≡ 0 → ⊥) → resets columns size old ≡ record { refusal = a.refusal; lent = old }
  unfolding resets
  reset_refused h = rw (← e) (refused_called _ _ _ h)

  pub reset_done : a.refusal ≡ 0 → resets columns size old ≡ record { refusal = a.refusal; lent = sender_bytes a.sender }
  unfolding resets
  reset_done h = rw (← e) (done_called _ _ _ h)

module _ (nack number : ℕ) (old : List ℕ) (a : Answered) (e : a ≡ reply_of (sender_in old) (mark_of nack) number) where
  pub reply_refused : (a.refusal ≡ 0 → ⊥) → hears nack number old ≡ record { refusal = a.refusal; lent = old }
  unfolding hears
  reply_refused h = rw (← e) (refused_called _ _ _ h)

  pub reply_done : a.refusal ≡ 0 → hears nack number old ≡ record { refusal = a.refusal; lent = sender_bytes a.sender }
  unfolding hears
  reply_done h = rw (← e) (done_called _ _ _ h)

module _ (old : List ℕ) (a : Answered) (e : a ≡ damaged_reply_of (sender_in old)) where
  pub damaged_refused : (a.refusal ≡ 0 → ⊥) → hears_damaged old ≡ record { refusal = a.refusal; lent = old }
  unfolding hears_damaged
  damaged_refused h = rw (← e) (refused_called _ _ _ h)

  pub damaged_done : a.refusal ≡ 0 → hears_damaged old ≡ record { refusal = a.refusal; lent = sender_bytes a.sender }
  unfolding hears_damaged
  damaged_done h = rw (← e) (done_called _ _ _ h)

module _ (old : Ticks) (a : Ticked) (e : a ≡ tick_of (sender_in old.sender)) where
  pub tick_refused : (a.refusal ≡ 0 → ⊥) → ticks old ≡ record { refusal = a.refusal; lent = old }
  unfolding ticks
  tick_refused h = rw (← e) (refused_called _ _ _ h)

  pub tick_done :
      a.refusal ≡ 0 → ticks old ≡ record { refusal = a.refusal; lent = record { sender = sender_bytes a.sender; fell = mark_number a.fell } }
  unfolding ticks
  tick_done h = rw (← e) (done_called _ _ _ h)

module _ (channel bad : ℕ) (bytes : List ℕ) (old : Offers) (a : Offered) (e : a ≡ offer_of (sender_in old.sender)
    (length old.buffers) channel (mark_of bad) (length bytes)) where
  -- the buffers as the rule says, which on a refusal are as they stood
  abbrev pub stored : List ℕ
  stored = offer_buffers (sender_in old.sender) old.buffers channel bytes

  pub offer_refused :
      (a.refusal ≡ 0 → ⊥)
      → offers channel bad bytes old ≡ record { refusal = a.refusal; lent = record { sender = old.sender; buffers = stored; number = old.number } }
  unfolding offers
  offer_refused h =
      rw (← e) (refused_called _ _ _ h ∙ sym (ap (λ (out : List ℕ). record {
        refusal = a.refusal;
        lent = record {
          sender = old.sender;
          buffers = out;
          number = old.number;
        };
      }) (offer_leaves (sender_in old.sender)
      old.buffers channel (mark_of bad) bytes (λ z. h (ap (λ (x : Offered). x.refusal) e ∙ z)))))

  pub offer_done :
      a.refusal ≡ 0
      → offers channel bad bytes old
      ≡ record { refusal = a.refusal; lent = record { sender = sender_bytes a.sender; buffers = stored; number = a.number } }
  unfolding offers
  offer_done h = rw (← e) (done_called _ _ _ h)

module _ (buffers : List ℕ) (old : Sends) (a : Sent) (e : a ≡ send_of (sender_in old.sender) (length buffers) (length old.output)) where
  -- the output as the rule says, which on a refusal is as it stood
  abbrev pub after : List ℕ
  after = send_output (sender_in old.sender) buffers old.output

  pub send_refused :
      (a.refusal ≡ 0 → ⊥)
      → sends buffers old
      ≡ record {
        refusal = a.refusal;
        lent = record {
          sender = old.sender;
          output = after;
          sent = old.sent;
          number = old.number;
          channel = old.channel;
          bad = old.bad;
          size = old.size;
        };
      }
  unfolding sends
  send_refused h =
      rw (← e) (refused_called _ _ _ h ∙ sym (ap (λ (out : List ℕ). record {
        refusal = a.refusal;
        lent = record {
          sender = old.sender;
          output = out;
          sent = old.sent;
          number = old.number;
          channel = old.channel;
          bad = old.bad;
          size = old.size;
        };
      }) (send_leaves (sender_in old.sender) buffers old.output (λ z. h (ap (λ (x : Sent). x.refusal) e ∙ z)))))

  pub send_done :
      a.refusal ≡ 0
      → sends buffers old
      ≡ record {
        refusal = a.refusal;
        lent = record {
          sender = sender_bytes a.sender;
          output = after;
          sent = mark_number a.sent;
          number = a.number;
          channel = a.channel;
          bad = mark_number a.bad;
          size = a.length;
        };
      }
  unfolding sends
  send_done h = rw (← e) (done_called _ _ _ h)
