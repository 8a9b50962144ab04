-- The model of demand 3: two ends, two lines that keep order, and the events that can happen, in any order.
use Rattle.std.specs.Prelude.{ℕ, zero, suc, Bool, cond, List, [], ◌∷◌, ◌++◌, set}
use Rattle.retry_rules.specs.Lent.{Content}
use Rattle.delivery_rules.specs.Ends.{Item, segment, damaged, Reply, damaged_reply, Offering, Sending, Arriving, Ends}
use Rattle.delivery_rules.specs.Outside.{Seen, gone_with, seen_with, seen_reply, seen_tick, seen_lists}

-- what can happen, in any order. Each output is any lent list, long enough or not; the mark says whether the receiver has room.
-- A place of a line is counted from the end that arrives next
pub data Event : Type 0 where
  offer : Content → Event
  send : List ℕ → Event
  arrive : Bool → List ℕ → Event
  lose damage : ℕ → Event
  hear : Event
  lose_reply damage_reply : ℕ → Event
  tick : Event

-- one more at the end of a list, if there is one
abbrev pub joined : {A : Type 0} → List A → Bool → A → List A
joined l some a = cond some (l ++ a ∷ []) l

-- a line that has lost what stood at a place
abbrev pub without : {A : Type 0} → List A → ℕ → List A
without [] n = []
without (a ∷ l) zero = l
without (a ∷ l) (suc n) = a ∷ without l n

module _ (E : Ends) where
  pub record World : Type 0 where
    pub sender : E.Sender
    pub buffers : List ℕ
    pub receiver : E.Receiver
    -- the two lines; the first is the next to arrive
    pub forward : List Item
    pub backward : List Reply
    pub seen : Seen

  abbrev pub offered : World → Content → Offering E.Sender → World
  offered w x a =
      record {
        sender = a.state;
        buffers = a.buffers;
        receiver = w.receiver;
        forward = w.forward;
        backward = w.backward;
        seen = seen_lists w.seen (joined w.seen.accepted a.accepted x) w.seen.delivered;
      }

  abbrev pub sent : World → Sending E.Sender → World
  sent w a =
      record {
        sender = a.state;
        buffers = w.buffers;
        receiver = w.receiver;
        forward = joined w.forward a.sent (segment a.number a.content);
        backward = w.backward;
        seen =
            seen_with w.seen (cond a.sent (gone_with w.seen a.number) w.seen.gone) w.seen.released
            w.seen.ticks w.seen.expiries;
      }

  -- what arrives leaves the line. A refused arrival changes nothing, so a host that calls again has made one call, and one that
  -- does not has dropped it
  abbrev pub arrived : World → List Item → Arriving E.Receiver → World
  arrived w rest a =
      record {
        sender = w.sender;
        buffers = w.buffers;
        receiver = a.state;
        forward = rest;
        backward = joined w.backward a.answered a.reply;
        seen = seen_lists w.seen w.seen.accepted (joined w.seen.delivered a.delivered a.content);
      }

  abbrev pub told : World → E.Sender → List Reply → Seen → World
  told w s rest g =
      record {
        sender = s;
        buffers = w.buffers;
        receiver = w.receiver;
        forward = w.forward;
        backward = rest;
        seen = g;
      }

  abbrev pub lined : World → List Item → List Reply → World
  lined w forward backward =
      record {
        sender = w.sender;
        buffers = w.buffers;
        receiver = w.receiver;
        forward = forward;
        backward = backward;
        seen = w.seen;
      }

  -- the next of a line, if there is one
  abbrev pub arrives : World → Bool → List ℕ → List Item → World
  arrives w room output [] = w
  arrives w room output (i ∷ rest) = arrived w rest (E.arrive w.receiver i room output)

  abbrev pub hears : World → List Reply → World
  hears w [] = w
  hears w (y ∷ rest) = told w (E.hear w.sender y) rest (seen_reply w.seen y)

  unfoldable pub step : Event → World → World
  step (offer x) w = offered w x (E.offer w.sender w.buffers x)
  step (send output) w = sent w (E.send w.sender w.buffers output)
  step (arrive room output) w = arrives w room output w.forward
  step (lose n) w = lined w (without w.forward n) w.backward
  step (damage n) w = lined w (set w.forward n damaged) w.backward
  step hear w = hears w w.backward
  step (lose_reply n) w = lined w w.forward (without w.backward n)
  step (damage_reply n) w = lined w w.forward (set w.backward n damaged_reply)
  step tick w = told w (E.tick w.sender) w.backward (seen_tick w.seen)

  unfoldable pub run : List Event → World → World
  run [] w = w
  run (e ∷ es) w = run es (step e w)

  -- fresh ends of T and S, eight lent buffers, two empty lines
  abbrev pub start : ℕ → ℕ → List ℕ → World
  start T S lent =
      record {
        sender = (E.make_sender T S).state;
        buffers = lent;
        receiver = (E.make_receiver S).state;
        forward = [];
        backward = [];
        seen = record { columns = T; accepted = []; delivered = []; gone = 0; released = 0; ticks = 0; expiries = 0 };
      }
