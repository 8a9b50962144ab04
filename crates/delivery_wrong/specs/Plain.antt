-- Ends in plain numbers, which go round only on the line: the rules of document 01 once more, with six choices left open.
-- `right` makes them by the rules; each wrong end is one other choice (a wider window has more buffers too). They hold contents and not bytes, and
-- refuse nothing for its size, its channel or the output.
use Rattle.std.specs.Prelude.{ℕ, ◌+◌, ◌-◌, ◌%◌, min, max, Bool, true, false, not, cond, ◌&&◌, ◌||◌, List, ltb, eqb, get_or, set, replicate}
use Rattle.retry_rules.specs.Numbers.{among_last}
use Rattle.retry_rules.specs.Lent.{Content}
use Rattle.delivery_rules.specs.Ends.{Item, segment, damaged, Reply, ack, nack, damaged_reply, Offering, Sending, Arriving, Ends}
use Rattle.delivery_rules.specs.Demand.{no_content}

pub record Choice : Type 0 where
  -- how many segments may be stored, and in how many buffers
  pub window : ℕ
  pub buffers : ℕ
  -- a send point left behind by an ACK moves up
  pub moves_up : Bool
  -- an ACK releases its own segment only, if that is the oldest
  pub own_only : Bool
  -- a NACK of the oldest clears the expiry count
  pub clears : Bool
  -- of the last eight numbers only those count that were really received or released
  pub really : Bool

pub record PlainSender : Type 0 where
  pub columns : ℕ
  -- how many were released, and how many have gone out; the send point is the place of the next to go
  pub released : ℕ
  pub gone : ℕ
  pub stored : ℕ
  pub point : ℕ
  pub ticks : ℕ
  pub expiries : ℕ
  pub held : List Content

pub record PlainReceiver : Type 0 where
  pub taken : ℕ

-- the third expiry takes the link down
abbrev pub fallen : PlainSender → Bool
fallen s = ltb 2 s.expiries

-- with nothing outstanding, or on a link that is down, replies and ticks do nothing
abbrev pub idle : PlainSender → Bool
idle s = fallen s || eqb s.gone s.released

abbrev pub moved : PlainSender → ℕ → ℕ → ℕ → PlainSender
moved s point ticks expiries =
    record {
      columns = s.columns;
      released = s.released;
      gone = s.gone;
      stored = s.stored;
      point = point;
      ticks = ticks;
      expiries = expiries;
      held = s.held;
    }

abbrev pub replied : Reply → PlainReceiver → Arriving PlainReceiver
replied y r = record { answered = true; reply = y; delivered = false; content = no_content; state = r }

unfoldable pub plain_tick : PlainSender → PlainSender
plain_tick s =
    cond (idle s) s
    (cond (eqb (s.ticks + 1) s.columns)
    (moved s (cond (ltb s.expiries 2) s.released s.point) 0 (s.expiries + 1))
    (moved s s.point (s.ticks + 1) s.expiries))

module _ (c : Choice) where
  -- how many of the last eight of n count
  abbrev pub eight_of : ℕ → ℕ
  eight_of n = cond c.really (min n 8) 8

  -- one more is stored
  abbrev pub plain_taken : PlainSender → List ℕ → Content → Offering PlainSender
  plain_taken s lent x =
      record {
        accepted = true;
        buffers = lent;
        state = record {
          columns = s.columns;
          released = s.released;
          gone = s.gone;
          stored = s.stored + 1;
          point = s.point;
          ticks = s.ticks;
          expiries = s.expiries;
          held = set s.held ((s.released + s.stored) % c.buffers) x;
        };
      }

  unfoldable pub plain_offer : PlainSender → List ℕ → Content → Offering PlainSender
  plain_offer s lent x =
      cond (not (fallen s) && ltb s.stored c.window) (plain_taken s lent x) (record { accepted = false; buffers = lent; state = s })

  -- the segment at the send point goes out
  abbrev pub plain_goes : PlainSender → Sending PlainSender
  plain_goes s =
      record {
        sent = true;
        number = s.point % 16;
        content = get_or s.held (s.point % c.buffers) no_content;
        state = record {
          columns = s.columns;
          released = s.released;
          gone = max s.gone (s.point + 1);
          stored = s.stored;
          point = s.point + 1;
          ticks = s.ticks;
          expiries = s.expiries;
          held = s.held;
        };
      }

  unfoldable pub plain_send : PlainSender → List ℕ → List ℕ → Sending PlainSender
  plain_send s lent output =
      cond (not (fallen s) && ltb s.point (s.released + s.stored)) (plain_goes s)
      (record { sent = false; number = 0; content = no_content; state = s })

  -- the n oldest are released
  abbrev pub plain_release : PlainSender → ℕ → PlainSender
  plain_release s n =
      record {
        columns = s.columns;
        released = s.released + n;
        gone = s.gone;
        stored = s.stored - n;
        point = cond c.moves_up (max s.point (s.released + n)) s.point;
        ticks = 0;
        expiries = 0;
        held = s.held;
      }

  -- how many lie before the segment that the number k names, if it is outstanding; how many of them an ACK may pass over
  abbrev pub ahead : PlainSender → ℕ → ℕ
  ahead s k = (k + 16 - s.released % 16) % 16

  abbrev pub reach : PlainSender → ℕ
  reach s = cond c.own_only 1 (s.gone - s.released)

  unfoldable pub plain_hear : PlainSender → Reply → PlainSender
  plain_hear s (ack k) =
      cond (idle s) s
      (cond (ltb (ahead s k) (reach s)) (plain_release s (ahead s k + 1))
      (cond (among_last (eight_of s.released) (s.released % 16) k) s (moved s s.released s.ticks s.expiries)))
  plain_hear s (nack k) =
      cond (idle s) s
      (cond (eqb k (s.released % 16)) (moved s s.released 0 (cond c.clears 0 s.expiries))
      (moved s s.released s.ticks s.expiries))
  plain_hear s damaged_reply = s

  unfoldable pub plain_arrive : PlainReceiver → Item → Bool → List ℕ → Arriving PlainReceiver
  plain_arrive r (segment k x) room output =
      cond (eqb k (r.taken % 16))
      (cond room
      (record { answered = true; reply = ack k; delivered = true; content = x; state = record { taken = r.taken + 1 } })
      (replied (nack (r.taken % 16)) r))
      (cond (among_last (eight_of r.taken) (r.taken % 16) k) (replied (ack k) r) (replied (nack (r.taken % 16)) r))
  plain_arrive r damaged room output = replied (nack (r.taken % 16)) r

abbrev pub plain : Choice → Ends
plain c =
    record {
      Sender = PlainSender;
      Receiver = PlainReceiver;
      make_sender = λ T S. record {
        refusal = 0;
        state = record {
          columns = T;
          released = 0;
          gone = 0;
          stored = 0;
          point = 0;
          ticks = 0;
          expiries = 0;
          held = replicate c.buffers no_content;
        };
      };
      make_receiver = λ S. record { refusal = 0; state = record { taken = 0 } };
      offer = plain_offer c;
      send = plain_send c;
      hear = plain_hear c;
      tick = plain_tick;
      arrive = plain_arrive c;
    }

-- the rules
abbrev pub rule_choice : Bool → Choice
rule_choice really = record { window = 8; buffers = 8; moves_up = true; own_only = true; clears = true; really = really }

abbrev pub right : Ends
right = plain (rule_choice true)

-- 'last eight' by remainder alone
abbrev pub by_remainder : Ends
by_remainder = plain (rule_choice false)

-- a window of nine or more, with buffers enough for sixteen
abbrev pub wide_choice : ℕ → Choice
wide_choice n = record { window = n; buffers = 16; moves_up = true; own_only = true; clears = true; really = true }

abbrev pub wide : ℕ → Ends
wide n = plain (wide_choice n)

-- all sixteen numbers in use at once
abbrev pub sixteen : Ends
sixteen = wide 16

-- a buffer used again before its segment is released
abbrev pub used_again : Ends
used_again = plain (record { window = 8; buffers = 7; moves_up = true; own_only = true; clears = true; really = true })

-- a send point that stays behind the oldest after an ACK, and reads a freed buffer
abbrev pub left_behind : Ends
left_behind = plain (record { window = 8; buffers = 8; moves_up = false; own_only = true; clears = true; really = true })

-- an ACK taken to cover all earlier segments
abbrev pub covers_earlier : Ends
covers_earlier = plain (record { window = 8; buffers = 8; moves_up = true; own_only = false; clears = true; really = true })

-- an expiry count other than the expiries since the last clearing
abbrev pub false_count : Ends
false_count = plain (record { window = 8; buffers = 8; moves_up = true; own_only = true; clears = false; really = true })
