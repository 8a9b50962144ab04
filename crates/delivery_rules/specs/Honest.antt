-- Our counters tell the truth: what they say is what is seen from outside. The expiry count is the expiries since the last clearing, and the
-- call that takes the link down says so.
use Rattle.std.specs.Prelude.{◌-◌, ◌%◌, min, not, ◌&&◌, ◌≡◌, length}
use Rattle.retry_rules.specs.declared.Sender.{Sender}
use Rattle.retry_rules.specs.declared.Receiver.{Receiver}
use Rattle.retry_rules.specs.States.{is_up as says_up}
use Rattle.retry_rules.specs.Tick.{tick_of}
use Rattle.delivery_rules.specs.Outside.{Seen, is_up, outstanding, stored, seen_tick}

pub record Honest (s : Sender) (r : Receiver) (g : Seen) : Type 0 where
  pub up : says_up s.counters ≡ is_up g
  pub oldest_is : s.counters.oldest ≡ g.released % 16
  pub stored_is : s.counters.stored ≡ stored g
  pub outstanding_is : s.counters.outstanding ≡ outstanding g
  -- of the last eight numbers before the oldest, those really released
  pub released_is : s.counters.released ≡ min g.released 8
  pub expiries_is : s.counters.expiries ≡ g.expiries
  -- ticks left until the timer expires
  pub timer_is : s.counters.timer ≡ g.columns - g.ticks
  pub fell_is : (tick_of s).fell ≡ (is_up g && not (is_up (seen_tick g)))
  pub expected_is : r.expected ≡ length g.delivered % 16
  -- of the last eight numbers before the expected one, those really received
  pub received_is : r.received ≡ min (length g.delivered) 8
