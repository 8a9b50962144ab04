-- A tick: one column. The timer runs while something is outstanding; the T-th tick since its start is its expiry.
use Rattle.std.specs.Prelude.{◌+◌, ◌-◌, cond, ltb, eqb}
use Rattle.refusal.specs.Order.{outcome}
use Rattle.retry_rules.specs.declared.Counters.{Counters}
use Rattle.retry_rules.specs.declared.Sender.{Sender}
use Rattle.retry_rules.specs.Answers.{Ticked}
use Rattle.retry_rules.specs.States.{is_down}
use Rattle.retry_rules.specs.Refused.{refused_tick}
use Rattle.retry_rules.specs.Reply.{timer_at, to_oldest, sender_checks, with_counters}

-- an expiry is counted and the timer is at its start
abbrev pub expired : Counters → Counters
expired c = timer_at c.columns (c.expiries + 1) c

-- the link goes down; nothing is sent, and the send point stays
abbrev pub fallen : Counters → Counters
fallen c =
    record {
      oldest = c.oldest;
      stored = c.stored;
      outstanding = c.outstanding;
      point = c.point;
      released = c.released;
      timer = c.timer;
      expiries = c.expiries;
      columns = c.columns;
      size = c.size;
      link = 2;
    }

-- expiries one and two: send point to the oldest, timer restarts. The third takes the link down
unfoldable pub ticked : Counters → Counters
ticked c =
    cond (eqb c.outstanding 0) c
    (cond (eqb c.timer 1)
    (cond (ltb c.expiries 2) (to_oldest (expired c)) (fallen (expired c)))
    (timer_at (c.timer - 1) c.expiries c))

-- what a tick answers; the call that takes the link down says so and is not itself refused
unfoldable pub tick_of : Sender → Ticked
tick_of s =
    outcome (sender_checks s) (refused_tick s)
    (record { refusal = 0; fell = is_down (ticked s.counters); sender = with_counters s (ticked s.counters) })
