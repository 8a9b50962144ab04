-- The written rules of the two states. Refusal 1 is given where one is broken; every fresh state and every state handed back keeps it.
use Rattle.std.specs.Prelude.{ℕ, ◌+◌, ◌*◌, ◌%◌, Bool, false, cond, ◌&&◌, ◌||◌, ◌≡◌, ltb, leb, eqb, length, get_or}
use Rattle.retry_rules.specs.declared.Counters.{Counters}
use Rattle.retry_rules.specs.declared.Sender.{Sender}
use Rattle.retry_rules.specs.declared.Slot.{Slot}
use Rattle.retry_rules.specs.declared.Receiver.{Receiver}
use Rattle.retry_rules.specs.Numbers.{time_allowed, count_rule, every_below}
use Rattle.segment_size.specs.Sizes.{size_allowed}

abbrev pub is_up : Counters → Bool
is_up c = eqb c.link 1

abbrev pub is_down : Counters → Bool
is_down c = eqb c.link 2

-- while the link is up fewer than three expiries are counted; with nothing outstanding the timer stands at its start and none is.
-- The third expiry, and it alone, takes the link down, and the timer stands at its start
unfoldable pub link_rule : Counters → Bool
link_rule c =
    cond (is_up c)
    (ltb c.expiries 3 && (ltb 0 c.outstanding || (eqb c.timer c.columns && eqb c.expiries 0)))
    (is_down c && (eqb c.expiries 3 && (eqb c.timer c.columns && ltb 0 c.outstanding)))

-- the timer runs from T down and expires at the T-th tick
unfoldable pub timer_rule : Counters → Bool
timer_rule c =
    time_allowed c.columns && (ltb 0 c.timer && (leb c.timer c.columns && link_rule c))

-- at most eight are stored, what is outstanding is stored, and the send point is at a segment sent before or at the first that waits
unfoldable pub window_rule : Counters → Bool
window_rule c =
    leb c.stored 8 && (leb c.outstanding c.stored && leb c.point c.outstanding)

unfoldable pub counters_rule : Counters → Bool
counters_rule c =
    size_allowed c.size && (count_rule c.oldest c.released && (window_rule c && timer_rule c))

-- the buffer of the segment that stands i after the oldest
abbrev pub slot_of : Counters → ℕ → ℕ
slot_of c i = (c.oldest + i) % 8

-- a slot of a fresh sender
abbrev pub no_slot : Slot
no_slot = record { length = 0; channel = 0; bad = false }

-- what buffer i holds beside its bytes
abbrev pub slot_in : Sender → ℕ → Slot
slot_in s i = get_or s.slots i no_slot

-- a stored segment has 1 to S bytes and a channel from 0 to 15
unfoldable pub slot_rule : Sender → ℕ → Bool
slot_rule s i =
    ltb 0 (slot_in s i).length && (leb (slot_in s i).length s.counters.size && ltb (slot_in s i).channel 16)

-- the slots of the stored segments keep theirs; what the others hold does not matter
unfoldable pub slots_rule : Sender → Bool
slots_rule s = every_below s.counters.stored (λ i. slot_rule s (slot_of s.counters i))

unfoldable pub sender_rule : Sender → Bool
sender_rule s = counters_rule s.counters && slots_rule s

-- there are eight slots: their type says so, and so it is no part of the rule
pub record Eight (s : Sender) : Type 0 where
  pub slots : length s.slots ≡ 8

-- the eight buffers are one lent run of 8 times S bytes
abbrev pub buffers_rule : Sender → ℕ → Bool
buffers_rule s lent = eqb lent (8 * s.counters.size)

unfoldable pub receiver_rule : Receiver → Bool
receiver_rule r = size_allowed r.size && count_rule r.expected r.received
