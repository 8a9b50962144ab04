-- An event in numbers: its own number, its value, its segment number; and the three as one.
use Rattle.std.specs.Prelude.{ℕ, ◌+◌, ◌*◌, Bool, true, false, cond, Result, Ok, Err}
use Rattle.std.proofs.Math.Option.{Option, none, some}
use Rattle.packet_rules.specs.declared.Event.{Event}
use Rattle.packet_rules.specs.Answers.{Start, Reply, Said, event_says}

-- what is there, or else another
abbrev pub or_else : Option ℕ → ℕ → ℕ
or_else none n = n
or_else (some m) n = m

-- 1 for bad and for NACK, 0 for good and for ACK
abbrev pub mark_number : Bool → ℕ
mark_number mark = cond mark 1 0

abbrev pub is_given : {A : Type 0} → Option A → Bool
is_given none = false
is_given (some x) = true

abbrev pub channel_of : Option Start → Option ℕ
channel_of none = none
channel_of (some s) = some s.channel

abbrev pub segment_of : Option Start → Option ℕ
segment_of none = none
segment_of (some s) = s.segment

abbrev pub mark_in : Option Bool → Option ℕ
mark_in none = none
mark_in (some bad) = some (mark_number bad)

abbrev pub nack_in : Option Reply → Option ℕ
nack_in none = none
nack_in (some l) = some (mark_number l.nack)

abbrev pub number_in : Option Reply → Option ℕ
number_in none = none
number_in (some l) = some l.number

-- 0 nothing, 1 violation, 2 start of a data packet, 3 start of a priority packet, 4 byte, 5 end, 6 LMP
abbrev pub event_in : Said → ℕ
event_in s =
    cond (is_given s.violation) 1
    (cond (is_given (segment_of s.start)) 3
    (cond (is_given s.start) 2 (cond (is_given s.byte) 4 (cond (is_given s.end) 5 (cond (is_given s.lmp) 6 0)))))

-- the violation's number; the channel; the byte; the bad mark; the NACK mark; else 0
abbrev pub value_in : Said → ℕ
value_in s =
    or_else s.violation (or_else (channel_of s.start) (or_else s.byte (or_else (mark_in s.end) (or_else (nack_in s.lmp) 0))))

-- the segment number of a priority packet or an LMP; else 0
abbrev pub segment_in : Said → ℕ
segment_in s = or_else (segment_of s.start) (or_else (number_in s.lmp) 0)

-- one number: 65,536 times the event's number, 256 times the segment number, and the value
unfoldable pub packed_event : Said → ℕ
packed_event s = 65536 * event_in s + 256 * segment_in s + value_in s

-- of a step that may be refused: 0 for a refusal, whatever refused it, as for nothing
abbrev pub packed_answer : {E : Type 0} → Result Event E → ℕ
packed_answer (Ok e) = packed_event (event_says e)
packed_answer (Err x) = 0
