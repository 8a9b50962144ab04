-- An arrival at the receiver: a valid segment, or a damaged one, which brings neither number nor bytes.
-- n is the number of bytes that arrive, `output` the length of the output, `room` the host's mark.
use Rattle.std.specs.Prelude.{ℕ, Bool, true, false, cond, not, ◌&&◌, List, [], ◌∷◌, ltb, eqb, length}
use Rattle.refusal.specs.Order.{Check, check, outcome, left}
use Rattle.retry_rules.specs.declared.Receiver.{Receiver}
use Rattle.retry_rules.specs.Answers.{Arrived}
use Rattle.retry_rules.specs.Numbers.{after, one_more, among_last}
use Rattle.retry_rules.specs.States.{receiver_rule}
use Rattle.retry_rules.specs.Refused.{refused_arrival}
use Rattle.retry_rules.specs.Lent.{laid}

-- the expected number, and room: the segment is delivered
abbrev pub wanted : Receiver → ℕ → Bool → Bool
wanted r k room = eqb k r.expected && room

unfoldable pub arrival_checks : Receiver → ℕ → ℕ → ℕ → Bool → ℕ → List Check
arrival_checks r k channel n room output =
    check 1 (not (receiver_rule r)) ∷ check 1 (not (ltb k 16)) ∷ check 1 (not (ltb channel 16)) ∷ check 2 (ltb r.size n)
    ∷ check 4 (eqb n 0) ∷ check 6 (wanted r k room && ltb output n) ∷ []

abbrev pub advanced : Receiver → Receiver
advanced r =
    record { expected = after r.expected 1; received = one_more r.received; size = r.size }

-- nothing is delivered, and a reply goes out
abbrev pub undelivered : Bool → ℕ → Receiver → Arrived
undelivered nack number r =
    record {
      refusal = 0;
      delivered = false;
      nack = nack;
      number = number;
      channel = 0;
      bad = false;
      length = 0;
      receiver = r;
    }

-- a NACK carries the expected number
abbrev pub nack_of : Receiver → Arrived
nack_of r = undelivered true r.expected r

-- deliver, advance, ACK that number
abbrev pub delivery : Receiver → ℕ → ℕ → Bool → ℕ → Arrived
delivery r k channel bad n =
    record {
      refusal = 0;
      delivered = true;
      nack = false;
      number = k;
      channel = channel;
      bad = bad;
      length = n;
      receiver = advanced r;
    }

-- expected and room: deliver. Expected and no room: NACK. One of the last eight really received: drop, ACK its own number. Any other: NACK
unfoldable pub answer_to : Receiver → ℕ → ℕ → Bool → ℕ → Bool → Arrived
answer_to r k channel bad n room =
    cond (eqb k r.expected) (cond room (delivery r k channel bad n) (nack_of r))
    (cond (among_last r.received r.expected k) (undelivered false k r) (nack_of r))

-- what the arrival of a valid segment answers
unfoldable pub arrival_of : Receiver → ℕ → ℕ → Bool → ℕ → Bool → ℕ → Arrived
arrival_of r k channel bad n room output =
    outcome (arrival_checks r k channel n room output) (refused_arrival r) (answer_to r k channel bad n room)

-- what the output holds after it: the bytes, if they are delivered
unfoldable pub arrival_output : Receiver → ℕ → ℕ → List ℕ → Bool → List ℕ → List ℕ
arrival_output r k channel bytes room output =
    left (arrival_checks r k channel (length bytes) room (length output)) output
    (cond (wanted r k room) (laid output 0 bytes) output)

unfoldable pub receiver_checks : Receiver → List Check
receiver_checks r = check 1 (not (receiver_rule r)) ∷ []

-- what the arrival of a damaged segment answers
unfoldable pub damaged_arrival_of : Receiver → Arrived
damaged_arrival_of r =
    outcome (receiver_checks r) (refused_arrival r) (nack_of r)
