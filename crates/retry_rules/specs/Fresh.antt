-- A fresh sender of T and S, a fresh receiver of S, and the reset of a sender.
use Rattle.std.specs.Prelude.{ℕ, not, List, [], ◌∷◌, replicate, Result, Ok, Err}
use Rattle.refusal.specs.declared.Refusal.{Refusal}
use Rattle.refusal.specs.Order.{Check, check, outcome, number_of}
use Rattle.retry_rules.specs.declared.Sender.{Sender}
use Rattle.retry_rules.specs.declared.Receiver.{Receiver}
use Rattle.retry_rules.specs.Answers.{Answered, Begun}
use Rattle.retry_rules.specs.Numbers.{time_allowed}
use Rattle.segment_size.specs.Sizes.{size_allowed}
use Rattle.retry_rules.specs.States.{no_slot, sender_rule}
use Rattle.retry_rules.specs.Refused.{refused_sender, refused_receiver}

-- nothing stored, the timer at its start; the next segment has number 0
abbrev pub sender_with : ℕ → ℕ → ℕ → Sender
sender_with link t s =
    record {
      counters = record {
        oldest = 0;
        stored = 0;
        outstanding = 0;
        point = 0;
        released = 0;
        timer = t;
        expiries = 0;
        columns = t;
        size = s;
        link = link;
      };
      slots = replicate 8 no_slot;
    }

abbrev pub fresh_sender : ℕ → ℕ → Sender
fresh_sender t s = sender_with 1 t s

abbrev pub fresh_receiver : ℕ → Receiver
fresh_receiver s = record { expected = 0; received = 0; size = s }

-- all zeros: what stands where no sender or receiver was made. Both break their rules
abbrev pub no_sender : Sender
no_sender = sender_with 0 0 0

abbrev pub no_receiver : Receiver
no_receiver = fresh_receiver 0

-- what an answer of the code says: the sender or the receiver that was made, or a refusal and none
abbrev pub fresh_says : Result Sender Refusal → Answered
fresh_says (Ok s) = record { refusal = 0; sender = s }
fresh_says (Err r) = refused_sender no_sender (number_of r)

abbrev pub begun_says : Result Receiver Refusal → Begun
begun_says (Ok r) = record { refusal = 0; receiver = r }
begun_says (Err r) = refused_receiver no_receiver (number_of r)

-- T from 1 to 65,535, and S allowed
unfoldable pub fresh_checks : ℕ → ℕ → List Check
fresh_checks t s = check 1 (not (time_allowed t)) ∷ check 2 (not (size_allowed s)) ∷ []

-- a fresh sender with the T and S that are given; refused, there is none
unfoldable pub fresh_sender_of : ℕ → ℕ → Answered
fresh_sender_of t s =
    outcome (fresh_checks t s) (refused_sender no_sender) (record { refusal = 0; sender = fresh_sender t s })

unfoldable pub size_checks : ℕ → List Check
size_checks s = check 2 (not (size_allowed s)) ∷ []

-- a fresh receiver with the S that is given; refused, there is none
unfoldable pub fresh_receiver_of : ℕ → Begun
fresh_receiver_of s =
    outcome (size_checks s) (refused_receiver no_receiver) (record { refusal = 0; receiver = fresh_receiver s })

-- a reset is not refused for a link that is down
unfoldable pub reset_checks : Sender → ℕ → ℕ → List Check
reset_checks given t s = check 1 (not (sender_rule given)) ∷ fresh_checks t s

-- a fresh sender with the T and S that are given; refused, the one that was given, with all that is stored
unfoldable pub reset_of : Sender → ℕ → ℕ → Answered
reset_of given t s =
    outcome (reset_checks given t s) (refused_sender given) (record { refusal = 0; sender = fresh_sender t s })
