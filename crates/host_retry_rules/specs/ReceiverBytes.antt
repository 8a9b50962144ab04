-- The receiver's state as 4 bytes: the expected number, how many of the last eight were received, S with the high byte first. Each 4 bytes stand for one.
use Rattle.std.specs.Prelude.{ℕ, ◌/◌, ◌%◌, List, [], ◌∷◌}
use Rattle.retry_rules.specs.declared.Receiver.{Receiver}
use Rattle.retry_rules.specs.declared.Reply.{Reply}
use Rattle.retry_rules.specs.Answers.{is_nack, reply_number}
use Rattle.host_rules.specs.Numbers.{mark_number}
use Rattle.host_retry_rules.specs.SenderBytes.{two, at}

unfoldable pub receiver_bytes : Receiver → List ℕ
receiver_bytes r = r.expected ∷ r.received ∷ r.size / 256 ∷ r.size % 256 ∷ []

unfoldable pub receiver_in : List ℕ → Receiver
receiver_in b = record { expected = at b 0; received = at b 1; size = two (at b 2) (at b 3) }

-- a reply as two numbers: whether it is NACK, and its segment's number
abbrev pub reply_numbers : Reply → List ℕ
reply_numbers x = mark_number (is_nack x) ∷ reply_number x ∷ []
