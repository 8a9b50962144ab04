-- What an arrival says in the numbers that C is answered: its reply, whether anything is delivered, and what is said of it.
use Rattle.std.specs.Prelude.{Bool}
use Rattle.retry_rules.specs.declared.Reply.{Reply}
use Rattle.retry_rules.specs.declared.Delivered.{Delivered}
use Rattle.retry_rules.specs.Answers.{ArrivalAnswer, is_nack, reply_number}

abbrev pub taken_says : Reply → Bool → Delivered → ArrivalAnswer
taken_says x delivered d =
    record { refusal = 0; delivered = delivered; nack = is_nack x; number = reply_number x; channel = d.channel; bad = d.bad; length = d.length }
