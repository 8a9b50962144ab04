-- What a send says in the numbers that C is answered: whether a segment goes out, and what is said of it.
use Rattle.std.specs.Prelude.{Bool}
use Rattle.retry_rules.specs.declared.Segment.{Segment}
use Rattle.retry_rules.specs.Answers.{SendAnswer}

abbrev pub segment_says : Bool → Segment → SendAnswer
segment_says sent x =
    record { refusal = 0; sent = sent; number = x.number; channel = x.channel; bad = x.bad; length = x.length }
