-- Lent bytes: what is laid into them, and the bytes of a buffer.
use Rattle.std.specs.Prelude.{ℕ, ◌+◌, ◌*◌, Bool, List, ◌++◌, length, take, drop}
use Rattle.retry_rules.specs.declared.Sender.{Sender}
use Rattle.retry_rules.specs.States.{slot_in}

-- bytes laid over what stood, from a place on; all else is as it stood
unfoldable pub laid : List ℕ → ℕ → List ℕ → List ℕ
laid old at bytes = take at old ++ (bytes ++ drop (at + length bytes) old)

-- where buffer i begins in the lent run
abbrev pub buffer_at : Sender → ℕ → ℕ
buffer_at s i = i * s.counters.size

-- how long what buffer i holds is, and its bytes
abbrev pub held_length : Sender → ℕ → ℕ
held_length s i = (slot_in s i).length

unfoldable pub held_bytes : Sender → List ℕ → ℕ → List ℕ
held_bytes s buffers i = take (held_length s i) (drop (buffer_at s i) buffers)

-- a segment's content is its channel, its bad mark and its bytes
pub record Content : Type 0 where
  pub channel : ℕ
  pub bad : Bool
  pub bytes : List ℕ

-- what buffer i holds
unfoldable pub held_content : Sender → List ℕ → ℕ → Content
held_content s buffers i =
    record {
      channel = (slot_in s i).channel;
      bad = (slot_in s i).bad;
      bytes = held_bytes s buffers i;
    }
