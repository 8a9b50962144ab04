-- What reading a whole capture into events comes to for C: the refusal's number, and what all that is lent holds afterwards, given what stood there.
use Rattle.std.specs.Prelude.{ℕ, not, List, [], ◌∷◌, ℤ, length}
use Rattle.refusal.specs.Order.{Check, check, outcome, left}
use Rattle.capture_rules.specs.Calls.{readable}
use Rattle.events_rules.specs.Answers.{CaptureRead}
use Rattle.events_rules.specs.Events.{not_read_capture, capture_read, events_left}
use Rattle.host_rules.specs.Numbers.{Called, called}
use Rattle.host_rules.specs.ReaderBytes.{reader_bytes, reader_in, is_reader}

-- 8: no legal capture; 1: bytes that encode no state
abbrev pub bytes_checks : List ℕ → List ℕ → List Check
bytes_checks capture bytes = readable capture ∷ check 1 (not (is_reader bytes)) ∷ []

-- a capture read by a reader in bytes, into so many places: the answer, and what the places hold
unfoldable pub capture_numbers : List ℕ → List ℕ → ℤ → ℕ → CaptureRead
capture_numbers capture bytes d room =
    outcome (bytes_checks capture bytes) (not_read_capture (reader_in bytes) d) (capture_read capture (reader_in bytes) d room)

unfoldable pub events_numbers : List ℕ → List ℕ → ℤ → List ℕ → List ℕ
events_numbers capture bytes d events = left (bytes_checks capture bytes) events (events_left capture (reader_in bytes) d events)

pub record ReadsCapture : Type 0 where
  pub reader : List ℕ
  pub disparity : ℤ
  pub events : List ℕ
  pub count : ℕ

-- a capture is read into events, and there are so many; state and disparity become those after it
unfoldable pub reads_capture : List ℕ → ReadsCapture → Called ReadsCapture
reads_capture capture old =
    let answer = capture_numbers capture old.reader old.disparity (length old.events) in
    called answer.refusal old
    (record {
      reader = reader_bytes answer.reader;
      disparity = answer.disparity;
      events = events_numbers capture old.reader old.disparity old.events;
      count = answer.count;
    })
