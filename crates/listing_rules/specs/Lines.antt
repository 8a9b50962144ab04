-- Document 01, "Listing": the lines of a capture.
use Rattle.std.specs.Prelude.{ℕ, ◌+◌, Bool, cond, List, [], ◌∷◌, ◌++◌, negsuc, length}
use Rattle.std.proofs.Math.Option.{Option, none, some}
use Rattle.character_rules.specs.Results.{readings_of}
use Rattle.capture_rules.specs.Capture.{characters_of, legal}
use Rattle.packet_rules.specs.Answers.{Said, Start, Reply}
use Rattle.packet_rules.specs.State.{fresh}
use Rattle.packet_rules.specs.Line.{said_of}
use Rattle.listing_rules.specs.Text.{decimal, line, place_word, event_word, detail_word, violation_word, start_word, end_word, lmp_word}
use Rattle.listing_rules.specs.Text.{data_word, priority_word, good_word, bad_word, ack_word, nack_word, refused_word}

-- ---- the event's word and its detail, as fields; none for nothing and for a byte

-- the violation's number
abbrev pub violation_fields : Option ℕ → List (List ℕ)
violation_fields none = []
violation_fields (some n) = violation_word ∷ decimal n ∷ []

-- a priority packet's start has a segment number, which is not shown
abbrev pub kind_word : Option ℕ → List ℕ
kind_word none = data_word
kind_word (some n) = priority_word

-- "data" or "priority" with the channel
abbrev pub start_fields : Option Start → List (List ℕ)
start_fields none = []
start_fields (some s) = start_word ∷ kind_word s.segment ∷ decimal s.channel ∷ []

abbrev pub end_fields : Option Bool → List (List ℕ)
end_fields none = []
end_fields (some bad) = end_word ∷ cond bad bad_word good_word ∷ []

-- "ACK" or "NACK" with the number
abbrev pub lmp_fields : Option Reply → List (List ℕ)
lmp_fields none = []
lmp_fields (some r) = lmp_word ∷ cond r.nack nack_word ack_word ∷ decimal r.number ∷ []

abbrev pub fields_of : Said → List (List ℕ)
fields_of e = violation_fields e.violation ++ (start_fields e.start ++ (end_fields e.end ++ lmp_fields e.lmp))

-- ---- the lines

-- the index of the character that gave the event, and the event's fields; no line where there are none
abbrev pub event_line : ℕ → List (List ℕ) → List ℕ
event_line place [] = []
event_line place (field ∷ fields) = line (decimal place) (field ∷ fields)

abbrev pub listed : List (List ℕ) → ℕ
listed [] = 0
listed (field ∷ fields) = 1

-- what the reader said of the characters from a place on
unfoldable pub lines_from : ℕ → List Said → List ℕ
lines_from place [] = []
lines_from place (e ∷ es) = event_line place (fields_of e) ++ lines_from (place + 1) es

unfoldable pub events_in : List Said → ℕ
events_in [] = 0
events_in (e ∷ es) = listed (fields_of e) + events_in es

abbrev pub header : List ℕ
header = line place_word (event_word ∷ detail_word ∷ [])

abbrev pub end_line : ℕ → ℕ → List ℕ
end_line characters events = line end_word (decimal characters ∷ decimal events ∷ [])

abbrev pub refused_line : List ℕ
refused_line = line refused_word (decimal 8 ∷ [])

-- ---- THE LISTING

-- what a fresh reader with S = 8 says of a capture, from −1
abbrev pub said_of_capture : List ℕ → List Said
said_of_capture capture = said_of (fresh 8) (readings_of (characters_of capture) (negsuc 0))

unfoldable pub listing_of : List ℕ → List ℕ
listing_of capture =
    cond (legal capture)
    (header ++ (lines_from 0 (said_of_capture capture) ++ end_line (length (characters_of capture)) (events_in (said_of_capture capture))))
    refused_line
