-- The definitions computed: the document's example, the empty capture, refused ones, and the line of each event. Text is in ASCII; beside each row
-- stands what it says.
-- Assumes nothing.
use mathlib.Core.Path.{◌≡◌, refl, ◌∙◌, ap}
use mathlib.Core.Bool.{true, false}
use mathlib.Core.List.{List, [], ◌∷◌, ◌++◌, map}
use mathlib.Core.Option.{none, some}
use Prim.Native.Nat.{ℕ}
use lib.IntN.{negsuc}
use lib.ListN.{replicate}
use Rattle.symbol.specs.Symbols.{is_twelve}
use Rattle.character_rules.specs.Answers.{Reading, clean}
use Rattle.character_rules.specs.Results.{new_disparity, readings_of}
use Rattle.character_rules.specs.Bench.{D, K}
use Rattle.character_rules.proofs.BenchSamples.{samples}
use Rattle.crc.specs.Crc16.{crc_start}
use Rattle.packet_rules.specs.Symbols.{kind_of, control_kind}
use Rattle.capture_rules.specs.Capture.{characters_of, closing_bits, legal}
use Rattle.packet_rules.specs.Answers.{Said, nothing, started, gave_byte, ended, replied, violated}
use Rattle.segment_size.specs.Sizes.{size_allowed}
use Rattle.packet_rules.specs.State.{fresh, well_formed}
use Rattle.packet_rules.specs.Violations.{violation_of}
use Rattle.packet_rules.specs.Step.{broken, dropped, read_of, step_of}
use Rattle.packet_rules.specs.Line.{said_of}
use Rattle.listing_rules.specs.Text.{decimal}
use Rattle.listing_rules.specs.Lines.{fields_of, event_line, listed, lines_from, events_in, header, end_line, listing_of}

-- its two characters: IDL, then D21.5
example_read : readings_of (characters_of (0x3D ∷ 0x2A ∷ 0xA0 ∷ [])) (negsuc 0) ≡ clean (K 28 0) (negsuc 0) ∷ clean (D 21 5) (negsuc 0) ∷ []
unfolding characters_of
example_read =
    ap (λ (r : Reading). r ∷ readings_of (0b1010101010 ∷ []) (new_disparity (negsuc 0) r.disparity)) samples.idle
    ∙ ap (λ (r : Reading). clean (K 28 0) (negsuc 0) ∷ r ∷ []) samples.d21_5

-- place event detail; 1 violation 9; end 2 1
pub document_example : listing_of (0x3D ∷ 0x2A ∷ 0xA0 ∷ []) ≡ 112 ∷ 108 ∷ 97 ∷ 99 ∷ 101 ∷ 32 ∷ 101 ∷ 118 ∷ 101 ∷ 110 ∷ 116 ∷ 32 ∷ 100 ∷ 101 ∷ 116 ∷ 97
    ∷ 105 ∷ 108 ∷ 10 ∷ 49 ∷ 32 ∷ 118 ∷ 105 ∷ 111 ∷ 108 ∷ 97 ∷ 116 ∷ 105 ∷ 111 ∷ 110 ∷ 32 ∷ 57 ∷ 10 ∷ 101 ∷ 110 ∷ 100 ∷ 32 ∷ 50 ∷ 32 ∷ 49 ∷ 10 ∷ []
unfolding listing_of legal closing_bits characters_of said_of step_of read_of size_allowed well_formed violation_of broken dropped lines_from events_in decimal is_twelve kind_of control_kind crc_start
document_example =
    ap (λ (gs : List Reading). header ++ (lines_from 0 (said_of (fresh 8) gs) ++ end_line 2 (events_in (said_of (fresh 8) gs)))) example_read

-- place event detail; end 0 0
pub empty_capture : listing_of [] ≡ 112 ∷ 108 ∷ 97 ∷ 99 ∷ 101 ∷ 32 ∷ 101 ∷ 118 ∷ 101 ∷ 110 ∷ 116 ∷ 32 ∷ 100 ∷ 101 ∷ 116 ∷ 97 ∷ 105 ∷ 108 ∷ 10 ∷ 101
    ∷ 110 ∷ 100 ∷ 32 ∷ 48 ∷ 32 ∷ 48 ∷ 10 ∷ []
unfolding listing_of legal closing_bits characters_of said_of lines_from events_in decimal
empty_capture = refl

-- refused 8: a length with remainder 1 by 5, and a closing bit
pub wrong_length : listing_of (replicate 6 0) ≡ 114 ∷ 101 ∷ 102 ∷ 117 ∷ 115 ∷ 101 ∷ 100 ∷ 32 ∷ 56 ∷ 10 ∷ []
unfolding listing_of legal closing_bits decimal
wrong_length = refl

pub closing_bit : listing_of (0x3D ∷ 0x2A ∷ 0xA1 ∷ []) ≡ 114 ∷ 101 ∷ 102 ∷ 117 ∷ 115 ∷ 101 ∷ 100 ∷ 32 ∷ 56 ∷ 10 ∷ []
unfolding listing_of legal closing_bits decimal
closing_bit = refl

-- 7 violation 10; 7 violation 1; 7 start data 255; 7 start priority 2; 7 end good; 7 end bad; 7 lmp ACK 0; 7 lmp NACK 15; no line; no line
abbrev pub events : List Said
events = violated 10 ∷ violated 1 ∷ started 255 none ∷ started 2 (some 13) ∷ ended false ∷ ended true ∷ replied false 0 ∷ replied true 15 ∷ nothing ∷ gave_byte 65 ∷ []

abbrev pub texts : List (List ℕ)
texts =
    (55 ∷ 32 ∷ 118 ∷ 105 ∷ 111 ∷ 108 ∷ 97 ∷ 116 ∷ 105 ∷ 111 ∷ 110 ∷ 32 ∷ 49 ∷ 48 ∷ 10 ∷ [])
    ∷ (55 ∷ 32 ∷ 118 ∷ 105 ∷ 111 ∷ 108 ∷ 97 ∷ 116 ∷ 105 ∷ 111 ∷ 110 ∷ 32 ∷ 49 ∷ 10 ∷ [])
    ∷ (55 ∷ 32 ∷ 115 ∷ 116 ∷ 97 ∷ 114 ∷ 116 ∷ 32 ∷ 100 ∷ 97 ∷ 116 ∷ 97 ∷ 32 ∷ 50 ∷ 53 ∷ 53 ∷ 10 ∷ [])
    ∷ (55 ∷ 32 ∷ 115 ∷ 116 ∷ 97 ∷ 114 ∷ 116 ∷ 32 ∷ 112 ∷ 114 ∷ 105 ∷ 111 ∷ 114 ∷ 105 ∷ 116 ∷ 121 ∷ 32 ∷ 50 ∷ 10 ∷ [])
    ∷ (55 ∷ 32 ∷ 101 ∷ 110 ∷ 100 ∷ 32 ∷ 103 ∷ 111 ∷ 111 ∷ 100 ∷ 10 ∷ [])
    ∷ (55 ∷ 32 ∷ 101 ∷ 110 ∷ 100 ∷ 32 ∷ 98 ∷ 97 ∷ 100 ∷ 10 ∷ [])
    ∷ (55 ∷ 32 ∷ 108 ∷ 109 ∷ 112 ∷ 32 ∷ 65 ∷ 67 ∷ 75 ∷ 32 ∷ 48 ∷ 10 ∷ [])
    ∷ (55 ∷ 32 ∷ 108 ∷ 109 ∷ 112 ∷ 32 ∷ 78 ∷ 65 ∷ 67 ∷ 75 ∷ 32 ∷ 49 ∷ 53 ∷ 10 ∷ [])
    ∷ []
    ∷ []
    ∷ []

pub each_event : map (λ (e : Said). event_line 7 (fields_of e)) events ≡ texts
unfolding decimal
each_event = refl

-- and each counts 1 but nothing and a byte
pub each_counts : map (λ (e : Said). listed (fields_of e)) events ≡ 1 ∷ 1 ∷ 1 ∷ 1 ∷ 1 ∷ 1 ∷ 1 ∷ 1 ∷ 0 ∷ 0 ∷ []
each_counts = refl

-- from place 0: the place counts every character, the events only those that are listed
pub places_counted : lines_from 0 (nothing ∷ gave_byte 1 ∷ ended false ∷ nothing ∷ replied true 9 ∷ []) ≡ 50 ∷ 32 ∷ 101 ∷ 110 ∷ 100 ∷ 32 ∷ 103 ∷ 111
    ∷ 111 ∷ 100 ∷ 10 ∷ 52 ∷ 32 ∷ 108 ∷ 109 ∷ 112 ∷ 32 ∷ 78 ∷ 65 ∷ 67 ∷ 75 ∷ 32 ∷ 57 ∷ 10 ∷ []
unfolding lines_from decimal
places_counted = refl

pub events_counted : events_in (nothing ∷ gave_byte 1 ∷ ended false ∷ nothing ∷ replied true 9 ∷ []) ≡ 2
unfolding events_in
events_counted = refl
