-- The packet reader's state as 15 bytes, and 15 bytes as a state. Numbers of two bytes have the high byte first.
--   0, 1  S                      2  the data packet's tag       3  its channel       4, 5  its register
--   6  the priority packet's tag     7  its opening byte     8, 9  its count     10, 11  its register
--   12  the phase's tag     13, 14  its two bytes. What a tag has no use for is zero.
use Rattle.std.specs.Prelude.{ℕ, ◌+◌, ◌*◌, ◌/◌, ◌%◌, Bool, true, false, cond, ◌&&◌, List, [], ◌∷◌, eqb, get_or, Some, None}
use Rattle.packet_rules.specs.Open.{OpenData, OpenPriority, open_data, open_priority}
use Rattle.packet_rules.specs.declared.Due.{Due}
use Rattle.packet_rules.specs.declared.Due.TheVariants.{Channel, Opening, Closing, FirstCrc, SecondCrc, LmpType, LmpNumber, LmpCheck}
use Rattle.packet_rules.specs.declared.Phase.{Phase}
use Rattle.packet_rules.specs.declared.Phase.TheVariants.{Free, Next, Idles, Dropping}
use Rattle.packet_rules.specs.declared.Reader.{Reader}
use Rattle.packet_rules.specs.Answers.{Made, made, not_made}
use Rattle.host_rules.specs.Numbers.{mark_of, mark_number}

abbrev pub two : ℕ → ℕ → ℕ
two high low = high * 256 + low

-- ---- the data packet: 0 none, 1 open and no byte yet, 2 open with a byte

abbrev pub packet_tag : OpenData → ℕ
packet_tag None = 0
packet_tag (Some outer) = cond outer.begun 2 1

abbrev pub packet_channel : OpenData → ℕ
packet_channel None = 0
packet_channel (Some outer) = outer.channel

abbrev pub packet_register : OpenData → ℕ
packet_register None = 0
packet_register (Some outer) = outer.register

unfoldable pub packet_of : ℕ → ℕ → ℕ → OpenData
packet_of tag channel register =
    cond (eqb tag 1) (open_data channel false register) (cond (eqb tag 2) (open_data channel true register) None)

-- ---- the priority packet: 0 none, 1 open

abbrev pub priority_tag : OpenPriority → ℕ
priority_tag None = 0
priority_tag (Some inner) = 1

abbrev pub priority_opening : OpenPriority → ℕ
priority_opening None = 0
priority_opening (Some inner) = inner.opening

abbrev pub priority_count : OpenPriority → ℕ
priority_count None = 0
priority_count (Some inner) = inner.count

abbrev pub priority_register : OpenPriority → ℕ
priority_register None = 0
priority_register (Some inner) = inner.register

unfoldable pub priority_of : ℕ → ℕ → ℕ → ℕ → OpenPriority
priority_of tag opening count register = cond (eqb tag 1) (open_priority opening count register) None

-- ---- the phase: 0 free, 1 dropping, 2 so many IDL due, from 3 on the byte that is due

abbrev pub due_tag : Due → ℕ
due_tag Channel = 3
due_tag Opening = 4
due_tag (Closing bad) = 5
due_tag (FirstCrc bad) = 6
due_tag (SecondCrc bad a) = 7
due_tag LmpType = 8
due_tag (LmpNumber t) = 9
due_tag (LmpCheck t n) = 10

abbrev pub due_first : Due → ℕ
due_first Channel = 0
due_first Opening = 0
due_first (Closing bad) = mark_number bad
due_first (FirstCrc bad) = mark_number bad
due_first (SecondCrc bad a) = mark_number bad
due_first LmpType = 0
due_first (LmpNumber t) = t
due_first (LmpCheck t n) = t

abbrev pub due_second : Due → ℕ
due_second Channel = 0
due_second Opening = 0
due_second (Closing bad) = 0
due_second (FirstCrc bad) = 0
due_second (SecondCrc bad a) = a
due_second LmpType = 0
due_second (LmpNumber t) = 0
due_second (LmpCheck t n) = n

abbrev pub phase_tag : Phase → ℕ
phase_tag Free = 0
phase_tag (Next due) = due_tag due
phase_tag (Idles n) = 2
phase_tag Dropping = 1

abbrev pub phase_first : Phase → ℕ
phase_first Free = 0
phase_first (Next due) = due_first due
phase_first (Idles n) = n
phase_first Dropping = 0

abbrev pub phase_second : Phase → ℕ
phase_second Free = 0
phase_second (Next due) = due_second due
phase_second (Idles n) = 0
phase_second Dropping = 0

abbrev pub lmp_of : ℕ → ℕ → ℕ → Phase
lmp_of tag a b =
    cond (eqb tag 8) (Next LmpType) (cond (eqb tag 9) (Next (LmpNumber a)) (cond (eqb tag 10) (Next (LmpCheck a b)) Free))

abbrev pub closing_of : ℕ → ℕ → ℕ → Phase
closing_of tag a b =
    cond (eqb tag 5) (Next (Closing (mark_of a)))
    (cond (eqb tag 6) (Next (FirstCrc (mark_of a))) (cond (eqb tag 7) (Next (SecondCrc (mark_of a) b)) (lmp_of tag a b)))

unfoldable pub phase_of : ℕ → ℕ → ℕ → Phase
phase_of tag a b =
    cond (eqb tag 1) Dropping
    (cond (eqb tag 2) (Idles a) (cond (eqb tag 3) (Next Channel) (cond (eqb tag 4) (Next Opening) (closing_of tag a b))))

-- ---- the state

unfoldable pub reader_bytes : Reader → List ℕ
reader_bytes r =
    r.size / 256 ∷ r.size % 256
    ∷ packet_tag r.packet ∷ packet_channel r.packet ∷ packet_register r.packet / 256 ∷ packet_register r.packet % 256
    ∷ priority_tag r.priority ∷ priority_opening r.priority ∷ priority_count r.priority / 256 ∷ priority_count r.priority % 256
    ∷ priority_register r.priority / 256 ∷ priority_register r.priority % 256
    ∷ phase_tag r.phase ∷ phase_first r.phase ∷ phase_second r.phase ∷ []

abbrev pub byte_at : List ℕ → ℕ → ℕ
byte_at b i = get_or b i 0

abbrev pub packet_in : List ℕ → OpenData
packet_in b = packet_of (byte_at b 2) (byte_at b 3) (two (byte_at b 4) (byte_at b 5))

abbrev pub priority_in : List ℕ → OpenPriority
priority_in b = priority_of (byte_at b 6) (byte_at b 7) (two (byte_at b 8) (byte_at b 9)) (two (byte_at b 10) (byte_at b 11))

abbrev pub phase_in : List ℕ → Phase
phase_in b = phase_of (byte_at b 12) (byte_at b 13) (byte_at b 14)

unfoldable pub reader_in : List ℕ → Reader
reader_in b =
    record { size = two (byte_at b 0) (byte_at b 1); packet = packet_in b; priority = priority_in b; phase = phase_in b }

-- ---- bytes that are the encoding of what they stand for: a tag of the list above, and zero where it has no use for a byte

unfoldable pub packet_fits : OpenData → ℕ → ℕ → ℕ → Bool
packet_fits p tag channel register =
    eqb (packet_tag p) tag && (eqb (packet_channel p) channel && eqb (packet_register p) register)

unfoldable pub priority_fits : OpenPriority → ℕ → ℕ → ℕ → ℕ → Bool
priority_fits p tag opening count register =
    eqb (priority_tag p) tag
    && (eqb (priority_opening p) opening && (eqb (priority_count p) count && eqb (priority_register p) register))

unfoldable pub phase_fits : Phase → ℕ → ℕ → ℕ → Bool
phase_fits p tag a b = eqb (phase_tag p) tag && (eqb (phase_first p) a && eqb (phase_second p) b)

unfoldable pub is_reader : List ℕ → Bool
is_reader b =
    packet_fits (packet_in b) (byte_at b 2) (byte_at b 3) (two (byte_at b 4) (byte_at b 5))
    && (priority_fits (priority_in b) (byte_at b 6) (byte_at b 7) (two (byte_at b 8) (byte_at b 9)) (two (byte_at b 10) (byte_at b 11))
    && phase_fits (phase_in b) (byte_at b 12) (byte_at b 13) (byte_at b 14))

-- the state of such bytes; refusal 1: bytes that encode no state
unfoldable pub loaded : List ℕ → Made
loaded b = cond (is_reader b) (made (reader_in b)) (not_made 1)
