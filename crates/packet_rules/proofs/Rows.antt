-- Worked lines from a fresh reader with S = 8, each with all that is said of it: every violation, and what it leaves.
-- Assumes nothing.
use mathlib.Core.Path.{◌≡◌, refl}
use mathlib.Core.Bool.{true, false, xor}
use mathlib.Core.List.{List, [], ◌∷◌, map}
use mathlib.Core.Option.{none, some}
use Prim.Native.Nat.{ℕ}
use lib.IntN.{pos}
use Rattle.segment_size.specs.Sizes.{size_allowed}
use Rattle.laws.specs.Check.{overlay, check_bit, check_bits, lowest_first, number_of, bits_of, bytes_of}
use Rattle.symbol.specs.Symbols.{data_symbol, control_symbol, is_twelve}
use Rattle.character_rules.specs.Answers.{Reading, clean, wrong_disparity, invalid}
use Rattle.crc.specs.Crc16.{crc_start, crc_from, check_bytes_of}
use Rattle.packet_rules.specs.Answers.{Said, nothing, started, gave_byte, ended, replied, violated, refused, made, not_made}
use Rattle.packet_rules.specs.State.{well_formed, fresh, fresh_reader}
use Rattle.packet_rules.specs.Symbols.{control_kind, kind_of}
use Rattle.packet_rules.specs.Violations.{violation_of}
use Rattle.packet_rules.specs.Step.{broken, dropped, read_of, step_of}
use Rattle.packet_rules.specs.Line.{SDP, said_of}

abbrev byte : ℕ → Reading
byte b = clean (data_symbol b) (pos 1)

abbrev control : ℕ → Reading
control b = clean (control_symbol b) (pos 1)

abbrev said : List Reading → List Said
said gs = said_of (fresh 8) gs

abbrev com_symbol : Reading
com_symbol = control 0xBC

abbrev idl : Reading
idl = control 0x1C

abbrev spp : Reading
spp = control 0x3C

abbrev sdp : Reading
sdp = control 0x5C

abbrev slp : Reading
slp = control 0xF7

abbrev egp : Reading
egp = control 0xFD

abbrev ebp : Reading
ebp = control 0xFE

abbrev aln : Reading
aln = control 0x7C

abbrev k28_7 : Reading
k28_7 = control 0xFC

-- 5 is given at the differing byte
pub closing_byte_differs :
    said (sdp ∷ byte 0x05 ∷ byte 0x01 ∷ egp ∷ byte 0x06 ∷ [])
    ≡ nothing ∷ started 5 none ∷ gave_byte 1 ∷ nothing ∷ violated 5 ∷ []
unfolding said_of step_of read_of violation_of kind_of control_kind is_twelve size_allowed well_formed broken dropped crc_from crc_start check_bytes_of number_of check_bits check_bit overlay lowest_first bits_of bytes_of xor
closing_byte_differs = refl

-- "123456789" on channel 7: the CRC is 6E 90
pub own_bytes_only :
    said (sdp ∷ byte 0x07 ∷ byte 0x31 ∷ byte 0x32 ∷ byte 0x33 ∷ byte 0x34 ∷ byte 0x35 ∷ byte 0x36 ∷ byte 0x37 ∷ byte 0x38 ∷ byte 0x39 ∷ ebp
    ∷ byte 0x07 ∷ byte 0x6E ∷ byte 0x90 ∷ [])
    ≡ nothing ∷ started 7 none ∷ gave_byte 0x31 ∷ gave_byte 0x32 ∷ gave_byte 0x33 ∷ gave_byte 0x34 ∷ gave_byte 0x35 ∷ gave_byte 0x36 ∷ gave_byte 0x37
    ∷ gave_byte 0x38 ∷ gave_byte 0x39 ∷ nothing ∷ nothing ∷ nothing ∷ ended true ∷ []
unfolding said_of step_of read_of violation_of kind_of control_kind is_twelve size_allowed well_formed broken dropped crc_from crc_start check_bytes_of number_of check_bits check_bit overlay lowest_first bits_of bytes_of xor
own_bytes_only = refl

-- 6 is given at the second CRC byte, and the reader is outside and not dropping
pub crc_in_the_other_order :
    said (sdp ∷ byte 0x07 ∷ byte 0x31 ∷ byte 0x32 ∷ byte 0x33 ∷ byte 0x34 ∷ byte 0x35 ∷ byte 0x36 ∷ byte 0x37 ∷ byte 0x38 ∷ byte 0x39 ∷ egp
    ∷ byte 0x07 ∷ byte 0x90 ∷ byte 0x6E ∷ byte 0x00 ∷ byte 0x01 ∷ [])
    ≡ nothing ∷ started 7 none ∷ gave_byte 0x31 ∷ gave_byte 0x32 ∷ gave_byte 0x33 ∷ gave_byte 0x34 ∷ gave_byte 0x35 ∷ gave_byte 0x36 ∷ gave_byte 0x37
    ∷ gave_byte 0x38 ∷ gave_byte 0x39 ∷ nothing ∷ nothing ∷ nothing ∷ violated 6 ∷ nothing ∷ violated 9 ∷ []
unfolding said_of step_of read_of violation_of kind_of control_kind is_twelve size_allowed well_formed broken dropped crc_from crc_start check_bytes_of number_of check_bits check_bit overlay lowest_first bits_of bytes_of xor
crc_in_the_other_order = refl

-- byte S + 1 of a priority packet is 10, also if it is D0.0; IDL after byte S is not
pub byte_nine_of_eight :
    said (spp ∷ byte 0x12 ∷ byte 0x00 ∷ byte 0x00 ∷ byte 0x00 ∷ byte 0x00 ∷ byte 0x00 ∷ byte 0x00 ∷ byte 0x00 ∷ byte 0x00 ∷ idl ∷ byte 0x00 ∷ [])
    ≡ nothing ∷ started 2 (some 1) ∷ gave_byte 0 ∷ gave_byte 0 ∷ gave_byte 0 ∷ gave_byte 0 ∷ gave_byte 0 ∷ gave_byte 0 ∷ gave_byte 0 ∷ gave_byte 0 ∷ nothing ∷ violated 10 ∷ []
unfolding said_of step_of read_of violation_of kind_of control_kind is_twelve size_allowed well_formed broken dropped crc_from crc_start check_bytes_of number_of check_bits check_bit overlay lowest_first bits_of bytes_of xor
byte_nine_of_eight = refl

-- 7 closes nothing: the packet goes on
pub wrong_lmp_check :
    said (sdp ∷ byte 0x05 ∷ slp ∷ byte 0x20 ∷ byte 0x03 ∷ byte 0x24 ∷ byte 0x01 ∷ [])
    ≡ nothing ∷ started 5 none ∷ nothing ∷ nothing ∷ nothing ∷ violated 7 ∷ gave_byte 1 ∷ []
unfolding said_of step_of read_of violation_of kind_of control_kind is_twelve size_allowed well_formed broken dropped crc_from crc_start check_bytes_of number_of check_bits check_bit overlay lowest_first bits_of bytes_of xor
wrong_lmp_check = refl

-- 6 closes the nested packet only: the outer one goes on
pub wrong_nested_crc :
    said (sdp ∷ byte 0x05 ∷ byte 0x01 ∷ spp ∷ byte 0x12 ∷ byte 0x02 ∷ egp ∷ byte 0x12 ∷ byte 0x00 ∷ byte 0x00 ∷ byte 0x03 ∷ [])
    ≡ nothing ∷ started 5 none ∷ gave_byte 1 ∷ nothing ∷ started 2 (some 1) ∷ gave_byte 2 ∷ nothing ∷ nothing ∷ nothing ∷ violated 6 ∷ gave_byte 3 ∷ []
unfolding said_of step_of read_of violation_of kind_of control_kind is_twelve size_allowed well_formed broken dropped crc_from crc_start check_bytes_of number_of check_bits check_bit overlay lowest_first bits_of bytes_of xor
wrong_nested_crc = refl

-- an LMP with a nonzero reserved field, another type or another parameter is dropped as nothing; ACK and NACK are not
pub reserved_field :
    said (slp ∷ byte 0x20 ∷ byte 0x13 ∷ byte 0x33 ∷ slp ∷ byte 0x10 ∷ byte 0x03 ∷ byte 0x13 ∷ slp ∷ byte 0x22 ∷ byte 0x03 ∷ byte 0x21 ∷ slp
    ∷ byte 0x20 ∷ byte 0x03 ∷ byte 0x23 ∷ slp ∷ byte 0x21 ∷ byte 0x0F ∷ byte 0x2E ∷ [])
    ≡ nothing ∷ nothing ∷ nothing ∷ nothing ∷ nothing ∷ nothing ∷ nothing ∷ nothing ∷ nothing ∷ nothing ∷ nothing ∷ nothing ∷ nothing ∷ nothing
    ∷ nothing ∷ replied false 3 ∷ nothing ∷ nothing ∷ nothing ∷ replied true 15 ∷ []
unfolding said_of step_of read_of violation_of kind_of control_kind is_twelve size_allowed well_formed broken dropped crc_from crc_start check_bytes_of number_of check_bits check_bit overlay lowest_first bits_of bytes_of xor
reserved_field = refl

-- while dropping nothing is said of anything; a wrong SDP does not end it, a clean one does
pub silent_while_dropping :
    said (egp ∷ k28_7 ∷ aln ∷ invalid (pos 1) ∷ wrong_disparity SDP (pos 1) ∷ byte 0x09 ∷ com_symbol ∷ sdp ∷ byte 0x05 ∷ [])
    ≡ violated 4 ∷ nothing ∷ nothing ∷ nothing ∷ nothing ∷ nothing ∷ nothing ∷ nothing ∷ started 5 none ∷ []
unfolding said_of step_of read_of violation_of kind_of control_kind is_twelve size_allowed well_formed broken dropped crc_from crc_start check_bytes_of number_of check_bits check_bit overlay lowest_first bits_of bytes_of xor
silent_while_dropping = refl

-- K28.7 where a channel byte is due is 3, at the other disparity 2; an end outside packets is 4 and not 8
pub lowest_that_fits :
    said (sdp ∷ k28_7 ∷ sdp ∷ wrong_disparity (control_symbol 0xFC) (pos 1) ∷ sdp ∷ invalid (pos 1) ∷ sdp ∷ sdp ∷ slp ∷ byte 0x01 ∷ byte 0x02 ∷ byte 0x03 ∷ ebp ∷ [])
    ≡ nothing ∷ violated 3 ∷ nothing ∷ violated 2 ∷ nothing ∷ violated 1 ∷ nothing ∷ violated 4 ∷ nothing ∷ nothing ∷ nothing ∷ nothing ∷ violated 4 ∷ []
unfolding said_of step_of read_of violation_of kind_of control_kind is_twelve size_allowed well_formed broken dropped crc_from crc_start check_bytes_of number_of check_bits check_bit overlay lowest_first bits_of bytes_of xor
lowest_that_fits = refl

-- 8 is given at the end symbol, also if IDL, an LMP or a nested packet stood between
pub no_byte :
    said (sdp ∷ byte 0x05 ∷ idl ∷ slp ∷ byte 0x01 ∷ byte 0x02 ∷ byte 0x03 ∷ egp ∷ [])
    ≡ nothing ∷ started 5 none ∷ nothing ∷ nothing ∷ nothing ∷ nothing ∷ nothing ∷ violated 8 ∷ []
unfolding said_of step_of read_of violation_of kind_of control_kind is_twelve size_allowed well_formed broken dropped crc_from crc_start check_bytes_of number_of check_bits check_bit overlay lowest_first bits_of bytes_of xor
no_byte = refl

-- a data byte where COM's IDL is due is 4, and it closes all open packets
pub sequence_broken_into :
    said (sdp ∷ byte 0x05 ∷ byte 0x01 ∷ com_symbol ∷ idl ∷ byte 0x00 ∷ egp ∷ [])
    ≡ nothing ∷ started 5 none ∷ gave_byte 1 ∷ nothing ∷ nothing ∷ violated 4 ∷ nothing ∷ []
unfolding said_of step_of read_of violation_of kind_of control_kind is_twelve size_allowed well_formed broken dropped crc_from crc_start check_bytes_of number_of check_bits check_bit overlay lowest_first bits_of bytes_of xor
sequence_broken_into = refl

-- SPP in a priority packet, SDP in a data packet or a priority packet: 4
pub neither_in_its_own_kind :
    said (spp ∷ byte 0x12 ∷ spp ∷ sdp ∷ byte 0x05 ∷ sdp ∷ spp ∷ byte 0x12 ∷ sdp ∷ [])
    ≡ nothing ∷ started 2 (some 1) ∷ violated 4 ∷ nothing ∷ started 5 none ∷ violated 4 ∷ nothing ∷ started 2 (some 1) ∷ violated 4 ∷ []
unfolding said_of step_of read_of violation_of kind_of control_kind is_twelve size_allowed well_formed broken dropped crc_from crc_start check_bytes_of number_of check_bits check_bit overlay lowest_first bits_of bytes_of xor
neither_in_its_own_kind = refl

-- a control symbol that is none of the twelve is refused, clean or not, and the state stays
pub refused_symbol :
    said (sdp ∷ clean (control_symbol 0) (pos 1) ∷ wrong_disparity (control_symbol 1) (pos 1) ∷ byte 0x05 ∷ [])
    ≡ nothing ∷ refused 1 ∷ refused 1 ∷ started 5 none ∷ []
unfolding said_of step_of read_of violation_of kind_of control_kind is_twelve size_allowed well_formed broken dropped crc_from crc_start check_bytes_of number_of check_bits check_bit overlay lowest_first bits_of bytes_of xor
refused_symbol = refl

-- and so of a priority packet, alone or nested
pub no_byte_of_its_own :
    said (spp ∷ byte 0x12 ∷ egp ∷ sdp ∷ byte 0x05 ∷ byte 0x01 ∷ spp ∷ byte 0x12 ∷ ebp ∷ [])
    ≡ nothing ∷ started 2 (some 1) ∷ violated 8 ∷ nothing ∷ started 5 none ∷ gave_byte 1 ∷ nothing ∷ started 2 (some 1) ∷ violated 8 ∷ []
unfolding said_of step_of read_of violation_of kind_of control_kind is_twelve size_allowed well_formed broken dropped crc_from crc_start check_bytes_of number_of check_bits check_bit overlay lowest_first bits_of bytes_of xor
no_byte_of_its_own = refl

-- S = 8 allowed, up to 1,024; 4 and 12 refused, and so are 0 and 2,048
pub sizes :
    map fresh_reader (8 ∷ 1024 ∷ 4 ∷ 12 ∷ 0 ∷ 2048 ∷ []) ≡ made (fresh 8) ∷ made (fresh 1024) ∷ not_made 2 ∷ not_made 2 ∷ not_made 2 ∷ not_made 2 ∷ []
unfolding size_allowed fresh_reader
sizes = refl
