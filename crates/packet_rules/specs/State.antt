-- The reader's state: what is open, what a packet so far has, and the state's written rule.
use Rattle.std.specs.Prelude.{ℕ, ◌+◌, Bool, true, false, not, ◌&&◌, ◌||◌, [], ◌∷◌, eqb, ltb, leb, Some, None}
use Rattle.segment_size.specs.Sizes.{size_allowed}
use Rattle.refusal.specs.Order.{check, outcome}
use Rattle.crc.specs.Crc16.{crc_start, crc_byte}
use Rattle.packet_rules.specs.Open.{OpenData, OpenPriority, open_data, open_priority}
use Rattle.packet_rules.specs.declared.Due.{Due}
use Rattle.packet_rules.specs.declared.Due.TheVariants.{Channel, Opening, Closing, FirstCrc, SecondCrc, LmpType, LmpNumber, LmpCheck}
use Rattle.packet_rules.specs.declared.Phase.{Phase}
use Rattle.packet_rules.specs.declared.Phase.TheVariants.{Free, Next, Idles, Dropping}
use Rattle.packet_rules.specs.declared.Reader.{Reader}
use Rattle.packet_rules.specs.Answers.{Made, made, not_made}

-- ---- what is open. A byte, an end and its CRC belong to the priority packet where one is open, and else to the data packet.

abbrev pub no_priority : OpenPriority → Bool
no_priority None = true
no_priority (Some inner) = false

abbrev pub outside : OpenData → OpenPriority → Bool
outside d (Some inner) = false
outside (Some outer) None = false
outside None None = true

-- the packet has a byte
abbrev pub has_byte : OpenData → OpenPriority → Bool
has_byte d (Some inner) = ltb 0 inner.count
has_byte (Some outer) None = outer.begun
has_byte None None = false

-- the byte after its start symbol, which comes again after its end symbol
abbrev pub opening_byte : OpenData → OpenPriority → ℕ
opening_byte d (Some inner) = inner.opening
opening_byte (Some outer) None = outer.channel
opening_byte None None = 0

-- the CRC register over its own bytes
abbrev pub register_in : OpenData → OpenPriority → ℕ
register_in d (Some inner) = inner.register
register_in (Some outer) None = outer.register
register_in None None = crc_start

-- the packets after one more byte: it goes to the packet it belongs to, its count and its register
abbrev pub fed_priority : OpenPriority → ℕ → OpenPriority
fed_priority (Some inner) b = open_priority inner.opening (inner.count + 1) (crc_byte inner.register b)
fed_priority None b = None

abbrev pub fed_data : OpenData → OpenPriority → ℕ → OpenData
fed_data d (Some inner) b = d
fed_data (Some outer) None b = open_data outer.channel true (crc_byte outer.register b)
fed_data None None b = None

-- ---- the written rule

-- no byte yet: the register is at its start
abbrev pub data_rule : OpenData → Bool
data_rule None = true
data_rule (Some outer) = outer.begun || eqb outer.register crc_start

-- and never more than S bytes
abbrev pub priority_rule : ℕ → OpenPriority → Bool
priority_rule s None = true
priority_rule s (Some inner) = leb inner.count s && (ltb 0 inner.count || eqb inner.register crc_start)

-- a packet is opened where it may stand, and closed after a byte
abbrev pub due_rule : OpenData → OpenPriority → Due → Bool
due_rule d p Channel = outside d p
due_rule d p Opening = no_priority p
due_rule d p (Closing bad) = has_byte d p
due_rule d p (FirstCrc bad) = has_byte d p
due_rule d p (SecondCrc bad a) = has_byte d p
due_rule d p LmpType = true
due_rule d p (LmpNumber t) = true
due_rule d p (LmpCheck t n) = true

-- while dropping nothing is open
abbrev pub phase_rule : OpenData → OpenPriority → Phase → Bool
phase_rule d p Free = true
phase_rule d p (Next due) = due_rule d p due
phase_rule d p (Idles n) = ltb 0 n && leb n 3
phase_rule d p Dropping = outside d p

unfoldable pub well_formed : Reader → Bool
well_formed r =
    size_allowed r.size
    && (data_rule r.packet && (priority_rule r.size r.priority && phase_rule r.packet r.priority r.phase))

-- ---- a fresh reader: outside, and not dropping; refusal 2 if S is not allowed

abbrev pub fresh : ℕ → Reader
fresh s = record { size = s; packet = None; priority = None; phase = Free }

unfoldable pub fresh_reader : ℕ → Made
fresh_reader s = outcome (check 2 (not (size_allowed s)) ∷ []) not_made (made (fresh s))
