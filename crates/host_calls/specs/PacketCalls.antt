-- What the packet reader's and writer's calls come to for C: the refusal's number, and what all that is lent holds afterwards, given what stood there.
use Rattle.std.specs.Prelude.{ℕ, List, ℤ}
use Rattle.packet_rules.specs.State.{fresh_reader}
use Rattle.packet_rules.specs.Packets.{Packet, packet_writing, packet_output}
use Rattle.host_rules.specs.Numbers.{or_old, Called, called}
use Rattle.host_rules.specs.ReaderBytes.{reader_bytes}
use Rattle.host_rules.specs.Stepping.{bytes_made, step_numbers, told_of}

-- a reader before any character, for segments of S bytes
unfoldable pub begins : ℕ → List ℕ → Called (List ℕ)
begins size old =
    let said = fresh_reader size in
    called (or_old said.refusal 0) old (or_old (bytes_made said.reader) old)

pub record Steps : Type 0 where
  pub reader : List ℕ
  pub event : ℕ
  pub value : ℕ
  pub number : ℕ

-- one character result in, one event out
unfoldable pub steps : ℕ → ℕ → ℕ → Steps → Called Steps
steps violation byte control old =
    let answer = step_numbers old.reader violation byte control in
    let told = told_of answer.said in
    called told.refusal old
    (record { reader = reader_bytes answer.reader; event = told.event; value = told.value; number = told.number })

pub record WritesPacket : Type 0 where
  pub disparity : ℤ
  pub characters : List ℕ
  pub count : ℕ

-- a packet of segments of S bytes, or a retry LMP, is written into the front of a run; the disparity becomes the closing one
unfoldable pub writes_packet : ℕ → Packet → WritesPacket → Called WritesPacket
writes_packet size packet old =
    let said = packet_writing size packet old.disparity old.characters in
    called (or_old said.refusal 0) old
    (record {
      disparity = or_old said.disparity old.disparity;
      characters = packet_output size packet old.disparity old.characters;
      count = or_old said.count old.count;
    })
