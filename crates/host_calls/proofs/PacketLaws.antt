-- Each call of the packet reader and writer by what its answer says: a refusal leaves all as it stood.
-- Assumes nothing.
use Prim.Native.Nat.{ℕ}
use mathlib.Core.Path.{◌≡◌, refl}
use mathlib.Core.List.{List}
use lib.IntN.{ℤ}
use native.Mathlib.Omega.{arith}
use Rattle.std.specs.Prelude.{Result, Ok, Err}
use Rattle.refusal.specs.declared.Refusal.{Refusal}
use Rattle.refusal.specs.Order.{number_of, refusal_says}
use Rattle.refusal.proofs.Answers.{has_number}
use Rattle.packet_rules.specs.declared.Reader.{Reader}
use Rattle.packet_rules.specs.declared.Event.{Event}
use Rattle.packet_rules.specs.declared.Written.{Written}
use Rattle.packet_rules.specs.Answers.{made, not_made, event_says, answer_says}
use Rattle.packet_rules.specs.State.{fresh_reader}
use Rattle.packet_rules.specs.Packets.{Packet, wrote, not_wrote, written_says, packet_writing, packet_output}
use Rattle.packet_rules.proofs.Packets.{packet_leaves}
use Rattle.host_rules.specs.Numbers.{or_old}
use Rattle.host_rules.specs.ReaderBytes.{reader_bytes}
use Rattle.host_rules.specs.Stepping.{step_numbers, step_leaves, told_of}
use Rattle.host_rules.proofs.Stepping.{leaves_old, leaves_new, refuses_nothing}
use Rattle.host_rules.proofs.Numbers.{done_called, refused_called}
use Rattle.host_calls.specs.PacketCalls.{begins, Steps, steps, WritesPacket, writes_packet}
use Rattle.host_calls.proofs.Same.{same_called, call_done}

module _ (size : ℕ) (old : List ℕ) where
  pub begin_done : (r : Reader) → made r ≡ fresh_reader size → begins size old ≡ record { refusal = 0; lent = reader_bytes r }
  unfolding begins
  begin_done r e = rw (← e) (done_called _ _ _ refl)

  pub begin_refused : (n : ℕ) → not_made n ≡ fresh_reader size → begins size old ≡ record { refusal = n; lent = old }
  unfolding begins
  begin_refused n e = rw (← e) (same_called n old)

module _ (violation byte control : ℕ) (old : Steps) where
  -- the state's bytes as the step leaves them, which on a refusal are as they stood
  abbrev pub state : List ℕ
  state = step_leaves old.reader violation byte control

  pub step_refused :
      (r : Refusal) → answer_says (Err r) ≡ (step_numbers old.reader violation byte control).said
      → steps violation byte control old
      ≡ record { refusal = number_of r; lent = record { reader = state; event = old.event; value = old.value; number = old.number } }
  unfolding steps told_of
  step_refused r e =
      rw (leaves_old old.reader violation byte control r e, ← e)
      (refused_called _ _ _ (λ z. omega (arith, has_number r, z)))

  pub step_done :
      (e : Event) → event_says e ≡ (step_numbers old.reader violation byte control).said
      → steps violation byte control old
      ≡ record {
        refusal = 0;
        lent = record {
          reader = state;
          event = (told_of (event_says e)).event;
          value = (told_of (event_says e)).value;
          number = (told_of (event_says e)).number;
        };
      }
  unfolding steps told_of
  step_done e h =
      rw (leaves_new old.reader violation byte control e h, ← h) (call_done _ _ _ (refuses_nothing e))

module _ (size : ℕ) (packet : Packet) (old : WritesPacket) where
  -- the characters as the rule says, which on a refusal are as they stood
  abbrev pub characters : List ℕ
  characters = packet_output size packet old.disparity old.characters

  -- a packet that is written, and one that is refused
  pub packet_done :
      (n : ℕ) (d : ℤ) → wrote n d ≡ packet_writing size packet old.disparity old.characters
      → writes_packet size packet old ≡ record { refusal = 0; lent = record { disparity = d; characters = characters; count = n } }
  unfolding writes_packet
  packet_done n d e = rw (← e) (done_called _ _ _ refl)

  pub packet_refused :
      (n : ℕ) → not_wrote n ≡ packet_writing size packet old.disparity old.characters
      → writes_packet size packet old ≡ record { refusal = n; lent = record { disparity = old.disparity; characters = characters; count = old.count } }
  unfolding writes_packet
  packet_refused n e = rw (← e, packet_leaves size packet old.disparity old.characters n e) (same_called n old)

  -- both by what the writer's answer says
  pub packet_told :
      (w : Result Written Refusal) → written_says w ≡ packet_writing size packet old.disparity old.characters
      → writes_packet size packet old
      ≡ record {
        refusal = refusal_says w;
        lent = record {
          disparity = or_old (written_says w).disparity old.disparity;
          characters = characters;
          count = or_old (written_says w).count old.count;
        };
      }
  packet_told (Ok w) e = packet_done w.count w.disparity e
  packet_told (Err r) e = packet_refused (number_of r) e
