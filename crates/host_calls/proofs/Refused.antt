-- The law of refusals, for every call from C: where it is refused, everything lent is what stood there. And no call has a second outcome.
-- Assumes nothing.
use Prim.Native.Nat.{ℕ}
use mathlib.Core.Path.{◌≡◌, sym, ◌∙◌}
use mathlib.Core.List.{List}
use Rattle.packet_rules.specs.Packets.{Packet}
use Rattle.host_rules.specs.Numbers.{Called}
use Rattle.host_rules.proofs.Numbers.{lent_stands}
use Rattle.host_calls.specs.CharacterCalls.{writes, reads, reads_run}
use Rattle.host_calls.specs.CaptureCalls.{counts, finds, packs, unpacks}
use Rattle.host_calls.specs.PacketCalls.{begins, steps, writes_packet}
use Rattle.host_calls.specs.EventCalls.{reads_capture}
use Rattle.host_calls.specs.SenderCalls.{begins_sender, resets, hears, hears_damaged, ticks, offers, sends}
use Rattle.host_calls.specs.ReceiverCalls.{begins_receiver, arrives, arrives_damaged}

-- a call, of what stands in all that is lent to it, keeps it where it is refused
abbrev pub Keeps : {A : Type 0} → (A → Called A) → Type 0
Keeps {A} call = (old : A) → ((call old).refusal ≡ 0 → ⊥) → (call old).lent ≡ old

pub write_keeps : (byte control : ℕ) → Keeps (writes byte control)
unfolding writes
write_keeps byte control old = lent_stands _ _ _

pub read_keeps : (character : ℕ) → Keeps (reads character)
unfolding reads
read_keeps character old = lent_stands _ _ _

pub run_keeps : (characters : List ℕ) → Keeps (reads_run characters)
unfolding reads_run
run_keeps characters old = lent_stands _ _ _

pub count_keeps : (capture : List ℕ) → Keeps (counts capture)
unfolding counts
count_keeps capture old = lent_stands _ _ _

pub find_keeps : (capture : List ℕ) (place : ℕ) → Keeps (finds capture place)
unfolding finds
find_keeps capture place old = lent_stands _ _ _

pub pack_keeps : (characters : List ℕ) → Keeps (packs characters)
unfolding packs
pack_keeps characters old = lent_stands _ _ _

pub unpack_keeps : (capture : List ℕ) → Keeps (unpacks capture)
unfolding unpacks
unpack_keeps capture old = lent_stands _ _ _

pub begin_keeps : (size : ℕ) → Keeps (begins size)
unfolding begins
begin_keeps size old = lent_stands _ _ _

pub step_keeps : (violation byte control : ℕ) → Keeps (steps violation byte control)
unfolding steps
step_keeps violation byte control old = lent_stands _ _ _

pub packet_keeps : (size : ℕ) (packet : Packet) → Keeps (writes_packet size packet)
unfolding writes_packet
packet_keeps size packet old = lent_stands _ _ _

pub capture_keeps : (capture : List ℕ) → Keeps (reads_capture capture)
unfolding reads_capture
capture_keeps capture old = lent_stands _ _ _

pub begin_sender_keeps : (columns size : ℕ) → Keeps (begins_sender columns size)
unfolding begins_sender
begin_sender_keeps columns size old = lent_stands _ _ _

pub reset_keeps : (columns size : ℕ) → Keeps (resets columns size)
unfolding resets
reset_keeps columns size old = lent_stands _ _ _

pub reply_keeps : (nack number : ℕ) → Keeps (hears nack number)
unfolding hears
reply_keeps nack number old = lent_stands _ _ _

pub damaged_reply_keeps : Keeps hears_damaged
unfolding hears_damaged
damaged_reply_keeps old = lent_stands _ _ _

pub tick_keeps : Keeps ticks
unfolding ticks
tick_keeps old = lent_stands _ _ _

pub offer_keeps : (channel bad : ℕ) (bytes : List ℕ) → Keeps (offers channel bad bytes)
unfolding offers
offer_keeps channel bad bytes old = lent_stands _ _ _

pub send_keeps : (buffers : List ℕ) → Keeps (sends buffers)
unfolding sends
send_keeps buffers old = lent_stands _ _ _

pub begin_receiver_keeps : (size : ℕ) → Keeps (begins_receiver size)
unfolding begins_receiver
begin_receiver_keeps size old = lent_stands _ _ _

pub arrival_keeps : (number channel bad : ℕ) (bytes : List ℕ) (room : ℕ) → Keeps (arrives number channel bad bytes room)
unfolding arrives
arrival_keeps number channel bad bytes room old = lent_stands _ _ _

pub damaged_arrival_keeps : Keeps arrives_damaged
unfolding arrives_damaged
damaged_arrival_keeps old = lent_stands _ _ _

-- whatever a call is: two outcomes, each an answer and what is then lent, that both are what the call comes to, are one
pub one_outcome :
    {A : Type 0} (after : Called A) (r r' : ℕ) (lent lent' : A) → r ≡ after.refusal → lent ≡ after.lent → r' ≡ after.refusal
    → lent' ≡ after.lent → (r ≡ r') × (lent ≡ lent')
one_outcome after r r' lent lent' p q p' q' = (p ∙ sym p', q ∙ sym q')
