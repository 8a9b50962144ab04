-- The answer taken apart: a reader's bytes, or a refusal.
use mathlib.Core.Path.{refl}
use Rattle.host_calls.proofs.PacketLaws.{begin_done, begin_refused}
use Rattle.host_packet_reader.proofs.buzz_reader_fresh.Goals as goal

pub returns-in-Ok : goal.returns-in-Ok
returns-in-Ok c = rw (begin_done c.args.size c.args.reader.now _ c.in-Ok.ensures) (refl, c.reader_bytes.ensures)

pub returns-in-Err : goal.returns-in-Err
returns-in-Err c = rw (begin_refused c.args.size c.args.reader.now _ c.in-Err.ensures) (c.from.ensures, refl)
