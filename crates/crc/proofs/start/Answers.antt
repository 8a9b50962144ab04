-- All ones.
use mathlib.Core.Path.{sym}
use Rattle.crc.proofs.Laws.{start_value}
use Rattle.crc.proofs.start.Goals as goal

pub returns : goal.returns
returns c = sym start_value
