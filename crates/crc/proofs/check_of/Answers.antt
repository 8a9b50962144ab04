-- The check bytes of the register after the message.
use mathlib.Core.Path.{sym, ap, ◌∙◌}
use Prim.Native.Nat.{ℕ}
use Rattle.crc.specs.Crc16.{crc_from, check_bytes_of, crc_of}
use Rattle.crc.proofs.Laws.{start_value}
use Rattle.crc.proofs.check_of.Goals as goal

pub returns : goal.returns
unfolding crc_of
returns c =
    let xs = c.args.bytes.now in
    c.check_bytes.ensures
    ∙ ap check_bytes_of (c.run-register.ensures ∙ ap (λ (r : ℕ). crc_from r xs) (sym start_value))
