-- Bytes are a state's where they are the bytes of what they stand for.
use Rattle.std.proofs.Common.{rules, ap, sym, ◌∙◌}
use lib.Dec.{eqb}
use lib.Pointwise.{pointwise}
use mathlib.Core.List.{List}
use Prim.Native.Nat.{ℕ}
use Rattle.host_rules.specs.ReaderBytes.{reader_bytes}
use Rattle.host_rules.proofs.ReaderSame.{is_its_own}
use Rattle.host_reader_bytes.proofs.is_reader.Goals as goal

pub returns : goal.returns
returns c =
    let b = c.args.b in
    c.eq.ensures ∙ ap (λ (again : List ℕ). pointwise eqb again b) (c.reader_bytes.ensures ∙ ap reader_bytes c.reader_in.ensures)
    ∙ sym (is_its_own b (search rules) (search rules))
