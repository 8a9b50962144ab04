-- The entry's half holds what the rules say.
use mathlib.Core.Path.{◌∙◌, ap, subst, sym}
use mathlib.Core.List.{List}
use Prim.Native.Nat.{ℕ, ◌<◌}
use lib.ListN.{get_or}
use Rattle.run_table.proofs.Halves.{half_right, half_low}
use Rattle.character_rules.specs.Disparity.{half_of}
use Rattle.run_reader.proofs.half_of.Goals as goal

pub returns : goal.returns
returns c =
    let a = c.args in
    let e = ap (λ (l : List ℕ). half_of (get_or l a.character 0) a.p) c.requires.0 in (
      e ∙ half_right a.character c.requires.1 a.p c.requires.2,
      subst (λ (n : ℕ). n < 4096) (sym e) (half_low a.character c.requires.1 a.p c.requires.2),
    )
