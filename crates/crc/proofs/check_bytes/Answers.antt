-- The register's two bytes turned over, the low one first.
use mathlib.Core.Path.{◌≡◌, sym, ap, ◌∙◌}
use mathlib.Core.List.{[], ◌∷◌}
use Prim.Native.Nat.{ℕ, ◌-◌, ◌/◌, ◌%◌}
use native.Mathlib.Omega.{arith}
use Rattle.crc.proofs.Laws.{check_bytes_lem}
use Rattle.crc.proofs.check_bytes.Goals as goal

pub returns : goal.returns
returns c =
    let r = c.args.register in
    let m : r / 256 ≡ r / 256 % 256 = omega arith in
    ap (λ (x : ℕ). (255 - r % 256) ∷ (255 - x) ∷ []) m ∙ sym (check_bytes_lem r)
