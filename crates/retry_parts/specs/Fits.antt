-- Bytes that are laid into lent memory only where they fit.
use Rattle.std.specs.Prelude.{ℕ, ◌+◌, Bool, cond, List, leb, length}
use Rattle.retry_rules.specs.Lent.{laid}

abbrev pub fits_at : List ℕ → ℕ → List ℕ → Bool
fits_at old at bytes = leb (at + length bytes) (length old)

abbrev pub laid_if_fits : List ℕ → ℕ → List ℕ → List ℕ
laid_if_fits old at bytes = cond (fits_at old at bytes) (laid old at bytes) old
