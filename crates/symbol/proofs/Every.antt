-- What a test says of each symbol, by one computation over all of them.
-- Assumes nothing.
use mathlib.Core.Bool.{Bool, true, false, not, ◌||◌}
use Prim.Native.Nat.{ℕ, ◌<◌}
use lib.Dec.{T}
use Rattle.laws.specs.Lists.{all_of, count_from}
use Rattle.laws.proofs.Listed.{one_of_all}
use Rattle.laws.proofs.Table.{every, at}
use Rattle.symbol.specs.Symbols.{twelve, is_twelve, data_symbol, control_symbol, is_symbol}
use Rattle.symbol.specs.declared.Symbol.{Symbol}

-- of the 256 of data and the twelve of control
pub every_symbol :
    (f : Symbol → Bool) → T (every (λ b x. f (data_symbol b)) 0 (count_from 0 256)) → T (all_of (λ b. f (control_symbol b)) twelve)
    → (s : Symbol) → s.byte < 256 → T (is_symbol s) → T (f s)
unfolding is_twelve
every_symbol f t u s h i = go s.byte s.control h i
  where
    go : (b : ℕ) (control : Bool) → b < 256 → T (not control || is_twelve b) → T (f (record { byte = b; control = control }))
    go b false k v = at (λ n x. f (data_symbol n)) (count_from 0 256) t b k
    go b true k v = one_of_all (λ n. f (control_symbol n)) twelve b u v
