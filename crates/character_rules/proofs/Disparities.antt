-- A disparity is one of two, and the blocks keep it one.
-- Assumes nothing.
use mathlib.Core.Path.{◌≡◌, refl, sym, subst}
use mathlib.Core.Bool.{Bool, true, false, cond, ◌||◌}
use Prim.Native.Nat.{ℕ}
use lib.Dec.{T, eqb, eqb→eq}
use lib.IntN.{ℤ, pos, negsuc, neg_ℤ}
use Rattle.symbol.specs.declared.Symbol.{Symbol}
use Rattle.character_rules.specs.Disparity.{is_plus, is_disparity, disparity_of}
use Rattle.character_rules.specs.Blocks.{unbalanced, turned, first_block, between, second_block, closing}

-- what holds of +1 and of −1 holds of every disparity
pub both_ways : (P : ℤ → Type 0) → P (pos 1) → P (negsuc 0) → (d : ℤ) → T (is_disparity d) → P d
both_ways P p m (pos n) t = subst (λ (k : ℕ). P (pos k)) (sym (eqb→eq n 1 (or_false (eqb n 1) t))) p
  where
    or_false : (b : Bool) → T (b || false) → T b
    or_false true u = tt
    or_false false u = u
both_ways P p m (negsuc n) t = subst (λ (k : ℕ). P (negsuc k)) (sym (eqb→eq n 0 t)) m

pub opposite : (d : ℤ) → T (is_disparity d) → T (is_disparity (neg_ℤ d))
opposite = both_ways (λ (d : ℤ). T (is_disparity (neg_ℤ d))) tt tt

-- a disparity is told by its sign
pub by_sign : (d : ℤ) → T (is_disparity d) → disparity_of (is_plus d) ≡ d
by_sign = both_ways (λ (d : ℤ). disparity_of (is_plus d) ≡ d) refl refl

pub turned_disparity : (half b : ℕ) (d : ℤ) → T (is_disparity d) → T (is_disparity (turned half b d))
turned_disparity half b d t = go (unbalanced half b)
  where
    go : (u : Bool) → T (is_disparity (cond u (neg_ℤ d) d))
    go true = opposite d t
    go false = t

-- a character closes at a disparity
pub closing_disparity : (s : Symbol) (d : ℤ) → T (is_disparity d) → T (is_disparity (closing s d))
unfolding closing between
closing_disparity s d t = turned_disparity 2 (second_block s d) (turned 3 (first_block s d) d) (turned_disparity 3 (first_block s d) d t)
