-- The line seen by a machine that keeps the balance and the last run of equal bits: what each character does to it.
-- Assumes nothing.
use mathlib.Core.Path.{◌≡◌, sym, subst}
use mathlib.Core.Bool.{Bool, true, false, cond, not, ◌&&◌, ◌||◌}
use Prim.Native.Nat.{ℕ, zero, suc, ◌<◌}
use lib.Dec.{T, eqb, leb, eqb→eq}
use lib.IntN.{ℤ, pos, negsuc}
use Rattle.laws.specs.Bits.{bits}
use Rattle.laws.proofs.Bools.{and_left, and_right, implied}
use Rattle.laws.proofs.Scan.{passes}
use Rattle.symbol.specs.Symbols.{is_twelve, is_symbol, is_writable}
use Rattle.symbol.specs.declared.Symbol.{Symbol}
use Rattle.symbol.proofs.Every.{every_symbol}
use Rattle.character_rules.specs.Disparity.{is_plus, is_disparity}
use Rattle.character_rules.specs.Blocks.{six_blocks, four_blocks, control_four_blocks, six_block, four_by_list, four_block, first_block, between, second_block, character, closing}
use Rattle.character_rules.specs.Line.{counted, within_three}
use Rattle.character_rules.proofs.Disparities.{both_ways}

pub record State : Type 0 where
  pub balance : ℤ
  pub last : ℕ
  pub run : ℕ

-- the run that ends with x
abbrev pub run_with : ℕ → ℕ → ℕ → ℕ
run_with v r x = cond (eqb x v) (suc r) 1

abbrev pub next : State → ℕ → State
next s x = record { balance = counted s.balance x; last = x; run = run_with s.last s.run x }

-- what is to hold after each bit
abbrev pub kept : State → Bool
kept s = within_three s.balance && leb s.run 5

-- ---- at the end of each character: the balance is the disparity; at +1 the last run is of at most three ones or one zero, at −1 of
-- at most three zeros or one one

abbrev up_to_one : ℕ → Bool
up_to_one zero = true
up_to_one (suc zero) = true
up_to_one (suc (suc n)) = false

abbrev up_to_three : ℕ → Bool
up_to_three zero = true
up_to_three (suc zero) = true
up_to_three (suc (suc zero)) = true
up_to_three (suc (suc (suc zero))) = true
up_to_three (suc (suc (suc (suc n)))) = false

abbrev rests : Bool → ℕ → ℕ → Bool
rests plus zero r = cond plus (up_to_one r) (up_to_three r)
rests plus (suc zero) r = cond plus (up_to_three r) (up_to_one r)
rests plus (suc (suc v)) r = false

abbrev is_same_number : ℤ → ℤ → Bool
is_same_number (pos m) (pos n) = eqb m n
is_same_number (pos m) (negsuc n) = false
is_same_number (negsuc m) (pos n) = false
is_same_number (negsuc m) (negsuc n) = eqb m n

same_number : (d e : ℤ) → T (is_same_number d e) → d ≡ e
same_number (pos m) (pos n) t = let e = eqb→eq m n t in λ i. pos (e i)
same_number (pos m) (negsuc n) t = absurd t
same_number (negsuc m) (pos n) t = absurd t
same_number (negsuc m) (negsuc n) t = let e = eqb→eq m n t in λ i. negsuc (e i)

abbrev pub at_end : ℤ → State → Bool
at_end d s = is_same_number s.balance d && rests (is_plus d) s.last s.run

-- the end of a character that closes at d
abbrev pub ends : ℤ → State → Bool
ends d s = is_disparity d && at_end d s

-- ---- one symbol, from every state that may stand before it: a test that antt computes

abbrev goes_on : Symbol → ℤ → ℕ → ℕ → Bool
goes_on s d v r = passes next kept (record { balance = d; last = v; run = r }) (bits 10 (character s d)) (ends (closing s d))

-- v is the bit of which up to three may stand, o the other
abbrev from_all : (ℕ → ℕ → Bool) → ℕ → ℕ → Bool
from_all f v o = (f v 0 && f v 1) && ((f v 2 && f v 3) && (f o 0 && f o 1))

abbrev goes_on_both : Symbol → Bool
goes_on_both s = not (is_writable s) || (from_all (goes_on s (pos 1)) 1 0 && from_all (goes_on s (negsuc 0)) 0 1)

all_go_on : (s : Symbol) → s.byte < 256 → T (is_symbol s) → T (goes_on_both s)
unfolding six_blocks four_blocks control_four_blocks six_block four_by_list four_block first_block between second_block character closing is_twelve
all_go_on = every_symbol goes_on_both tt tt

-- ---- from the test to every state

module _ (f : ℕ → ℕ → Bool) (v o : ℕ) (t : T (from_all f v o)) where
  front : T (f v 0 && f v 1)
  front = and_left (f v 0 && f v 1) _ t

  back : T ((f v 2 && f v 3) && (f o 0 && f o 1))
  back = and_right (f v 0 && f v 1) _ t

  long : (r : ℕ) → T (up_to_three r) → T (f v r)
  long zero u = and_left (f v 0) (f v 1) front
  long (suc zero) u = and_right (f v 0) (f v 1) front
  long (suc (suc zero)) u = and_left (f v 2) (f v 3) (and_left (f v 2 && f v 3) _ back)
  long (suc (suc (suc zero))) u = and_right (f v 2) (f v 3) (and_left (f v 2 && f v 3) _ back)
  long (suc (suc (suc (suc r)))) u = absurd u

  short : (r : ℕ) → T (up_to_one r) → T (f o r)
  short zero u = and_left (f o 0) (f o 1) (and_right (f v 2 && f v 3) _ back)
  short (suc zero) u = and_right (f o 0) (f o 1) (and_right (f v 2 && f v 3) _ back)
  short (suc (suc r)) u = absurd u

at_plus : (f : ℕ → ℕ → Bool) → T (from_all f 1 0) → (v r : ℕ) → T (rests true v r) → T (f v r)
at_plus f t zero r u = short f 1 0 t r u
at_plus f t (suc zero) r u = long f 1 0 t r u
at_plus f t (suc (suc v)) r u = absurd u

at_minus : (f : ℕ → ℕ → Bool) → T (from_all f 0 1) → (v r : ℕ) → T (rests false v r) → T (f v r)
at_minus f t zero r u = long f 0 1 t r u
at_minus f t (suc zero) r u = short f 0 1 t r u
at_minus f t (suc (suc v)) r u = absurd u

-- a character from any state that may stand before it keeps within the bounds at each bit, and leaves such a state
pub each :
    (s : Symbol) (d : ℤ) (u : State) → s.byte < 256 → T (is_symbol s) → T (is_writable s) → T (is_disparity d) → T (at_end d u)
    → T (passes next kept u (bits 10 (character s d)) (ends (closing s d)))
each s d u h j w t i =
    let p = from_all (goes_on s (pos 1)) 1 0 in
    let m = from_all (goes_on s (negsuc 0)) 0 1 in
    let g : T (p && m) = implied (is_writable s) (p && m) w (all_go_on s h j) in
    let e : u.balance ≡ d = same_number u.balance d (and_left (is_same_number u.balance d) _ i) in
    subst (λ (z : ℤ). T (passes next kept (record { balance = z; last = u.last; run = u.run }) (bits 10 (character s d)) (ends (closing s d)))) (sym e)
    (both_ways (λ (z : ℤ). (v r : ℕ) → T (rests (is_plus z) v r) → T (goes_on s z v r))
    (at_plus (goes_on s (pos 1)) (and_left p m g))
    (at_minus (goes_on s (negsuc 0)) (and_right p m g)) d t u.last u.run
    (and_right (is_same_number u.balance d) (rests (is_plus d) u.last u.run) i))
