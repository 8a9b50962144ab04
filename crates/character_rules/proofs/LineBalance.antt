-- On the whole line the balance stays within three at each bit, and no bit is repeated more than five times running.
-- Assumes nothing.
use mathlib.Core.Path.{◌≡◌, refl, sym, subst, ap}
use mathlib.Core.Bool.{Bool, true, false, cond, ◌&&◌}
use mathlib.Core.List.{List, [], ◌∷◌, ◌++◌}
use Prim.Native.Nat.{ℕ, zero, suc, ◌+◌, ◌≤◌}
use native.Mathlib.Omega.{arith}
use lib.Dec.{T, eqb, leb, leb→le}
use lib.ListN.{take, replicate}
use lib.IntN.{ℤ}
use borrow.Author.Tests.{eq-eqb}
use Rattle.laws.specs.Bits.{bits}
use Rattle.laws.specs.Lists.{all_of}
use Rattle.laws.proofs.Bools.{and_left, and_right}
use Rattle.laws.proofs.Scan.{passes, passes_append, passes_weaker, passes_later}
use Rattle.symbol.specs.declared.Symbol.{Symbol}
use Rattle.character_rules.specs.Disparity.{is_disparity}
use Rattle.character_rules.specs.Blocks.{character, closing}
use Rattle.character_rules.specs.Answers.{Writing}
use Rattle.character_rules.specs.Writing.{writing}
use Rattle.character_rules.specs.Line.{line, ten_bits, balance, within_three}
use Rattle.character_rules.specs.Results.{new_disparity}
use Rattle.character_rules.specs.Demand.{can_write, Balanced}
use Rattle.character_rules.proofs.Disparities.{both_ways}
use Rattle.character_rules.proofs.Trip.{can_byte, can_writable, can_symbol, writes}
use Rattle.character_rules.proofs.Steps.{State, next, kept, at_end, ends, each}

-- ---- the machine passes the whole line

-- the line of a list that can be written, its first character apart
pub line_of : (s : Symbol) (ss : List Symbol) (d : ℤ) → T (can_write s) → T (is_disparity d)
    → line writing (s ∷ ss) d ≡ bits 10 (character s d) ++ line writing ss (closing s d)
line_of s ss d h t = ap (λ (w : Writing). ten_bits w.character ++ line writing ss (new_disparity d w.disparity)) (writes s d h t)

passes_line : (ss : List Symbol) (d : ℤ) (u : State) → T (all_of can_write ss) → T (is_disparity d) → T (at_end d u) → T (passes next kept u (line writing ss d) (λ v. true))
passes_line [] d u a t i = tt
passes_line (s ∷ ss) d u a t i =
    let h = and_left (can_write s) (all_of can_write ss) a in
    let e = closing s d in
    subst (λ (l : List ℕ). T (passes next kept u l (λ v. true))) (sym (line_of s ss d h t))
    (passes_append next kept u (bits 10 (character s d)) (line writing ss e) (λ v. true)
    (passes_weaker next kept u (bits 10 (character s d)) (ends e) (λ w. passes next kept w (line writing ss e) (λ v. true))
    (λ w q. passes_line ss e w (and_right (can_write s) (all_of can_write ss) a) (and_left (is_disparity e) (at_end e w) q) (and_right (is_disparity e) (at_end e w) q))
    (each s d u (can_byte s h) (can_symbol s h) (can_writable s h) t i)))

abbrev start : ℤ → State
start d = record { balance = d; last = 0; run = 0 }

from_start : (ss : List Symbol) (d : ℤ) → T (all_of can_write ss) → T (is_disparity d) → T (passes next kept (start d) (line writing ss d) (λ v. true))
from_start ss d a t = passes_line ss d (start d) a t (both_ways (λ (z : ℤ). T (at_end z (start z))) tt tt d t)

-- ---- what the machine kept, said of the line

balanced : (s : State) (xs : List ℕ) → T (within_three s.balance) → T (passes next kept s xs (λ u. true)) → (n : ℕ) → T (within_three (balance s.balance (take n xs)))
balanced s xs h t zero = h
balanced s [] h t (suc n) = h
balanced s (x ∷ xs) h t (suc n) =
    let k = next s x in
    balanced k xs (and_left (within_three k.balance) (leb k.run 5) (and_left (kept k) _ t))
    (and_right (kept k) (passes next kept k xs (λ u. true)) t) n

run_kept : (k : State) (rest : Bool) → T (kept k && rest) → k.run ≤ 5
run_kept k rest t = leb→le k.run 5 (and_right (within_three k.balance) (leb k.run 5) (and_left (kept k) rest t))

-- n bits more of the run's own value: the run is at most five in all
run_on : (s : State) (n : ℕ) (ys : List ℕ) → s.run ≤ 5 → T (passes next kept s (replicate n s.last ++ ys) (λ u. true)) → n + s.run ≤ 5
run_on s zero ys h t = omega arith
run_on s (suc n) ys h t =
    let k = next s s.last in
    let e : k.run ≡ suc s.run = rw (eq-eqb s.last s.last refl) in
    let i : n + k.run ≤ 5 = run_on k n ys (run_kept k _ t) (and_right (kept k) (passes next kept k (replicate n s.last ++ ys) (λ u. true)) t) in
    omega arith

-- n bits of one value, after whatever run
run_of : (s : State) (x n : ℕ) (ys : List ℕ) → T (passes next kept s (replicate n x ++ ys) (λ u. true)) → n ≤ 5
run_of s x zero ys t = omega arith
run_of s x (suc n) ys t =
    let k = next s x in
    let i : n + k.run ≤ 5 = run_on k n ys (run_kept k _ t) (and_right (kept k) (passes next kept k (replicate n x ++ ys) (λ u. true)) t) in
    let p : 1 ≤ k.run = one_at_least (eqb x s.last) s.run in
    omega arith
  where
    one_at_least : (q : Bool) (m : ℕ) → 1 ≤ cond q (suc m) 1
    one_at_least true m = omega arith
    one_at_least false m = omega arith

within : (ss : List Symbol) (d : ℤ) → T (all_of can_write ss) → T (is_disparity d) → (n : ℕ) → T (within_three (balance d (take n (line writing ss d))))
within ss d a t = balanced (start d) (line writing ss d) (both_ways (λ (z : ℤ). T (within_three z)) tt tt d t) (from_start ss d a t)

runs : (ss : List Symbol) (d : ℤ) → T (all_of can_write ss) → T (is_disparity d) → (before : List ℕ) (n x : ℕ) (after : List ℕ)
    → line writing ss d ≡ before ++ (replicate n x ++ after) → n ≤ 5
runs ss d a t before n x after e =
    let s = passes_later next kept (start d) before (replicate n x ++ after) (λ u. true)
    (subst (λ (l : List ℕ). T (passes next kept (start d) l (λ u. true))) e (from_start ss d a t)) in
    run_of s.0 x n after s.1

pub balanced_line : Balanced writing
balanced_line = record { within = within; runs = runs }
