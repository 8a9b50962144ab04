-- The lowest of some conditions that hold, and what it is where none does.
-- Assumes nothing.
use mathlib.Core.Path.{◌≡◌, refl, sym, ◌∙◌}
use mathlib.Core.Bool.{Bool, true, false}
use mathlib.Core.List.{List, [], ◌∷◌}
use Prim.Native.Nat.{ℕ, zero, suc, ◌+◌, ◌<◌}
use native.Mathlib.Nat.{add-zero, add-suc, suc-add}
use native.Mathlib.Omega.{arith}
use lib.ListN.{length}
use Rattle.packet_rules.specs.Violations.{lowest}

-- none of the conditions holds
abbrev pub NoneOf : List Bool → Type 0
NoneOf [] = Unit {0}
NoneOf (b ∷ bs) = (b ≡ false) × NoneOf bs

-- the condition at place i is the first that holds
abbrev pub FirstAt : List Bool → ℕ → Type 0
FirstAt [] i = ⊥
FirstAt (b ∷ bs) zero = b ≡ true
FirstAt (b ∷ bs) (suc i) = (b ≡ false) × FirstAt bs i

-- 0: none holds
pub lowest_none : (n : ℕ) (bs : List Bool) → lowest (suc n) bs ≡ 0 → NoneOf bs
lowest_none n [] e = tt
lowest_none n (true ∷ bs) e = absurd (omega arith)
lowest_none n (false ∷ bs) e = (refl, lowest_none (suc n) bs e)

-- where none holds it is 0
pub none_lowest : (n : ℕ) (bs : List Bool) → NoneOf bs → lowest n bs ≡ 0
none_lowest n [] h = refl
none_lowest n (true ∷ bs) h = absurd (let z : ◌≡◌ {A = ℕ} 0 1 = cc h.0 in omega arith)
none_lowest n (false ∷ bs) h = none_lowest (suc n) bs h.1

-- the number is that of the first that holds
pub first_lowest : (n : ℕ) (bs : List Bool) (i : ℕ) → FirstAt bs i → lowest n bs ≡ n + i
first_lowest n [] i h = absurd h
first_lowest n (true ∷ bs) zero h = sym (add-zero n)
first_lowest n (false ∷ bs) zero h = absurd (let z : ◌≡◌ {A = ℕ} 0 1 = cc h in omega arith)
first_lowest n (true ∷ bs) (suc i) h = absurd (let z : ◌≡◌ {A = ℕ} 0 1 = cc h.0 in omega arith)
first_lowest n (false ∷ bs) (suc i) h = first_lowest (suc n) bs i h.1 ∙ suc-add n i ∙ sym (add-suc n i)

-- and a number that is not 0 is that of a condition that holds, the first
pub lowest_first_lem : (n : ℕ) (bs : List Bool) (m : ℕ) → lowest (suc n) bs ≡ suc m → (i : ℕ) × ((m ≡ n + i) × FirstAt bs i)
lowest_first_lem n [] m e = absurd (omega arith)
lowest_first_lem n (true ∷ bs) m e = (0, (omega arith, refl))
lowest_first_lem n (false ∷ bs) m e =
    let t = lowest_first_lem (suc n) bs m e in
    (suc t.0, (let q = t.1.0 in omega arith, (refl, t.1.1)))

-- and it is the number of one of them, or 0
pub lowest_within : (n : ℕ) (bs : List Bool) → lowest (suc n) bs < suc n + length bs
lowest_within n [] = omega arith
lowest_within n (true ∷ bs) = omega arith
lowest_within n (false ∷ bs) = let h = lowest_within (suc n) bs in omega (arith, h)
