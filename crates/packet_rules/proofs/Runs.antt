-- A run of the reader over symbols that are read clean: one step after the other, and two runs one after the other.
-- Assumes nothing.
use mathlib.Core.Path.{◌≡◌, refl, ap, ap₂, subst, ◌∙◌}
use mathlib.Core.Bool.{true}
use mathlib.Core.List.{List, [], ◌∷◌, ◌++◌}
use lib.IntN.{ℤ, pos}
use Rattle.symbol.specs.declared.Symbol.{Symbol}
use Rattle.character_rules.specs.Answers.{Reading, clean}
use Rattle.packet_rules.specs.declared.Reader.{Reader}
use Rattle.packet_rules.specs.Answers.{Said, Answer}
use Rattle.packet_rules.specs.State.{well_formed}
use Rattle.packet_rules.specs.Step.{step_of}
use Rattle.packet_rules.specs.Line.{said_of, after_of, ReadClean, nil, next}
use Rattle.packet_rules.proofs.Kept.{kept}

abbrev pub gives : Said → Reader → Answer
gives e q = record { said = e; reader = q }

-- from r, reading these symbols, these are said and q is the state after them
pub data Runs : Reader → List Symbol → List Said → Reader → Type 0 where
  stop : (r : Reader) → Runs r [] [] r
  step : (s : Symbol) (e : Said) {r q w : Reader} {ss : List Symbol} {es : List Said}
      → ((d : ℤ) → step_of r (clean s d) ≡ gives e q) → Runs q ss es w → Runs r (s ∷ ss) (e ∷ es) w

pub runs_append : {r q w : Reader} {ss ts : List Symbol} {es fs : List Said} → Runs r ss es q → Runs q ts fs w → Runs r (ss ++ ts) (es ++ fs) w
runs_append (stop r) k = k
runs_append (step s e h l) k = step s e h (runs_append l k)

-- the rule is kept from one end to the other
pub runs_kept : {r q : Reader} {ss : List Symbol} {es : List Said} → Runs r ss es q → well_formed r ≡ true → well_formed q ≡ true
runs_kept (stop r) h = h
runs_kept (step s e {r = r} {q = q} f l) h =
    runs_kept l (subst (λ (a : Answer). well_formed a.reader ≡ true) (f (pos 1)) (kept r (clean s (pos 1)) h))

-- a step, and the run after it, which may use that the rule is kept
pub go : (r q : Reader) (x : Symbol) (e : Said) {w : Reader} {ss : List Symbol} {es : List Said} → well_formed r ≡ true
    → ((d : ℤ) → step_of r (clean x d) ≡ gives e q) → (well_formed q ≡ true → Runs q ss es w) → Runs r (x ∷ ss) (e ∷ es) w
go r q x e ok f k = step x e f (k (runs_kept (step x e f (stop q)) ok))

-- and what a run says is what the reader says, at whatever disparities
pub runs_said : {r q : Reader} {ss : List Symbol} {es : List Said} {gs : List Reading} → Runs r ss es q → ReadClean ss gs
    → (said_of r gs ≡ es) × (after_of r gs ≡ q)
unfolding said_of after_of
runs_said (stop r) nil = (refl, refl)
runs_said (step s e f l) (next t d {gs = gs} c) =
    let k = runs_said l c in (
      ap₂ ◌∷◌ (ap (λ (a : Answer). a.said) (f d)) (ap (λ (a : Answer). said_of a.reader gs) (f d) ∙ k.0),
      ap (λ (a : Answer). after_of a.reader gs) (f d) ∙ k.1,
    )
