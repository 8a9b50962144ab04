-- What an answer says tells all answers apart: a promise of what is said leaves no second answer. And what is handed back of a refusal.
-- Assumes nothing.
use Rattle.std.specs.Prelude.{ℕ, zero, suc, ◌≡◌, Bool, true, false, T, List, [], ◌∷◌, Result, Ok, Err, IsErrAnd}
use mathlib.Core.Path.{sym, ap, subst, ◌∙◌, refl}
use mathlib.Core.Option.{Option, none, some}
use Rattle.refusal.specs.declared.Refusal.{Refusal}
use Rattle.refusal.specs.declared.Refusal.TheVariants.{OutOfRange, SegmentSize, NotWritable, NoBytes, Full, ShortOutput, LinkDown, BadCapture}
use Rattle.refusal.specs.Order.{number_of}
use Rattle.capture_rules.specs.Calls.{Said, says}

-- what `?` hands back of a refusal is that refusal
pub handed_back : {A : Type 0} (answer : Result A Refusal) (r : Refusal) → IsErrAnd answer (λ s. s ≡ r) → answer ≡ Err r
handed_back (Ok x) r e = absurd e
handed_back (Err s) r e = ap Err e

value_of : Option ℕ → ℕ
value_of none = 0
value_of (some n) = n

has_value : Option ℕ → Bool
has_value none = false
has_value (some n) = true

-- the refusal with a number
numbered : ℕ → Refusal
numbered n =
    get_at n (BadCapture ∷ OutOfRange ∷ SegmentSize ∷ NotWritable ∷ NoBytes ∷ Full ∷ ShortOutput ∷ LinkDown ∷ [])
  where
    get_at : ℕ → List Refusal → Refusal
    get_at n [] = BadCapture
    get_at zero (r ∷ rs) = r
    get_at (suc n) (r ∷ rs) = get_at n rs

number_tells : (r : Refusal) → numbered (number_of r) ≡ r
unfolding numbered
number_tells OutOfRange = refl
number_tells SegmentSize = refl
number_tells NotWritable = refl
number_tells NoBytes = refl
number_tells Full = refl
number_tells ShortOutput = refl
number_tells LinkDown = refl
number_tells BadCapture = refl

pub says_one : (a b : Result ℕ Refusal) → says a ≡ says b → a ≡ b
unfolding value_of has_value
says_one (Ok m) (Ok n) e = ap (λ (s : Said). Ok (value_of s.number)) e
says_one (Ok m) (Err r) e = absurd (subst (λ (s : Said). T (has_value s.number)) e tt)
says_one (Err r) (Ok n) e = absurd (subst (λ (s : Said). T (has_value s.number)) (sym e) tt)
says_one (Err r) (Err s) e = ap Err (sym (number_tells r) ∙ ap (λ (t : Said). numbered t.refusal) e ∙ number_tells s)
