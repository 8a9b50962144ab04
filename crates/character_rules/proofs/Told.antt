-- What an answer says tells which answer it is: so no second answer fits a contract.
-- Assumes nothing.
use mathlib.Core.Path.{◌≡◌, refl, sym, ◌∙◌, ap}
use mathlib.Core.Bool.{cond}
use mathlib.Core.List.{List, [], ◌∷◌}
use mathlib.Core.Option.{Option, none, some}
use Prim.Native.Nat.{ℕ}
use lib.Dec.{eqb}
use lib.IntN.{ℤ}
use Rattle.std.specs.Prelude.{Result, Ok, Err}
use Rattle.refusal.specs.Order.{number_of}
use Rattle.refusal.specs.declared.Refusal.{Refusal}
use Rattle.refusal.specs.declared.Refusal.TheVariants.{OutOfRange, SegmentSize, NotWritable, NoBytes, Full, ShortOutput, LinkDown, BadCapture}
use Rattle.symbol.specs.declared.Symbol.{Symbol}
use Rattle.character_rules.specs.declared.Encoded.{Encoded}
use Rattle.character_rules.specs.declared.Decoded.{Decoded}
use Rattle.character_rules.specs.declared.Decoded.TheVariants.{Clean, WrongDisparity, Invalid}
use Rattle.character_rules.specs.Answers.{Writing, writing_says, Reading, reading_says, RunReading, run_says, RunWriting, run_written_says}

-- the refusal of a number, the last for any that is none's
module _ (n : ℕ) where
  abbrev among : List Refusal → Refusal
  among [] = BadCapture
  among (r ∷ rs) = cond (eqb n (number_of r)) r (among rs)

  abbrev pub the_refusal : Refusal
  the_refusal = among (OutOfRange ∷ SegmentSize ∷ NotWritable ∷ NoBytes ∷ Full ∷ ShortOutput ∷ LinkDown ∷ [])

  -- an answer from its refusal's number and its values
  abbrev encoded : Option ℕ → Option ℤ → Result Encoded Refusal
  encoded none none = Err the_refusal
  encoded none (some d) = Err the_refusal
  encoded (some c) none = Err the_refusal
  encoded (some c) (some d) = Ok (record { character = c; disparity = d })

  abbrev decoded : ℕ → Option Symbol → Option ℤ → Result Decoded Refusal
  decoded v none none = Err the_refusal
  decoded v none (some d) = Ok (Invalid d)
  decoded v (some s) none = Err the_refusal
  decoded v (some s) (some d) = Ok (cond (eqb v 0) (Clean s d) (WrongDisparity s d))

  abbrev run : Option ℤ → Result ℤ Refusal
  run none = Err the_refusal
  run (some d) = Ok d

abbrev pub the_encoded : Writing → Result Encoded Refusal
the_encoded w = encoded w.refusal w.character w.disparity

abbrev pub the_decoded : Reading → Result Decoded Refusal
the_decoded r = decoded r.refusal r.violation r.symbol r.disparity

abbrev pub the_run_read : RunReading → Result ℤ Refusal
the_run_read r = run r.refusal r.disparity

abbrev pub the_run_written : RunWriting → Result ℤ Refusal
the_run_written r = run r.refusal r.disparity

pub refusal_told : (r : Refusal) → the_refusal (number_of r) ≡ r
refusal_told OutOfRange = refl
refusal_told SegmentSize = refl
refusal_told NotWritable = refl
refusal_told NoBytes = refl
refusal_told Full = refl
refusal_told ShortOutput = refl
refusal_told LinkDown = refl
refusal_told BadCapture = refl

pub encoded_told : (a : Result Encoded Refusal) → the_encoded (writing_says a) ≡ a
encoded_told (Ok w) = refl
encoded_told (Err r) = ap (λ (k : Refusal). Err k) (refusal_told r)

pub decoded_told : (a : Result Decoded Refusal) → the_decoded (reading_says a) ≡ a
decoded_told (Ok (Clean s d)) = refl
decoded_told (Ok (WrongDisparity s d)) = refl
decoded_told (Ok (Invalid d)) = refl
decoded_told (Err r) = ap (λ (k : Refusal). Err k) (refusal_told r)

pub run_told : (a : Result ℤ Refusal) → the_run_read (run_says a) ≡ a
run_told (Ok d) = refl
run_told (Err r) = ap (λ (k : Refusal). Err k) (refusal_told r)

pub run_written_told : (a : Result ℤ Refusal) → the_run_written (run_written_says a) ≡ a
run_written_told (Ok d) = refl
run_written_told (Err r) = ap (λ (k : Refusal). Err k) (refusal_told r)

-- two answers that say the same are the same
pub one_encoded : (a b : Result Encoded Refusal) → writing_says a ≡ writing_says b → a ≡ b
one_encoded a b e = sym (encoded_told a) ∙ ap the_encoded e ∙ encoded_told b

pub one_decoded : (a b : Result Decoded Refusal) → reading_says a ≡ reading_says b → a ≡ b
one_decoded a b e = sym (decoded_told a) ∙ ap the_decoded e ∙ decoded_told b

pub one_run : (a b : Result ℤ Refusal) → run_says a ≡ run_says b → a ≡ b
one_run a b e = sym (run_told a) ∙ ap the_run_read e ∙ run_told b

pub one_run_written : (a b : Result ℤ Refusal) → run_written_says a ≡ run_written_says b → a ≡ b
one_run_written a b e = sym (run_written_told a) ∙ ap the_run_written e ∙ run_written_told b
