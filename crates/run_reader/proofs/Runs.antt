-- A run that is read, over plain values: the disparity and the output that the code leaves are those of the rules.
-- Assumes nothing.
use mathlib.Core.Path.{◌≡◌, ◌∙◌, ap}
use mathlib.Core.Bool.{Bool, true}
use mathlib.Core.List.{List, ◌++◌}
use Prim.Native.Nat.{ℕ, ◌≤◌}
use lib.Dec.{T}
use lib.IntN.{ℤ}
use lib.ListN.{length, drop}
use Rattle.laws.specs.Lists.{all_of}
use Rattle.laws.proofs.Bools.{true_t}
use Rattle.character_rules.specs.Disparity.{is_plus, is_disparity, disparity_of}
use Rattle.character_rules.specs.Answers.{run_read}
use Rattle.character_rules.specs.Results.{in_range, run_results, run_closing, run_reading, run_output}
use Rattle.character_rules.proofs.Disparities.{by_sign}
use Rattle.character_rules.proofs.RunLaws.{closing_run, run_done}
use Rattle.disparity.proofs.Signed.{again, back}

module _
    (cs : List ℕ) (d : ℤ) (out new : List ℕ) (p plus : Bool) (e : ℤ)
    (t : is_disparity d ≡ true) (a : all_of in_range cs ≡ true) (h : length cs ≤ length out) (hp : p ≡ is_plus d)
    (hplus : plus ≡ is_plus (run_closing cs (disparity_of p))) (he : e ≡ disparity_of plus)
    (hn : new ≡ run_results cs (disparity_of p) ++ drop (length cs) out) where
  start : disparity_of p ≡ d
  start = ap disparity_of hp ∙ by_sign d (true_t (is_disparity d) t)

  ends : T (is_disparity (run_closing cs d))
  ends = closing_run cs d (true_t (all_of in_range cs) a) (true_t (is_disparity d) t)

  closing : again e ≡ run_closing cs d
  closing =
      ap again (he ∙ ap disparity_of (hplus ∙ ap (λ (z : ℤ). is_plus (run_closing cs z)) start) ∙ by_sign (run_closing cs d) ends)
      ∙ back (run_closing cs d) ends

  pub run_is_read : (run_read (again e) ≡ run_reading cs d (length out)) × (new ≡ run_output cs d out)
  run_is_read =
      let r = run_done cs d out t a h in
      (ap run_read closing ∙ r.0, hn ∙ ap (λ (z : ℤ). run_results cs z ++ drop (length cs) out) start ∙ r.1)
