-- A run that is written, over plain values: the disparity and the output that the code leaves are those of the rules.
-- Assumes nothing.
use mathlib.Core.Path.{◌≡◌, ◌∙◌, ap}
use mathlib.Core.Bool.{Bool, true}
use mathlib.Core.List.{List, ◌++◌, map}
use Prim.Native.Nat.{ℕ, ◌≤◌}
use lib.Dec.{T, eqb}
use lib.IntN.{ℤ}
use lib.ListN.{length, drop}
use Rattle.laws.proofs.Bools.{true_t}
use Rattle.symbol.specs.Symbols.{data_symbol}
use Rattle.character_rules.specs.Disparity.{is_plus, is_disparity, disparity_of}
use Rattle.character_rules.specs.Answers.{run_written}
use Rattle.character_rules.specs.Results.{mark}
use Rattle.character_rules.specs.Writing.{run_characters, run_end, run_writing, run_stored}
use Rattle.character_rules.proofs.Disparities.{by_sign}
use Rattle.character_rules.proofs.Packed.{mark_is}
use Rattle.character_rules.proofs.WriteLaws.{closing_is, write_done}
use Rattle.disparity.proofs.Signed.{again, back}

module _
    (bs : List ℕ) (d : ℤ) (out new : List ℕ) (plus : Bool) (from : ℕ) (p : ℕ) (e : ℤ)
    (t : is_disparity d ≡ true) (h : length bs ≤ length out) (hplus : plus ≡ is_plus d) (hfrom : from ≡ mark plus)
    (hp : disparity_of (eqb p 1) ≡ run_end bs (disparity_of (eqb from 1))) (he : e ≡ disparity_of (eqb p 1))
    (hn : new ≡ run_characters bs (disparity_of (eqb from 1)) ++ drop (length bs) out) where
  start : disparity_of (eqb from 1) ≡ d
  start =
      ap (λ (n : ℕ). disparity_of (eqb n 1)) hfrom ∙ ap disparity_of (mark_is plus ∙ hplus) ∙ by_sign d (true_t (is_disparity d) t)

  ends : T (is_disparity (run_end bs d))
  ends = closing_is (map data_symbol bs) d (true_t (is_disparity d) t)

  after : again e ≡ run_end bs d
  after = ap again (he ∙ hp ∙ ap (run_end bs) start) ∙ back (run_end bs d) ends

  pub run_is_written : (run_written (again e) ≡ run_writing bs d (length out)) × (new ≡ run_stored bs d out)
  run_is_written =
      let r = write_done bs d out t h in
      (ap run_written after ∙ r.0, hn ∙ ap (λ (z : ℤ). run_characters bs z ++ drop (length bs) out) start ∙ r.1)
