-- User bytes written as one run into the part of the output that begins at the place.
-- Assumes nothing.
use mathlib.Core.Path.{◌≡◌, refl, sym, ap, ap₂, ◌∙◌}
use mathlib.Core.Option.{some-injective}
use mathlib.Core.List.{List, [], ◌++◌, map, append-nil}
use Prim.Native.Nat.{ℕ, ◌+◌, ◌-◌, ◌≤◌}
use native.Mathlib.Omega.{arith}
use lib.Dec.{T}
use lib.IntN.{ℤ}
use lib.ListN.{length, take, drop, length-drop}
use lib.Seq.{take_all, drop-drop, drop-length}
use Rattle.laws.proofs.Bools.{T_true}
use Rattle.laws.proofs.Cases.{some_is_not_none}
use Rattle.std.specs.Prelude.{Result, Ok, Err}
use Rattle.std.specs.Result.{IsOk}
use Rattle.refusal.specs.declared.Refusal.{Refusal}
use Rattle.refusal.specs.Order.{number_of}
use Rattle.symbol.specs.Symbols.{data_symbol}
use Rattle.character_rules.specs.Disparity.{is_disparity}
use Rattle.character_rules.specs.Answers.{RunWriting, run_written, not_run_written, run_written_says}
use Rattle.character_rules.specs.Writing.{run_characters, run_end, run_writing, run_stored, characters_of, closing_of}
use Rattle.character_rules.proofs.WriteLaws.{write_done}
use Rattle.packet_rules.specs.declared.Written.{Written}
use Rattle.packet_writer.specs.Writing.{Wrote}
use Rattle.packet_writer.proofs.Turns.{length_map}

module _ (p : Written) (bs old : List ℕ) (room : p.count + length bs ≤ length old) (t : T (is_disparity p.disparity)) where
  abbrev past : List ℕ
  past = drop p.count old

  abbrev pub part : List ℕ
  part = take (length old - p.count) past

  part_is : part ≡ past
  part_is = take_all (length old - p.count) past (omega (arith, length-drop p.count old))

  nothing_after : drop (length old - p.count) past ≡ []
  nothing_after = ap (λ (k : ℕ). drop k past) (sym (length-drop p.count old)) ∙ drop-length past

  done : (run_written (run_end bs p.disparity) ≡ run_writing bs p.disparity (length part))
      × (run_characters bs p.disparity ++ drop (length bs) part ≡ run_stored bs p.disparity part)
  done =
      write_done bs p.disparity part (T_true (is_disparity p.disparity) t)
      (omega (arith, room, length-drop p.count old, ap (λ (l : List ℕ). length l) part_is))

  line : (ys : List ℕ) → ys ≡ run_stored bs p.disparity part
      → take p.count old ++ (ys ++ drop (length old - p.count) past)
      ≡ take p.count old ++ (characters_of (map data_symbol bs) p.disparity ++ drop (p.count + length (map data_symbol bs)) old)
  line ys e =
      ap (λ (l : List ℕ). take p.count old ++ l)
      (ap (λ (l : List ℕ). ys ++ l) nothing_after ∙ append-nil ys ∙ e ∙ sym done.1
      ∙ ap (λ (l : List ℕ). characters_of (map data_symbol bs) p.disparity ++ l)
      (ap (drop (length bs)) part_is ∙ drop-drop (length bs) p.count old
      ∙ ap (λ (n : ℕ). drop (p.count + n) old) (sym (length_map data_symbol bs))))

  -- where the run was written it closes as its symbols do
  pub run_closing_is : (e : ℤ) → run_written e ≡ run_writing bs p.disparity (length part) → e ≡ closing_of (map data_symbol bs) p.disparity
  run_closing_is e h =
      some-injective _ _ (ap (λ (w : RunWriting). w.disparity) (h ∙ sym done.0))

  pub run_wrote : (ys : List ℕ) (q : Written) → ys ≡ run_stored bs p.disparity part → q.count ≡ p.count + length bs
      → q.disparity ≡ closing_of (map data_symbol bs) p.disparity
      → Wrote p (map data_symbol bs) old (take p.count old ++ (ys ++ drop (length old - p.count) past)) q
  run_wrote ys q e a z =
      record {
        line = line ys e;
        next = ap₂ (λ (n : ℕ) (y : ℤ). record { count = n; disparity = y }) (a ∙ ap (λ (n : ℕ). p.count + n) (sym (length_map data_symbol bs))) z;
      }

  -- and it was not refused
  pub run_not_refused : (n : ℕ) → not_run_written n ≡ run_writing bs p.disparity (length part) → ⊥
  run_not_refused n h = some_is_not_none (sym (ap (λ (w : RunWriting). w.disparity) (h ∙ sym done.0)))

  pub run_never_refused : (a : Result ℤ Refusal) → run_written_says a ≡ run_writing bs p.disparity (length part) → IsOk a
  run_never_refused (Ok e) h = refl
  run_never_refused (Err r) h = absurd (run_not_refused (number_of r) h)
