-- What a public call comes to, from the number it is refused with or from what was written.
-- Assumes nothing.
use mathlib.Core.Path.{◌≡◌, ap, sym, subst, ◌∙◌}
use mathlib.Core.Bool.{Bool}
use mathlib.Core.List.{List, ◌++◌}
use Prim.Native.Nat.{ℕ, ◌+◌, ◌*◌}
use native.Mathlib.Nat.{zero-add}
use lib.IntN.{ℤ}
use lib.ListN.{length, drop}
use Rattle.std.specs.Prelude.{Result, Ok, Err, IsOkAnd}
use Rattle.refusal.specs.declared.Refusal.{Refusal}
use Rattle.refusal.specs.Order.{number_of, refusal_of}
use Rattle.refusal.proofs.Laws.{done, refused, hands_back}
use Rattle.refusal.proofs.Answers.{has_number}
use native.Mathlib.Omega.{arith}
use Rattle.character_rules.specs.Writing.{characters_of, closing_of}
use Rattle.packet_rules.specs.Line.{SPP}
use Rattle.packet_rules.specs.Packets.{Packet, in_priority, packet_symbols, symbols_of, packet_checks}
use Rattle.packet_rules.specs.Packets.{wrote, not_wrote, written_says, packet_writing, packet_output}
use Rattle.packet_rules.specs.declared.Written.{Written}
use Rattle.packet_writer.specs.Writing.{Wrote}

module _ (s : ℕ) (p : Packet) (d : ℤ) (old : List ℕ) where
  -- the output as it stood
  pub refused_with : (n : ℕ) → refusal_of (packet_checks s p d (length old)) ≡ n → (n ≡ 0 → ⊥)
      → (not_wrote n ≡ packet_writing s p d old) × (old ≡ packet_output s p d old)
  unfolding packet_writing packet_output
  refused_with n e h =
      let cs = packet_checks s p d (length old) in
      let ch = characters_of (symbols_of p) d ++ drop (length (symbols_of p)) old in
      let w = wrote (length (symbols_of p)) (closing_of (symbols_of p) d) in
      let k : (refusal_of cs ≡ 0 → ⊥) = λ z. h (sym e ∙ z) in
      (sym (refused cs not_wrote w k ∙ ap not_wrote e), sym (hands_back cs old ch k))

  -- the same of a refusal, which has a number that is not 0
  pub refused_as : (r : Refusal) → refusal_of (packet_checks s p d (length old)) ≡ number_of r
      → (not_wrote (number_of r) ≡ packet_writing s p d old) × (old ≡ packet_output s p d old)
  refused_as r e = refused_with (number_of r) e (λ z. let n = has_number r in omega (arith, n, z))

  -- all of the packet, and nothing past it
  pub written_all : {new : List ℕ} (r : Result Written Refusal) → refusal_of (packet_checks s p d (length old)) ≡ 0
      → IsOkAnd r (Wrote (record { count = 0; disparity = d }) (symbols_of p) old new)
      → (written_says r ≡ packet_writing s p d old) × (new ≡ packet_output s p d old)
  unfolding packet_writing packet_output
  written_all (Err x) e w = absurd w
  written_all (Ok q) e w =
      let cs = packet_checks s p d (length old) in
      let n = length (symbols_of p) in
      let ch = characters_of (symbols_of p) d ++ drop n old in (
        ap (λ (x : Written). wrote x.count x.disparity) w.next ∙ ap (λ (m : ℕ). wrote m (closing_of (symbols_of p) d)) (zero-add n)
            ∙ sym (done cs not_wrote (wrote n (closing_of (symbols_of p) d)) e),
        w.line ∙ ap (λ (m : ℕ). characters_of (symbols_of p) d ++ drop m old) (zero-add n) ∙ sym (done cs (λ m. old) ch e),
      )

-- a priority packet by its opening byte
pub priority_all : (s c g : ℕ) (bytes : List ℕ) (bad : Bool) (d : ℤ) (old : List ℕ) {new : List ℕ} (r : Result Written Refusal) (o : ℕ) → o ≡ 16 * g + c
    → refusal_of (packet_checks s (in_priority c g bytes bad) d (length old)) ≡ 0
    → IsOkAnd r (Wrote (record { count = 0; disparity = d }) (packet_symbols SPP o bytes bad) old new)
    → (written_says r ≡ packet_writing s (in_priority c g bytes bad) d old) × (new ≡ packet_output s (in_priority c g bytes bad) d old)
unfolding symbols_of
priority_all s c g bytes bad d old {new} r o e f w =
    written_all s (in_priority c g bytes bad) d old r f
    (subst (λ (x : ℕ). IsOkAnd r (Wrote (record { count = 0; disparity = d }) (packet_symbols SPP x bytes bad) old new)) e w)
