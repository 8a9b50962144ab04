-- Each 38 bytes stand for a sender whose bytes they are, and each 4 for a receiver: so a refusal that hands back its state leaves its bytes.
-- Assumes nothing.
use Prim.Native.Nat.{ℕ, zero, suc, ◌+◌, ◌*◌, ◌/◌, ◌%◌, ◌<◌}
use mathlib.Core.Path.{◌≡◌, refl, ap, ◌∙◌}
use mathlib.Core.List.{List, [], ◌∷◌}
use lib.Dec.{eqb}
use native.Mathlib.Omega.{arith}
use Rattle.host_rules.specs.Numbers.{mark_number}
use Rattle.host_retry_rules.specs.SenderBytes.{two, mask_of, marks_of, sender_bytes, counters_in, slot_from, sender_in}
use Rattle.host_retry_rules.specs.ReceiverBytes.{receiver_bytes, receiver_in}

also : {x y : ℕ} {xs ys : List ℕ} → x ≡ y → xs ≡ ys → x ∷ xs ≡ y ∷ ys
also {x} {y} {xs} {ys} p q = ap (λ (z : ℕ). z ∷ xs) p ∙ ap (λ (zs : List ℕ). y ∷ zs) q

high : (h l : ℕ) → l < 256 → two h l / 256 ≡ h
high h l small = omega arith

low : (h l : ℕ) → l < 256 → two h l % 256 ≡ l
low h l small = omega arith

-- the lowest bit of a number, as a mark and as a number again
first_same : (n : ℕ) → mark_number (eqb (n % 2) 1) ≡ n % 2
first_same n = by (n % 2) (let h : n % 2 < 2 = omega arith in h)
  where
    by : (r : ℕ) → r < 2 → mark_number (eqb r 1) ≡ r
    by zero h = refl
    by (suc zero) h = refl
    by (suc (suc r)) h = absurd (omega arith)

eight_marks : (n : ℕ) → n < 256 → n % 2 + 2 * (n / 2 % 2 + 2 * (n / 2 / 2 % 2 + 2 * (n / 2 / 2 / 2 % 2 + 2 * (n / 2 / 2 / 2 / 2 % 2 + 2 *
    (n / 2 / 2 / 2 / 2 / 2 % 2 + 2 * (n / 2 / 2 / 2 / 2 / 2 / 2 % 2 + 2 * (n / 2 / 2 / 2 / 2 / 2 / 2 / 2 % 2 + 2 * 0))))))) ≡ n
eight_marks n h = omega arith

marks_same : (n : ℕ) → n < 256 → mask_of (marks_of n) ≡ n
unfolding mask_of marks_of
marks_same n h =
    simp (
      first_same n,
      first_same (n / 2),
      first_same (n / 2 / 2),
      first_same (n / 2 / 2 / 2),
      first_same (n / 2 / 2 / 2 / 2),
      first_same (n / 2 / 2 / 2 / 2 / 2),
      first_same (n / 2 / 2 / 2 / 2 / 2 / 2),
      first_same (n / 2 / 2 / 2 / 2 / 2 / 2 / 2),
    ) (eight_marks n h)

module _
    (b0 b1 b2 b3 b4 b5 b6 b7 b8 b9 b10 b11 b12 b13 b14 b15 b16 b17 b18 b19 b20 b21 b22 b23 b24 b25 b26 b27 b28 b29 b30 b31 b32 b33 b34 b35 b36 b37 : ℕ)
    (s6 : b6 < 256) (s9 : b9 < 256) (s11 : b11 < 256) (s14 : b14 < 256) (s16 : b16 < 256) (s18 : b18 < 256) (s20 : b20 < 256) (s22 : b22 < 256)
    (s24 : b24 < 256) (s26 : b26 < 256) (s28 : b28 < 256) (s37 : b37 < 256) where
  pub sender_same : sender_bytes (sender_in (b0 ∷ b1 ∷ b2 ∷ b3 ∷ b4 ∷ b5 ∷ b6 ∷ b7 ∷ b8 ∷ b9 ∷ b10 ∷ b11 ∷ b12 ∷ b13 ∷ b14 ∷ b15 ∷ b16 ∷ b17 ∷ b18
      ∷ b19 ∷ b20 ∷ b21 ∷ b22 ∷ b23 ∷ b24 ∷ b25 ∷ b26 ∷ b27 ∷ b28 ∷ b29 ∷ b30 ∷ b31 ∷ b32 ∷ b33 ∷ b34 ∷ b35 ∷ b36 ∷ b37 ∷ [])) ≡ b0 ∷ b1 ∷ b2 ∷ b3
      ∷ b4 ∷ b5 ∷ b6 ∷ b7 ∷ b8 ∷ b9 ∷ b10 ∷ b11 ∷ b12 ∷ b13 ∷ b14 ∷ b15 ∷ b16 ∷ b17 ∷ b18 ∷ b19 ∷ b20 ∷ b21 ∷ b22 ∷ b23 ∷ b24 ∷ b25 ∷ b26 ∷ b27 ∷ b28
      ∷ b29 ∷ b30 ∷ b31 ∷ b32 ∷ b33 ∷ b34 ∷ b35 ∷ b36 ∷ b37 ∷ []
  unfolding sender_bytes sender_in counters_in slot_from mask_of marks_of
  sender_same =
      also refl (also refl (also refl (also refl (also refl (also (high b5 b6 s6) (also (low b5 b6 s6) (also refl (also (high b8 b9 s9) (also
      (low b8 b9 s9) (also (high b10 b11 s11) (also (low b10 b11 s11) (also refl (also (high b13 b14 s14) (also (low b13 b14 s14) (also
      (high b15 b16 s16) (also (low b15 b16 s16) (also (high b17 b18 s18) (also (low b17 b18 s18) (also (high b19 b20 s20) (also
      (low b19 b20 s20) (also (high b21 b22 s22) (also (low b21 b22 s22) (also (high b23 b24 s24) (also (low b23 b24 s24) (also
      (high b25 b26 s26) (also (low b25 b26 s26) (also (high b27 b28 s28) (also (low b27 b28 s28) (also refl (also refl
      (also refl (also refl (also refl (also refl (also refl (also refl (also (marks_same b37 s37) (refl))))))))))))))))))))))))))))))))))))))

pub receiver_same : (b0 b1 b2 b3 : ℕ) → b3 < 256 → receiver_bytes (receiver_in (b0 ∷ b1 ∷ b2 ∷ b3 ∷ [])) ≡ b0 ∷ b1 ∷ b2 ∷ b3 ∷ []
unfolding receiver_bytes receiver_in
receiver_same b0 b1 b2 b3 s = also refl (also refl (also (high b2 b3 s) (also (low b2 b3 s) refl)))
