-- Each four bytes are those of the receiver that they stand for: where a receiver stays, they need not be stored again.
-- Assumes nothing.
use Prim.Native.Nat.{ℕ, ◌/◌, ◌%◌, ◌<◌}
use mathlib.Core.Path.{◌≡◌}
use mathlib.Core.List.{List, [], ◌∷◌}
use native.Mathlib.Omega.{arith}
use lib.ListN.{length, get_or}
use Rattle.host_retry_rules.specs.SenderBytes.{two}
use Rattle.host_retry_rules.specs.ReceiverBytes.{receiver_bytes, receiver_in}

high : (h l : ℕ) → l < 256 → two h l / 256 ≡ h
high h l small = omega arith

low : (h l : ℕ) → l < 256 → two h l % 256 ≡ l
low h l small = omega arith

pub receiver_stays : (b : List ℕ) → length b ≡ 4 → ((i : ℕ) → get_or b i 0 < 256) → receiver_bytes (receiver_in b) ≡ b
unfolding receiver_bytes receiver_in
receiver_stays [] e small = absurd (omega arith)
receiver_stays (b0 ∷ []) e small = absurd (omega arith)
receiver_stays (b0 ∷ b1 ∷ []) e small = absurd (omega arith)
receiver_stays (b0 ∷ b1 ∷ b2 ∷ []) e small = absurd (omega arith)
receiver_stays (b0 ∷ b1 ∷ b2 ∷ b3 ∷ []) e small = λ i. b0 ∷ b1 ∷ high b2 b3 (small 3) i ∷ low b2 b3 (small 3) i ∷ []
receiver_stays (b0 ∷ b1 ∷ b2 ∷ b3 ∷ b4 ∷ more) e small = absurd (omega arith)
