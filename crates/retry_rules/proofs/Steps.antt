-- What a reply and a tick do to the counters, case by case.
-- Assumes nothing.
use mathlib.Core.Path.{◌≡◌}
use mathlib.Core.Bool.{Bool, true, false}
use Prim.Native.Nat.{ℕ, ◌-◌, ◌≤◌, ◌<◌}
use native.Mathlib.Omega.{arith}
use lib.Dec.{ltb, eqb}
use borrow.Author.Tests.{ltb-true, ltb-false, eqb-true, eqb-false}
use Rattle.laws.proofs.Cases.{by_cases}
use Rattle.retry_rules.specs.declared.Counters.{Counters}
use Rattle.retry_rules.specs.Numbers.{among_last}
use Rattle.retry_rules.specs.Reply.{timer_at, to_oldest, restarted, one_released, acked, nacked, heard}
use Rattle.retry_rules.specs.Tick.{expired, fallen, ticked}

module _ (P : Counters → Type 0) (c : Counters) where
  -- nothing outstanding; NACK of the oldest, of another; ACK of the oldest, of one of the last eight released, of another
  pub heard_cases :
      (nack : Bool) (k : ℕ) → (c.outstanding ≡ 0 → P c)
      → (0 < c.outstanding → nack ≡ true → k ≡ c.oldest → P (to_oldest (restarted c)))
      → (0 < c.outstanding → nack ≡ true → (k ≡ c.oldest → ⊥) → P (to_oldest c))
      → (0 < c.outstanding → nack ≡ false → k ≡ c.oldest → P (restarted (one_released c)))
      → (0 < c.outstanding → nack ≡ false → (k ≡ c.oldest → ⊥) → among_last c.released c.oldest k ≡ true → P c)
      → (0 < c.outstanding → nack ≡ false → (k ≡ c.oldest → ⊥) → among_last c.released c.oldest k ≡ false → P (to_oldest c))
      → P (heard c nack k)
  unfolding heard acked nacked
  heard_cases nack k idle nack_oldest nack_other ack_oldest ack_last ack_other =
      by_cases P (eqb c.outstanding 0) (λ t. idle (eqb-true c.outstanding 0 t))
      (λ t.
      let some : 0 < c.outstanding = omega (arith, eqb-false c.outstanding 0 t) in
      by_cases P nack
      (λ u. by_cases (λ d. P (to_oldest d)) (eqb k c.oldest) (λ e. nack_oldest some u (eqb-true k c.oldest e))
      (λ e. nack_other some u (eqb-false k c.oldest e)))
      (λ u. by_cases P (eqb k c.oldest) (λ e. ack_oldest some u (eqb-true k c.oldest e))
      (λ e. by_cases P (among_last c.released c.oldest k) (ack_last some u (eqb-false k c.oldest e))
      (ack_other some u (eqb-false k c.oldest e)))))

  -- nothing outstanding; the timer runs; expiry one or two; the third
  pub ticked_cases :
      (c.outstanding ≡ 0 → P c)
      → (0 < c.outstanding → (c.timer ≡ 1 → ⊥) → P (timer_at (c.timer - 1) c.expiries c))
      → (0 < c.outstanding → c.timer ≡ 1 → c.expiries < 2 → P (to_oldest (expired c)))
      → (0 < c.outstanding → c.timer ≡ 1 → 2 ≤ c.expiries → P (fallen (expired c)))
      → P (ticked c)
  unfolding ticked
  ticked_cases idle runs again third =
      by_cases P (eqb c.outstanding 0) (λ t. idle (eqb-true c.outstanding 0 t))
      (λ t.
      let some : 0 < c.outstanding = omega (arith, eqb-false c.outstanding 0 t) in
      by_cases P (eqb c.timer 1)
      (λ e. by_cases P (ltb c.expiries 2) (λ f. again some (eqb-true c.timer 1 e) (ltb-true c.expiries 2 f))
      (λ f. third some (eqb-true c.timer 1 e) (ltb-false c.expiries 2 f)))
      (λ e. runs some (eqb-false c.timer 1 e)))
