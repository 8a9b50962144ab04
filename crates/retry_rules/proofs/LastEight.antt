-- 'One of the last eight' by the count of those that really were is the same as by their history: k is the number of one of the last eight of e.
-- Assumes nothing.
use mathlib.Core.Path.{◌≡◌}
use mathlib.Core.Bool.{true}
use mathlib.Core.Logic.{◌↔◌}
use Prim.Native.Nat.{ℕ, ◌-◌, ◌%◌, ◌<◌, min}
use native.Mathlib.Omega.{arith}
use borrow.Author.Tests.{ltb-true, lt-ltb}
use Rattle.retry_rules.specs.Numbers.{between, among_last}
use Rattle.retry_rules.specs.History.{Recent}

pub last_eight : (e k : ℕ) → k < 16 → (among_last (min e 8) (e % 16) k ≡ true) ↔ Recent e k
unfolding among_last
last_eight e k h = (
  λ q.
      let lt = ltb-true (between k (e % 16)) (min e 8) q in
      (e - 1 - between k (e % 16), omega arith, omega arith, omega arith),
  λ r.
      let j = r.0 in
      let h₁ = r.1 in
      let h₂ = r.2 in
      let h₃ = r.3 in
      lt-ltb (between k (e % 16)) (min e 8) (omega arith),
)

-- it is not the next number
pub recent_not_next : (e k : ℕ) → Recent e k → k ≡ e % 16 → ⊥
recent_not_next e k r p =
    let j = r.0 in
    let h₁ = r.1 in
    let h₂ = r.2 in
    let h₃ = r.3 in
    omega arith
