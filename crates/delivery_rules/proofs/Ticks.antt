-- A tick of our sender on a link that is up, with what is seen of it: nothing outstanding, a tick before the T-th, or an expiry.
-- Assumes nothing.
use mathlib.Core.Path.{◌≡◌, sym, subst}
use Prim.Native.Nat.{ℕ, ◌+◌, ◌-◌, ◌≤◌, ◌<◌}
use native.Mathlib.Omega.{arith}
use Rattle.retry_rules.specs.declared.Sender.{Sender}
use Rattle.retry_rules.specs.Reply.{to_oldest, timer_at, with_counters}
use Rattle.retry_rules.specs.Tick.{expired, fallen, ticked, tick_of}
use Rattle.retry_rules.proofs.Steps.{ticked_cases}
use Rattle.delivery_rules.specs.Outside.{Seen, seen_with, seen_tick}
use Rattle.delivery_rules.specs.Model.{World}
use Rattle.delivery_rules.specs.Ours.{ours}
use Rattle.delivery_rules.proofs.Seeing.{stands, unticked, plain_tick_lem, expiry}
use Rattle.delivery_rules.proofs.Calls.{ticks}
use Rattle.delivery_rules.proofs.Invariant.{Inv, numbers, up}

module _ (S : ℕ) (w : World ours) (v : Inv S w) (h : w.seen.expiries < 3) (P : Sender → Seen → Type 0) where
  pub tick_either :
      (w.seen.gone ≤ w.seen.released → P w.sender w.seen)
      → (w.seen.released < w.seen.gone → (w.seen.ticks + 1 ≡ w.seen.columns → ⊥)
      → P (with_counters w.sender (timer_at (w.sender.counters.timer - 1) w.sender.counters.expiries w.sender.counters))
      (seen_with w.seen w.seen.gone w.seen.released (w.seen.ticks + 1) w.seen.expiries))
      → (w.seen.released < w.seen.gone → w.seen.ticks + 1 ≡ w.seen.columns → w.seen.expiries < 2
      → P (with_counters w.sender (to_oldest (expired w.sender.counters)))
      (seen_with w.seen w.seen.gone w.seen.released 0 (w.seen.expiries + 1)))
      → (w.seen.released < w.seen.gone → w.seen.ticks + 1 ≡ w.seen.columns → 2 ≤ w.seen.expiries
      → P (with_counters w.sender (fallen (expired w.sender.counters)))
      (seen_with w.seen w.seen.gone w.seen.released 0 (w.seen.expiries + 1)))
      → P (tick_of w.sender).sender (seen_tick w.seen)
  tick_either idle plain again third =
      let s = w.sender in
      let c = s.counters in
      let g = w.seen in
      let n = (numbers s v.rule).numbers in
      let u = v.counts in
      let all : P (with_counters s (ticked c)) (seen_tick g) =
      ticked_cases (λ d. P (with_counters s d) (seen_tick g)) c
      (λ none.
      let still : g.gone ≤ g.released = omega arith in
      rw (unticked g (stands g still)) (idle still))
      (λ out more.
      let some : g.released < g.gone = omega arith in
      let not_last : g.ticks + 1 ≡ g.columns → ⊥ = λ q. more (omega arith) in
      rw (plain_tick_lem g h some not_last) (plain some not_last))
      (λ out one few.
      let some : g.released < g.gone = omega arith in
      let last : g.ticks + 1 ≡ g.columns = omega arith in
      rw (expiry g h some last) (again some last (omega arith)))
      (λ out one two.
      let some : g.released < g.gone = omega arith in
      let last : g.ticks + 1 ≡ g.columns = omega arith in
      rw (expiry g h some last) (third some last (omega arith))) in
      subst (λ (d : Sender). P d (seen_tick g)) (sym (ticks s (up S w v h))) all
