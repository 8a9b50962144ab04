-- A window of nine or more never recovers once nine were delivered and their ACKs lost.
-- Assumes nothing.
use mathlib.Core.Path.{◌≡◌, refl, sym, ◌∙◌, ap, subst}
use mathlib.Core.Bool.{true, not}
use mathlib.Core.List.{List, [], ◌∷◌, ◌++◌, map}
use Prim.Native.Nat.{ℕ, ◌+◌, ◌≤◌}
use native.Mathlib.Omega.{arith}
use lib.Dec.{ltb}
use lib.ListN.{length}
use borrow.Author.Tests.{lt-ltb, le-ltb}
use Rattle.laws.proofs.Cases.{both_true, cond_true}
use Rattle.retry_rules.specs.Numbers.{among_last}
use Rattle.retry_rules.specs.Lent.{Content}
use Rattle.delivery_rules.specs.Ends.{Offering}
use Rattle.delivery_rules.specs.Outside.{gone_with, seen_reply, seen_tick}
use Rattle.delivery_rules.specs.Model.{Event, offer, send, arrive, lose_reply, World, offered, step, run, start}
use Rattle.delivery_rules.specs.Demand.{expire_once, Delivers}
use Rattle.delivery_wrong.specs.Plain.{PlainSender, fallen, plain_taken, plain_offer, plain_send, plain_hear, plain_tick, plain_arrive, wide_choice, wide}
use Rattle.delivery_wrong.proofs.ByRun.{segments, times, lent, output, round, after, checked, breaks_at, unrecovered_at, run_append}

-- nine are sent and delivered and their ACKs lost: the oldest is no longer one of the last eight, so it is answered with NACK for ever
abbrev pub nine_sent : List Event
nine_sent = times 9 (send output ∷ []) ++ times 9 (arrive true output ∷ []) ++ times 9 (lose_reply 0 ∷ [])

abbrev pub nine_lost : List Event
nine_lost = map offer (segments 0 9) ++ nine_sent

module _ (n : ℕ) where
  -- offers that find room
  abbrev filled : List Content → World (wide n) → World (wide n)
  filled [] w = w
  filled (x ∷ xs) w = filled xs (offered (wide n) w x (plain_taken (wide_choice n) w.sender w.buffers x))

  offers_fill :
      (xs : List Content) (w : World (wide n)) → w.sender.expiries ≤ 2 → w.sender.stored + length xs ≤ n
      → run (wide n) (map offer xs) w ≡ filled xs w
  unfolding run step plain_offer
  offers_fill [] w few h = refl
  offers_fill (x ∷ xs) w few h =
      let s = w.sender in
      let up : not (fallen s) ≡ true = ap not (le-ltb 2 s.expiries few) in
      let free = lt-ltb s.stored n (omega arith) in
      let taken = cond_true _ (plain_taken (wide_choice n) s w.buffers x) _ (both_true (not (fallen s)) (ltb s.stored n) up free) in
      ap (λ (a : Offering PlainSender). run (wide n) (map offer xs) (offered (wide n) w x a)) taken ∙ offers_fill xs _ few (omega arith)

  -- what follows turns on no window
  stuck : breaks_at (wide n) (run (wide n) nine_sent (filled (segments 0 9) (start (wide n) 1 8 lent))) (times 9 round) ≡ true
  unfolding breaks_at checked run step expire_once gone_with seen_reply seen_tick among_last plain_send plain_hear plain_tick plain_arrive
  stuck = refl

  pub wide_refused : 9 ≤ n → Delivers (wide n) → ⊥
  wide_refused h =
      let w = start (wide n) 1 8 lent in
      let is : after (wide n) nine_lost ≡ run (wide n) nine_sent (filled (segments 0 9) w) =
      run_append (wide n) (map offer (segments 0 9)) nine_sent w ∙ ap (run (wide n) nine_sent) (offers_fill (segments 0 9) w (omega arith) h) in
      unrecovered_at (wide n) nine_lost (times 9 round) (subst (λ (w : World (wide n)). breaks_at (wide n) w (times 9 round) ≡ true) (sym is) stuck)
