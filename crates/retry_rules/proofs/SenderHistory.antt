-- The sender counts expiries since the last clearing, takes each good offer while a buffer is free, and hears replies by what it really released.
-- Assumes nothing.
use mathlib.Core.Path.{◌≡◌, refl, sym, ◌∙◌, ap, subst}
use mathlib.Core.Bool.{Bool, true, false}
use mathlib.Core.List.{List}
use mathlib.Core.Logic.{◌↔◌, ◌⊎◌, inl, inr, ⊎_elim}
use Prim.Native.Nat.{ℕ, ◌+◌, ◌*◌, ◌%◌, ◌≤◌, ◌<◌, min}
use native.Mathlib.Omega.{arith}
use borrow.Author.Tests.{ltb-true, lt-ltb, eqb-true, eq-eqb, ne_eqb}
use Rattle.laws.proofs.Cases.{by_cases, cond_true, false_is_not_true}
use Rattle.refusal.specs.Order.{Check, given, refusal_of}
use Rattle.retry_rules.specs.declared.Counters.{Counters}
use Rattle.retry_rules.specs.declared.Sender.{Sender}
use Rattle.retry_rules.specs.Answers.{Answered, Offered, Sent, Ticked}
use Rattle.retry_rules.specs.Numbers.{time_allowed, among_last}
use Rattle.segment_size.specs.Sizes.{size_allowed}
use Rattle.retry_rules.specs.States.{is_down, sender_rule}
use Rattle.retry_rules.specs.Refused.{refused_send}
use Rattle.retry_rules.specs.Offer.{offer_checks, next_number}
use Rattle.retry_rules.specs.Send.{to_send, send_point, send_checks, send_of}
use Rattle.retry_rules.specs.Reply.{heard, to_oldest, restarted, sender_checks, reply_checks, with_counters, reply_of}
use Rattle.retry_rules.specs.Tick.{ticked}
use Rattle.retry_rules.specs.Calls.{SenderCall, offer, send, reply, damaged_reply, tick, reset, is_reset, sender_tells, send_tells, our_sender}
use Rattle.retry_rules.specs.Ledger.{Ledger, blank, waits_for_reply, oldest_number, sender_after, ledger_after}
use Rattle.retry_rules.specs.History.{Recent, Due, CountsExpiries, TakesOffers, HearsByHistory}
use Rattle.refusal.proofs.Outcomes.{either_way}
use Rattle.retry_rules.proofs.Steps.{heard_cases, ticked_cases}
use Rattle.retry_rules.proofs.StoredSlots.{stored_slot}
use Rattle.retry_rules.proofs.Seen.{Sound, sound, rule_holds, sender_seen, Sends}
use Rattle.retry_rules.proofs.Kept.{reply_kept}
use Rattle.retry_rules.proofs.Refusals.{offer_number, send_number, reply_number, damaged_reply_number, tick_number}
use Rattle.retry_rules.proofs.Done.{offer_done, send_done, reply_done, tick_done}
use Rattle.retry_rules.proofs.OfferFull.{full_five}
use Rattle.retry_rules.proofs.LastEight.{last_eight, recent_not_next}
use Rattle.retry_rules.proofs.Honest.{Honest, wraps, honest_calls, honest_fresh}

-- after any list of calls from fresh
from_fresh :
    (t s : ℕ) → time_allowed t ≡ true → size_allowed s ≡ true → (cs : List SenderCall)
    → Honest (sender_after our_sender (our_sender.fresh t s) cs) (ledger_after our_sender (our_sender.fresh t s) (blank t s) cs)
from_fresh t s p q cs = honest_calls (our_sender.fresh t s) (blank t s) (honest_fresh t s p q) cs

module _ (s : Sender) (l : Ledger) (h : Honest s l) where
  -- fewer than three expiries: the link is up. Three: it is down
  is_sound : l.expiries < 3 → Sound s
  is_sound few =
      let n = (rule_holds s h.rule).numbers in
      let e = h.agrees.expiries in
      sound s (ne_eqb s.counters.link 2 (λ p. omega arith)) h.rule

  is_down_lem : l.expiries ≡ 3 → is_down s.counters ≡ true
  is_down_lem three =
      let n = (rule_holds s h.rule).numbers in
      let e = h.agrees.expiries in
      eq-eqb s.counters.link 2 (omega arith)

  waits_some : waits_for_reply l ≡ true → 0 < s.counters.outstanding
  waits_some w = omega (arith, ltb-true l.released l.out w, h.agrees.outstanding)

  some_waits : 0 < s.counters.outstanding → waits_for_reply l ≡ true
  some_waits p = lt-ltb l.released l.out (omega (arith, h.agrees.outstanding))

  -- the tick that falls
  falls_then : Sound s → is_down (ticked s.counters) ≡ true → (l.expiries ≡ 2) × Due l
  falls_then u =
      let n = u.rule.numbers in
      let up = u.up in
      let still : is_down s.counters ≡ true → ⊥ = λ f. omega (arith, eqb-true s.counters.link 2 f) in
      ticked_cases (λ (d : Counters). is_down d ≡ true → (l.expiries ≡ 2) × Due l) s.counters (λ _ f. absurd (still f))
      (λ _ _ f. absurd (still f)) (λ _ _ _ f. absurd (still f))
      (λ some one two f.
      (omega (arith, h.agrees.expiries), (some_waits some, omega (arith, h.agrees.timer))))

  then_falls : l.expiries ≡ 2 → Due l → is_down (ticked s.counters) ≡ true
  then_falls two due =
      let some = waits_some due.0 in
      let last = due.1 in
      ticked_cases (λ (d : Counters). is_down d ≡ true) s.counters (λ z. absurd (omega arith))
      (λ _ more. absurd (more (omega (arith, h.agrees.timer))))
      (λ _ _ few. absurd (omega (arith, h.agrees.expiries))) (λ _ _ _. refl)

  third_is : (((sender_tells s tick).refusal ≡ 0) × ((sender_tells s tick).fell ≡ true)) ↔ ((l.expiries ≡ 2) × Due l)
  third_is = (
    λ p.
        let u = sender_seen s (sym (tick_number s) ∙ p.0) in
        falls_then u (ap (λ (a : Ticked). a.fell) (sym (tick_done s u)) ∙ p.1),
    λ p.
        let d = tick_done s (is_sound (omega (arith, p.0))) in
        (ap (λ (a : Ticked). a.refusal) d, ap (λ (a : Ticked). a.fell) d ∙ then_falls p.0 p.1),
  )

-- 7 comes first
link_down : (cs : List Check) → given 7 cs ≡ true → refusal_of cs ≡ 7
link_down cs p = cond_true (given 7 cs) 7 _ p

down_refuses : (s : Sender) (c : SenderCall) → is_down s.counters ≡ true → is_reset c ≡ false → (sender_tells s c).refusal ≡ 7
unfolding offer_checks send_checks sender_checks reply_checks
down_refuses s (offer lent channel bad n) d _ = offer_number s lent channel bad n ∙ link_down (offer_checks s lent channel n) d
down_refuses s (send lent output) d _ = send_number s lent output ∙ link_down (send_checks s lent output) d
down_refuses s (reply nack k) d _ = reply_number s nack k ∙ link_down (reply_checks s k) d
down_refuses s damaged_reply d _ = damaged_reply_number s ∙ link_down (sender_checks s) d
down_refuses s tick d _ = tick_number s ∙ link_down (sender_checks s) d
down_refuses s (reset t size) d z = absurd (false_is_not_true (sym z))

pub counts_expiries : CountsExpiries our_sender
counts_expiries =
    record {
      counts = λ t s p q cs. (from_fresh t s p q cs).agrees.expiries;
      third = λ t s p q cs. third_is _ _ (from_fresh t s p q cs);
      down = λ t s p q cs c three z. down_refuses _ c (is_down_lem _ _ (from_fresh t s p q cs) three) z;
    }

next_differs : (n : ℕ) → (n + 1) % 16 ≡ n → ⊥
next_differs n e = omega arith

-- offers
offer_takes :
    (s : Sender) (l : Ledger) → Honest s l → (channel : ℕ) (bad : Bool) (n : ℕ) → l.expiries < 3 → channel < 16 → 0 < n → n ≤ l.size
    → (l.accepted < l.released + 8
    → ((sender_tells s (offer (8 * l.size) channel bad n)).refusal ≡ 0) × ((sender_tells s (offer (8 * l.size) channel bad n)).number ≡ l.accepted % 16))
    × (l.accepted ≡ l.released + 8 → (sender_tells s (offer (8 * l.size) channel bad n)).refusal ≡ 5)
offer_takes s l h channel bad n few low some most =
    let a = h.agrees in
    let u = is_sound s l h few in
    let lent : 8 * l.size ≡ 8 * s.counters.size = omega (arith, a.size) in
    let most' : n ≤ s.counters.size = omega (arith, a.size) in
    let next : next_number s.counters ≡ l.accepted % 16 =
    ap (λ (m : ℕ). (m + s.counters.stored) % 16) a.oldest ∙ wraps l.released s.counters.stored
    ∙ ap (λ (m : ℕ). m % 16) (sym a.stored) in (
      λ free.
          let done = offer_done s (8 * l.size) channel bad n (record {
            sound = u;
            buffers = lent;
            channel_lt = low;
            most = most';
            some = some;
            free = omega (arith, a.stored);
          }) in
          (ap (λ (x : Offered). x.refusal) done, ap (λ (x : Offered). x.number) done ∙ next),
      λ full. offer_number s (8 * l.size) channel bad n ∙ full_five s (8 * l.size) channel n (record {
        sound = u;
        buffers = lent;
        channel_lt = low;
        most = most';
        some = some;
        full = omega (arith, a.stored);
      }),
    )

pub takes_offers : TakesOffers our_sender
takes_offers = record { takes = λ t s p q cs. offer_takes _ _ (from_fresh t s p q cs) }

-- what goes out is stored
module _ (s : Sender) (l : Ledger) (h : Honest s l) where
  going : (lent output : ℕ) → (sender_tells s (send lent output)).sent ≡ true → (j : ℕ) × (l.released ≤ j) × (j < l.accepted)
      × ((sender_tells s (send lent output)).number ≡ j % 16)
  unfolding send_of
  going lent output =
      let P : Sent → Type 0 = λ a. a.sent ≡ true → (j : ℕ) × (l.released ≤ j) × (j < l.accepted) × (a.number ≡ j % 16) in
      let o = h.agrees.oldest in
      either_way (send_checks s lent output) P (refused_send s) _
      (λ _. by_cases P (to_send s.counters)
      (λ t _. (
        l.released + s.counters.point,
        omega arith,
        omega (arith, ltb-true s.counters.point s.counters.stored t, h.agrees.stored),
        ap (λ (m : ℕ). (m + s.counters.point) % 16) o ∙ wraps l.released s.counters.point,
      ))
      (λ _ z. absurd (false_is_not_true z))) (λ _ z. absurd (false_is_not_true z))

  -- an ACK of one of the last eight really released
  ignored : (k : ℕ) → l.expiries < 3 → waits_for_reply l ≡ true → Recent l.released k → (reply_of s false k).sender ≡ s
  ignored k few w r =
      let a = h.agrees in
      let u = is_sound s l h few in
      let lt : k < 16 = omega (arith, r.3) in
      let not_oldest : k ≡ s.counters.oldest → ⊥ = λ p. recent_not_next l.released k r (p ∙ a.oldest) in
      let among : among_last s.counters.released s.counters.oldest k ≡ true =
      rw (a.released, a.oldest) ((last_eight l.released k lt).1 r) in
      ap (λ (x : Answered). x.sender) (reply_done s false k (record { sound = u; number_lt = lt }))
      ∙ ap (with_counters s)
      (heard_cases (λ (d : Counters). d ≡ s.counters) s.counters false k (λ _. refl)
      (λ _ z _. absurd (false_is_not_true z)) (λ _ z _. absurd (false_is_not_true z))
      (λ _ _ p. absurd (not_oldest p)) (λ _ _ _ _. refl) (λ _ _ _ z. absurd (false_is_not_true (sym z ∙ among))))

  by_history : (k : ℕ) → among_last s.counters.released s.counters.oldest k ≡ true → among_last (min l.released 8) (l.released % 16) k ≡ true
  by_history k z =
      subst (λ (m : ℕ). among_last (min l.released 8) m k ≡ true) h.agrees.oldest
      (subst (λ (m : ℕ). among_last m s.counters.oldest k ≡ true) h.agrees.released z)

  -- any NACK, and any other ACK that is not of the oldest
  point_back :
      (nack : Bool) (k : ℕ) → waits_for_reply l ≡ true → k < 16
      → (nack ≡ true) ⊎ ((k ≡ oldest_number l → ⊥) × (Recent l.released k → ⊥))
      → (heard s.counters nack k ≡ to_oldest s.counters) ⊎ (heard s.counters nack k ≡ to_oldest (restarted s.counters))
  point_back nack k w lt why =
      let a = h.agrees in
      let some = waits_some s l h w in
      let none : among_last s.counters.released s.counters.oldest k ≡ true → Recent l.released k = λ z.
      (last_eight l.released k lt).0 (by_history k z) in
      let ack : nack ≡ false → (k ≡ oldest_number l → ⊥) × (Recent l.released k → ⊥) = λ z.
      ⊎_elim (λ y. absurd (false_is_not_true (sym z ∙ y))) (λ y. y) why in
      heard_cases
      (λ (d : Counters). (d ≡ to_oldest s.counters) ⊎ (d ≡ to_oldest (restarted s.counters))) s.counters nack k
      (λ z. absurd (omega arith)) (λ _ _ _. inr refl) (λ _ _ _. inl refl) (λ _ z p. absurd ((ack z).0 (p ∙ a.oldest)))
      (λ _ z _ y. absurd ((ack z).1 (none y))) (λ _ _ _ _. inl refl)

  -- the next to go is then the oldest
  back_sends :
      (d : Counters) (output : ℕ) → Sound (with_counters s d) → d.point ≡ 0 → d.oldest ≡ s.counters.oldest → 0 < d.stored
      → d.size ≡ l.size → l.size ≤ output
      → sender_tells (with_counters s d) (send (8 * l.size) output) ≡ record { refusal = 0; sent = true; number = oldest_number l; fell = false }
  back_sends d output u zero same some size long =
      let x = with_counters s d in
      let t : to_send d ≡ true = lt-ltb d.point d.stored (omega arith) in
      let slot = stored_slot x d.point u.slots (omega arith) in
      let fits : Sends x (8 * l.size) output = record { sound = u; buffers = omega arith; long = λ _. omega (arith, slot.most) } in
      let number : send_point d ≡ oldest_number l = omega (arith, h.agrees.oldest) in
      ap send_tells (send_done x (8 * l.size) output fits t)
      ∙ ap (λ (m : ℕ). record { refusal = 0; sent = true; number = m; fell = false }) number

  goes_back_to :
      (nack : Bool) (k output : ℕ) → l.expiries < 3 → waits_for_reply l ≡ true → k < 16 → l.size ≤ output
      → (nack ≡ true) ⊎ ((k ≡ oldest_number l → ⊥) × (Recent l.released k → ⊥))
      → sender_tells (reply_of s nack k).sender (send (8 * l.size) output)
      ≡ record { refusal = 0; sent = true; number = oldest_number l; fell = false }
  goes_back_to nack k output few w lt long why =
      let a = h.agrees in
      let u = is_sound s l h few in
      let n = u.rule.numbers in
      let some : 0 < s.counters.stored = omega (arith, waits_some s l h w) in
      let done = ap (λ (x : Answered). x.sender) (reply_done s nack k (record { sound = u; number_lt = lt })) in
      let next : (d : Counters) → heard s.counters nack k ≡ d → d.point ≡ 0 → d.oldest ≡ s.counters.oldest
      → d.stored ≡ s.counters.stored → d.size ≡ s.counters.size → d.link ≡ 1
      → sender_tells (reply_of s nack k).sender (send (8 * l.size) output)
      ≡ record { refusal = 0; sent = true; number = oldest_number l; fell = false } = λ d e zero same stored size up.
      let is : (reply_of s nack k).sender ≡ with_counters s d = done ∙ ap (with_counters s) e in
      let rule : sender_rule (with_counters s d) ≡ true = subst (λ (x : Sender). sender_rule x ≡ true) is (reply_kept s nack k h.rule) in
      let v = sound (with_counters s d) (ne_eqb d.link 2 (λ p. omega arith)) rule in
      ap (λ (x : Sender). sender_tells x (send (8 * l.size) output)) is
      ∙ back_sends d output v zero same (omega arith) (size ∙ a.size) long in
      ⊎_elim (λ e. next (to_oldest s.counters) e refl refl refl refl u.up)
      (λ e. next (to_oldest (restarted s.counters)) e refl refl refl refl u.up) (point_back nack k w lt why)

pub hears_by_history : HearsByHistory our_sender
hears_by_history =
    record {
      sends_stored = λ t s p q cs. going _ _ (from_fresh t s p q cs);
      ignores = λ t s p q cs k lent output few w r.
          ap (λ (x : Sender). sender_tells x (send lent output)) (ignored _ _ (from_fresh t s p q cs) k few w r);
      goes_back = λ t s p q cs. goes_back_to _ _ (from_fresh t s p q cs);
    }

-- after o releases, with something outstanding and the send point past the oldest, an ACK is ignored exactly if it is of one of the last eight
-- really released. (With the send point at the oldest, moving it there changes nothing either.)
pub ignored_exactly :
    (t size : ℕ) → time_allowed t ≡ true → size_allowed size ≡ true → (cs : List SenderCall) (k : ℕ)
    → let s = sender_after our_sender (our_sender.fresh t size) cs in
    let l = ledger_after our_sender (our_sender.fresh t size) (blank t size) cs in
    l.expiries < 3 → waits_for_reply l ≡ true → 0 < s.counters.point → k < 16
    → ((reply_of s false k).sender ≡ s) ↔ Recent l.released k
ignored_exactly t size p q cs k few w past lt =
    let s = sender_after our_sender (our_sender.fresh t size) cs in
    let l = ledger_after our_sender (our_sender.fresh t size) (blank t size) cs in
    let h = from_fresh t size p q cs in
    let some = waits_some s l h w in
    let done = ap (λ (x : Answered). x.sender.counters) (reply_done s false k (record { sound = is_sound s l h few; number_lt = lt })) in (
      λ e.
          heard_cases (λ (d : Counters). d ≡ s.counters → Recent l.released k) s.counters false k (λ z _. absurd (omega arith))
          (λ _ z _ _. absurd (false_is_not_true z)) (λ _ z _ _. absurd (false_is_not_true z))
          (λ _ _ _ y. absurd (next_differs s.counters.oldest (ap (λ (d : Counters). d.oldest) y)))
          (λ _ _ _ z _. (last_eight l.released k lt).0 (by_history s l h k z))
          (λ _ _ _ _ y. absurd (omega (arith, ap (λ (d : Counters). d.point) y))) (sym done ∙ ap (λ (x : Sender). x.counters) e),
      ignored s l h k few w,
    )
