-- A run that is written down refutes ends: each condition of the drill is tested, and so is what comes of it.
-- Assumes nothing.
use mathlib.Core.Path.{◌≡◌, refl, sym, ◌∙◌, ap}
use mathlib.Core.Bool.{Bool, true, false, not, cond, ◌&&◌}
use mathlib.Core.List.{List, [], ◌∷◌, ◌++◌, map}
use Prim.Native.Nat.{ℕ, zero, suc, ◌+◌, ◌*◌}
use lib.Dec.{eqb, leb, ltb}
use lib.ListN.{length, get_or, take, replicate}
use borrow.Author.Tests.{eqb-true, eqb-false, leb-true, ltb-true, eq-eqb, not-true}
use Rattle.laws.specs.Lists.{count_from}
use Rattle.laws.proofs.Cases.{both_true, first_true, second_true, false_is_not_true}
use Rattle.segment_size.specs.Sizes.{size_allowed}
use Rattle.retry_rules.specs.Lent.{Content}
use Rattle.delivery_rules.specs.Ends.{Item, segment, damaged, Ends}
use Rattle.delivery_rules.specs.Outside.{is_up, stored, seen_tick}
use Rattle.delivery_rules.specs.Model.{Event, offer, send, arrive, lose, damage, hear, lose_reply, damage_reply, tick, World, step, run, start}
use Rattle.delivery_rules.specs.Demand.{no_content, Allowed, Moment, at, AllCalm, expire_once, Fits, SendsEach, Drill, Delivers}

-- the i-th segment: one byte, on channel 3, with the bad mark
abbrev pub nth : ℕ → Content
nth i = record { channel = 3; bad = true; bytes = i ∷ [] }

abbrev pub segments : ℕ → ℕ → List Content
segments from n = map nth (count_from from n)

-- so many times the same
abbrev pub times : ℕ → List Event → List Event
times zero es = []
times (suc n) es = es ++ times n es

-- eight buffers of eight bytes, and an output of eight bytes
abbrev pub lent : List ℕ
lent = replicate 64 0

abbrev pub output : List ℕ
output = replicate 8 0

allowed : Allowed 1 8 lent
unfolding size_allowed
allowed = record { time = refl; size = refl; eight = refl }

-- a send, its arrival and its reply
abbrev pub round : List Event
round = send output ∷ arrive true output ∷ hear ∷ []

-- the channel, the mark and the first byte of the i-th, as one number
abbrev digest : List Content → ℕ → ℕ
digest l i =
    let x = get_or l i no_content in
    x.channel + 16 * cond x.bad 1 0 + 32 * get_or x.bytes 0 0

abbrev none : {A : Type 0} → List A → Bool
none [] = true
none (x ∷ l) = false

none_is : {A : Type 0} (l : List A) → none l ≡ true → l ≡ []
none_is [] q = refl
none_is (x ∷ l) q = absurd (false_is_not_true q)

abbrev fitting : List Item → List ℕ → Bool
fitting [] output = true
fitting (segment k x ∷ rest) output = leb (length x.bytes) (length output)
fitting (damaged ∷ rest) output = true

fitting_is : (E : Ends) (l : List Item) (output : List ℕ) → fitting l output ≡ true → Fits E l output
fitting_is E [] output q = tt
fitting_is E (segment k x ∷ rest) output q = leb-true (length x.bytes) (length output) q
fitting_is E (damaged ∷ rest) output q = tt

module _ (E : Ends) where
  unfoldable pub checked : ℕ → List Event → World E → Bool
  checked j [] w = eqb j (length w.seen.accepted) && (none w.forward && none w.backward)
  checked j (send output ∷ es) w =
      leb (length (get_or w.seen.accepted j no_content).bytes) (length output) && checked (suc j) es (step E (send output) w)
  checked j (arrive room output ∷ es) w = room && (fitting w.forward output && checked j es (step E (arrive room output) w))
  checked j (hear ∷ es) w = checked j es (step E hear w)
  checked j (tick ∷ es) w = eqb (seen_tick w.seen).expiries w.seen.expiries && checked j es (step E tick w)
  checked j (offer x ∷ es) w = false
  checked j (lose n ∷ es) w = false
  checked j (damage n ∷ es) w = false
  checked j (lose_reply n ∷ es) w = false
  checked j (damage_reply n ∷ es) w = false

  sends_each : (es : List Event) (j : ℕ) (w : World E) → checked j es w ≡ true → SendsEach E j es w
  unfolding checked SendsEach
  sends_each [] j w q =
      let r = second_true (eqb j (length w.seen.accepted)) _ q in (
        eqb-true j (length w.seen.accepted) (first_true (eqb j (length w.seen.accepted)) _ q),
        (
          none_is w.forward (first_true (none w.forward) (none w.backward) r),
          none_is w.backward (second_true (none w.forward) (none w.backward) r),
        ),
      )
  sends_each (send output ∷ es) j w q =
      let n = length (get_or w.seen.accepted j no_content).bytes in (
        leb-true n (length output) (first_true (leb n (length output)) _ q),
        sends_each es (suc j) (step E (send output) w) (second_true (leb n (length output)) _ q),
      )
  sends_each (arrive room output ∷ es) j w q =
      let r = second_true room _ q in (
        first_true room _ q,
        fitting_is E w.forward output (first_true (fitting w.forward output) _ r),
        sends_each es j (step E (arrive room output) w) (second_true (fitting w.forward output) _ r),
      )
  sends_each (hear ∷ es) j w q = sends_each es j (step E hear w) q
  sends_each (tick ∷ es) j w q =
      let b = eqb (seen_tick w.seen).expiries w.seen.expiries in
      (eqb-true (seen_tick w.seen).expiries w.seen.expiries (first_true b _ q), sends_each es j (step E tick w) (second_true b _ q))
  sends_each (offer x ∷ es) j w q = absurd (false_is_not_true q)
  sends_each (lose n ∷ es) j w q = absurd (false_is_not_true q)
  sends_each (damage n ∷ es) j w q = absurd (false_is_not_true q)
  sends_each (lose_reply n ∷ es) j w q = absurd (false_is_not_true q)
  sends_each (damage_reply n ∷ es) j w q = absurd (false_is_not_true q)

  -- with T = 1, so that each tick with something outstanding is an expiry, and S = 8
  abbrev moment : List Event → Moment E
  moment es = record { T = 1; S = 8; lent = lent; allowed = allowed; events = es }

  abbrev pub after : List Event → World E
  after es = run E es (start E 1 8 lent)

  -- the link is up, and the i-th delivered is not the i-th accepted
  unfoldable pub breaks_safety : List Event → ℕ → Bool
  breaks_safety es i =
      let g = (after es).seen in
      is_up g && not (eqb (digest g.delivered i) (digest (take (length g.delivered) g.accepted) i))

  pub unsafe : (es : List Event) (i : ℕ) → breaks_safety es i ≡ true → Delivers E → ⊥
  unfolding breaks_safety
  unsafe es i q d =
      let g = (after es).seen in
      let a = digest g.delivered i in
      let b = digest (take (length g.delivered) g.accepted) i in
      let same : a ≡ b = ap (λ (l : List Content). digest l i) (d.safe (moment es) (first_true (is_up g) _ q)) in
      eqb-false a b (not-true (eqb a b) (second_true (is_up g) _ q)) same

  -- all is delivered and nothing stored
  abbrev complete : World E → World E → Bool
  complete w end = eqb (length end.seen.delivered) (length w.seen.accepted) && eqb (stored end.seen) 0

  -- at a world the link is up with fewer than two expiries, both lines are empty, the events are a drill, and after it not all is delivered or
  -- something is stored
  unfoldable pub breaks_at : World E → List Event → Bool
  breaks_at w fs =
      let ready = expire_once E w in
      is_up w.seen
      && (ltb w.seen.expiries 2
      && (none w.forward
      && (none w.backward && (checked ready.seen.released fs ready && not (complete w (run E fs ready))))))

  unfoldable pub breaks_recovery : List Event → List Event → Bool
  breaks_recovery es fs = breaks_at (after es) fs

  pub unrecovered_at : (es fs : List Event) → breaks_at (after es) fs ≡ true → Delivers E → ⊥
  unfolding breaks_at run AllCalm
  unrecovered_at es fs q d =
      let w = after es in
      let ready = expire_once E w in
      let end = run E fs ready in
      let q₁ = second_true (is_up w.seen) _ q in
      let q₂ = second_true (ltb w.seen.expiries 2) _ q₁ in
      let q₃ = second_true (none w.forward) _ q₂ in
      let q₄ = second_true (none w.backward) _ q₃ in
      let q₅ = second_true (checked ready.seen.released fs ready) _ q₄ in
      let drill : Drill E (at E (moment es)) =
      record {
        emptying = [];
        calm = tt;
        empty = (none_is w.forward (first_true (none w.forward) _ q₂), none_is w.backward (first_true (none w.backward) _ q₃));
        sending = fs;
        each = sends_each fs ready.seen.released ready (first_true (checked ready.seen.released fs ready) _ q₄);
      } in
      let r = d.recovers (moment es) (first_true (is_up w.seen) _ q) (ltb-true w.seen.expiries 2 (first_true (ltb w.seen.expiries 2) _ q₁)) drill in
      let all = eq-eqb (length end.seen.delivered) (length w.seen.accepted) (ap length r.all) in
      let none_stored = eq-eqb (stored end.seen) 0 r.none_stored in
      false_is_not_true
      (sym (not-true (complete w end) q₅)
      ∙ both_true (eqb (length end.seen.delivered) (length w.seen.accepted)) (eqb (stored end.seen) 0) all none_stored)

  pub unrecovered : (es fs : List Event) → breaks_recovery es fs ≡ true → Delivers E → ⊥
  unfolding breaks_recovery
  unrecovered es fs q = unrecovered_at es fs q

  -- a run in two parts
  pub run_append : (es fs : List Event) (w : World E) → run E (es ++ fs) w ≡ run E fs (run E es w)
  unfolding run
  run_append [] fs w = refl
  run_append (e ∷ es) fs w = run_append es fs (step E e w)
