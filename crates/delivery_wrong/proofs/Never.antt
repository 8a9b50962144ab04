-- Whatever else they do or say of themselves: ends that accept no offer, never send, or deliver nothing do not meet demand 3.
-- Assumes nothing.
use mathlib.Core.Path.{◌≡◌, refl, sym, ◌∙◌, ap, subst}
use mathlib.Core.Bool.{Bool, false}
use mathlib.Core.List.{List, [], ◌∷◌, map}
use Prim.Native.Nat.{ℕ}
use native.Mathlib.Omega.{arith}
use lib.Dec.{eqb}
use lib.ListN.{length, replicate, set}
use Rattle.laws.proofs.Cases.{by_cases}
use Rattle.segment_size.specs.Sizes.{size_allowed}
use Rattle.retry_rules.specs.declared.Receiver.{Receiver}
use Rattle.retry_rules.specs.Lent.{Content}
use Rattle.delivery_rules.specs.Ends.{Item, segment, damaged, Reply, Ends}
use Rattle.delivery_rules.specs.Outside.{outstanding, ticks_left}
use Rattle.delivery_rules.specs.Model.{Event, offer, send, arrive, lose, damage, hear, lose_reply, damage_reply, tick, joined, without, World, arrives, hears, step, run, start}
use Rattle.delivery_rules.specs.Demand.{Good, AllGood, Allowed, Moment, at, AllCalm, expire_once, SendsEach, Drill, drilled, Delivers}
use Rattle.delivery_rules.proofs.Seeing.{reply_heard, tick_lists}
use Rattle.delivery_wrong.specs.Altered.{accepts_none, never_sends, never_sends_and_lies, only_nacks, acks_only, acks_and_delivers_nothing, refuses_arrivals}

-- a good segment, and eight of them
one : Content
one = record { channel = 3; bad = false; bytes = 7 ∷ 8 ∷ [] }

abbrev eight : List Content
eight = replicate 8 one

all_good : AllGood 8 eight
unfolding one
all_good = (g, (g, (g, (g, (g, (g, (g, (g, tt))))))))
  where
    g : Good 8 one
    g = record { channel_lt = omega arith; some = omega arith; most = omega arith }

abbrev lent : List ℕ
lent = replicate 64 0

allowed : Allowed 4 8 lent
unfolding size_allowed
allowed = record { time = refl; size = refl; eight = refl }

module _ (E : Ends) where
  -- what each step keeps holds at the end of the drill
  module _ (P : World E → Type 0) (kept : (e : Event) (w : World E) → P w → P (step E e w)) where
    along : (es : List Event) (w : World E) → P w → P (run E es w)
    unfolding run
    along [] w p = p
    along (e ∷ es) w p = along es (step E e w) (kept e w p)

    after_drill : (w : World E) (d : Drill E w) → P w → P (drilled E w d)
    unfolding expire_once
    after_drill w d p =
        let v = run E d.emptying w in
        let q = along d.emptying w p in
        along d.sending (expire_once E v)
        (by_cases P (eqb (outstanding v.seen) 0) (λ _. q) (λ _. along (replicate (ticks_left v.seen) tick) v q))

  -- fresh ends, and the drill that has nothing to do; then eight good offers
  abbrev begin : World E
  begin = start E 4 8 lent

  fresh : Moment E
  fresh = record { T = 4; S = 8; lent = lent; allowed = allowed; events = [] }

  offered : Moment E
  offered = record { T = 4; S = 8; lent = lent; allowed = allowed; events = map offer eight }

  no_drill : Drill E (at E fresh)
  unfolding fresh run AllCalm expire_once SendsEach
  no_drill = record { emptying = []; calm = tt; empty = (refl, refl); sending = []; each = (refl, (refl, refl)) }

  -- ends that meet the demand accept the eight
  accepted_all : Delivers E → (run E (map offer eight) begin).seen.accepted ≡ eight
  unfolding fresh no_drill run expire_once
  accepted_all d = (d.recovers fresh refl (omega arith) no_drill).eight_free eight refl all_good

  -- and deliver them
  delivered_all : (d : Delivers E) → (r : Drill E (at E offered)) × ((drilled E (at E offered) r).seen.delivered ≡ eight)
  unfolding offered run step
  delivered_all d =
      let r = d.can_drill offered refl (omega arith) in
      (r, (d.recovers offered refl (omega arith) r).all ∙ accepted_all d)

  -- a sender that accepts no offer
  module _ (none : (s : E.Sender) (buffers : List ℕ) (x : Content) → (E.offer s buffers x).accepted ≡ false) where
    unaccepted : (xs : List Content) (w : World E) → (run E (map offer xs) w).seen.accepted ≡ w.seen.accepted
    unfolding run step
    unaccepted [] w = refl
    unaccepted (x ∷ xs) w =
        unaccepted xs (step E (offer x) w)
        ∙ ap (λ (b : Bool). joined w.seen.accepted b x) (none w.sender w.buffers x)

    pub accepts_none_lem : Delivers E → ⊥
    accepts_none_lem d = omega (arith, ap length (sym (unaccepted eight begin) ∙ accepted_all d))

  -- a receiver that delivers nothing
  abbrev Undelivered : World E → Type 0
  Undelivered w = w.seen.delivered ≡ []

  hears_same : (w : World E) (l : List Reply) → (hears E w l).seen.delivered ≡ w.seen.delivered
  hears_same w [] = refl
  hears_same w (y ∷ l) = (reply_heard w.seen y).lists.delivered

  module _ (none : (r : E.Receiver) (i : Item) (room : Bool) (output : List ℕ) → (E.arrive r i room output).delivered ≡ false) where
    arrives_none : (w : World E) (room : Bool) (output : List ℕ) (l : List Item) → Undelivered w → Undelivered (arrives E w room output l)
    arrives_none w room output [] p = p
    arrives_none w room output (i ∷ l) p =
        ap (λ (b : Bool). joined w.seen.delivered b (E.arrive w.receiver i room output).content) (none w.receiver i room output) ∙ p

    undelivered : (e : Event) (w : World E) → Undelivered w → Undelivered (step E e w)
    unfolding step
    undelivered (offer x) w p = p
    undelivered (send output) w p = p
    undelivered (arrive room output) w p = arrives_none w room output w.forward p
    undelivered (lose n) w p = p
    undelivered (damage n) w p = p
    undelivered hear w p = hears_same w w.backward ∙ p
    undelivered (lose_reply n) w p = p
    undelivered (damage_reply n) w p = p
    undelivered tick w p = (tick_lists w.seen).delivered ∙ p

    pub delivers_nothing : Delivers E → ⊥
    unfolding offered
    delivers_nothing d =
        let all = delivered_all d in
        let nothing = after_drill Undelivered undelivered (at E offered) all.0 (along Undelivered undelivered (map offer eight) begin refl) in
        omega (arith, ap length (sym nothing ∙ all.1))

  -- a sender that never sends: nothing is ever on the line, and so nothing arrives
  record Still (w : World E) : Type 0 where
    line : w.forward ≡ []
    nothing : w.seen.delivered ≡ []

  module _ (none : (s : E.Sender) (buffers output : List ℕ) → (E.send s buffers output).sent ≡ false) where
    still : (e : Event) (w : World E) → Still w → Still (step E e w)
    unfolding step
    still (offer x) w p = record { line = p.line; nothing = p.nothing }
    still (send output) w p =
        let a = E.send w.sender w.buffers output in
        record {
          line = ap (λ (b : Bool). joined w.forward b (segment a.number a.content)) (none w.sender w.buffers output)
              ∙ p.line;
          nothing = p.nothing;
        }
    still (arrive room output) w p = subst (λ (l : List Item). Still (arrives E w room output l)) (sym p.line) p
    still (lose n) w p = record { line = ap (λ (l : List Item). without l n) p.line; nothing = p.nothing }
    still (damage n) w p = record { line = ap (λ (l : List Item). set l n damaged) p.line; nothing = p.nothing }
    still hear w p = heard w.backward
      where
        heard : (l : List Reply) → Still (hears E w l)
        heard [] = p
        heard (y ∷ l) = record { line = p.line; nothing = (reply_heard w.seen y).lists.delivered ∙ p.nothing }
    still (lose_reply n) w p = record { line = p.line; nothing = p.nothing }
    still (damage_reply n) w p = record { line = p.line; nothing = p.nothing }
    still tick w p = record { line = p.line; nothing = (tick_lists w.seen).delivered ∙ p.nothing }

    pub never_sends_lem : Delivers E → ⊥
    unfolding offered
    never_sends_lem d =
        let all = delivered_all d in
        let fresh_still : Still begin = record { line = refl; nothing = refl } in
        let nothing = (after_drill Still still (at E offered) all.0 (along Still still (map offer eight) begin fresh_still)).nothing in
        omega (arith, ap length (sym nothing ∙ all.1))

-- the ends that document 01 lists
pub accepts_none_refused : Delivers accepts_none → ⊥
accepts_none_refused = accepts_none_lem accepts_none (λ s buffers x. refl)

pub never_sends_refused : Delivers never_sends → ⊥
never_sends_refused = never_sends_lem never_sends (λ s buffers output. refl)

pub liar_refused : Delivers never_sends_and_lies → ⊥
liar_refused = never_sends_lem never_sends_and_lies (λ s buffers output. refl)

pub only_nacks_refused : Delivers only_nacks → ⊥
only_nacks_refused = delivers_nothing only_nacks (λ r i room output. refl)

pub acks_only_refused : Delivers acks_and_delivers_nothing → ⊥
acks_only_refused = delivers_nothing acks_and_delivers_nothing nothing
  where
    nothing : (r : Receiver) (i : Item) (room : Bool) (output : List ℕ) → (acks_only r i).delivered ≡ false
    nothing r (segment k x) room output = refl
    nothing r damaged room output = refl

pub refuses_arrivals_refused : Delivers refuses_arrivals → ⊥
refuses_arrivals_refused = delivers_nothing refuses_arrivals (λ r i room output. refl)
