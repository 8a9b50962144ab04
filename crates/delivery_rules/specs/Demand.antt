-- Demand 3, in its own words, as a predicate over any two ends.
use Rattle.std.specs.Prelude.{ℕ, suc, ◌*◌, ◌≤◌, ◌<◌, Bool, true, cond, List, [], ◌∷◌, ◌++◌, map, ◌≡◌, eqb, length, get_or, take, replicate}
use Rattle.retry_rules.specs.Numbers.{time_allowed}
use Rattle.segment_size.specs.Sizes.{size_allowed}
use Rattle.retry_rules.specs.Lent.{Content}
use Rattle.delivery_rules.specs.Ends.{Item, segment, damaged, Ends}
use Rattle.delivery_rules.specs.Outside.{is_up, outstanding, stored, ticks_left, seen_tick}
use Rattle.delivery_rules.specs.Model.{Event, offer, send, arrive, lose, damage, hear, lose_reply, damage_reply, tick, World, step, run, start}

abbrev pub no_content : Content
no_content = record { channel = 0; bad = Bool.false; bytes = [] }

-- a good offer: a channel from 0 to 15, and 1 to S bytes
pub record Good (S : ℕ) (x : Content) : Type 0 where
  pub channel_lt : x.channel < 16
  pub some : 0 < length x.bytes
  pub most : length x.bytes ≤ S

abbrev pub AllGood : ℕ → List Content → Type 0
AllGood S [] = Unit {0}
AllGood S (x ∷ xs) = Good S x × AllGood S xs

-- T, S and the bytes lent for the eight buffers, whatever they hold
pub record Allowed (T S : ℕ) (lent : List ℕ) : Type 0 where
  pub time : time_allowed T ≡ true
  pub size : size_allowed S ≡ true
  pub eight : length lent ≡ 8 * S

-- the segments delivered are the first so many accepted for sending, in order, each once
abbrev pub FirstSoMany : List Content → List Content → Type 0
FirstSoMany delivered accepted = delivered ≡ take (length delivered) accepted

module _ (E : Ends) where
  -- a moment: what happened, in any order, to a fresh sender and receiver with the same S
  pub record Moment : Type 0 where
    pub T : ℕ
    pub S : ℕ
    pub lent : List ℕ
    pub allowed : Allowed T S lent
    pub events : List Event

  abbrev pub at : Moment → World E
  at m = run E m.events (start E m.T m.S m.lent)

  abbrev pub Empty : World E → Type 0
  Empty w = (w.forward ≡ []) × (w.backward ≡ [])

  abbrev pub NoExpiry : World E → Type 0
  NoExpiry w = (seen_tick w.seen).expiries ≡ w.seen.expiries

  -- no new offers, nothing lost or damaged, no expiry: sends, arrivals at either end and ticks, in any order, whatever the outputs and the room
  abbrev pub Calm : Event → World E → Type 0
  Calm (offer x) w = ⊥
  Calm (send output) w = Unit {0}
  Calm (arrive room output) w = Unit {0}
  Calm (lose n) w = ⊥
  Calm (damage n) w = ⊥
  Calm hear w = Unit {0}
  Calm (lose_reply n) w = ⊥
  Calm (damage_reply n) w = ⊥
  Calm tick w = NoExpiry w

  unfoldable pub AllCalm : List Event → World E → Type 0
  AllCalm [] w = Unit {0}
  AllCalm (e ∷ es) w = Calm e w × AllCalm es (step E e w)

  -- let the timer expire once if anything sent is still unacknowledged
  unfoldable pub expire_once : World E → World E
  expire_once w =
      cond (eqb (outstanding w.seen) 0) w (run E (replicate (ticks_left w.seen) tick) w)

  -- the output is long enough for what arrives next
  abbrev pub Fits : List Item → List ℕ → Type 0
  Fits [] output = Unit {0}
  Fits (segment k x ∷ rest) output = length x.bytes ≤ length output
  Fits (damaged ∷ rest) output = Unit {0}

  -- one send for each segment from the j-th accepted on, and all arrivals at either end, in any order; none lost or damaged, no further
  -- expiry, every output long enough, the receiver never full; at the end both lines are empty
  unfoldable pub SendsEach : ℕ → List Event → World E → Type 0
  SendsEach j [] w = (j ≡ length w.seen.accepted) × Empty w
  SendsEach j (send output ∷ es) w =
      (length (get_or w.seen.accepted j no_content).bytes ≤ length output) × SendsEach (suc j) es (step E (send output) w)
  SendsEach j (arrive room output ∷ es) w =
      (room ≡ true) × Fits w.forward output × SendsEach j es (step E (arrive room output) w)
  SendsEach j (hear ∷ es) w = SendsEach j es (step E hear w)
  SendsEach j (tick ∷ es) w = NoExpiry w × SendsEach j es (step E tick w)
  SendsEach j (offer x ∷ es) w = ⊥
  SendsEach j (lose n ∷ es) w = ⊥
  SendsEach j (damage n ∷ es) w = ⊥
  SendsEach j (lose_reply n ∷ es) w = ⊥
  SendsEach j (damage_reply n ∷ es) w = ⊥

  -- the drill from a world: empty both lines, let the timer expire, send each stored segment once
  pub record Drill (w : World E) : Type 0 where
    pub emptying : List Event
    pub calm : AllCalm emptying w
    pub empty : Empty (run E emptying w)
    pub sending : List Event
    pub each : SendsEach (expire_once (run E emptying w)).seen.released sending (expire_once (run E emptying w))

  abbrev pub drilled : (w : World E) → Drill w → World E
  drilled w d = run E d.sending (expire_once (run E d.emptying w))

  -- every segment accepted before the drill is delivered and the buffers are empty: nothing is stored, and the next eight good offers are accepted
  pub record Recovered (S : ℕ) (before after : World E) : Type 0 where
    pub all : after.seen.delivered ≡ before.seen.accepted
    pub none_stored : stored after.seen ≡ 0
    pub eight_free :
        (xs : List Content) → length xs ≡ 8 → AllGood S xs → (run E (map offer xs) after).seen.accepted ≡ after.seen.accepted ++ xs

  pub record Delivers : Type 0 where
    -- take a fresh sender and receiver with the same S: there are such for each T and S allowed
    pub begins : (T S : ℕ) (lent : List ℕ) → Allowed T S lent → ((E.make_sender T S).refusal ≡ 0) × ((E.make_receiver S).refusal ≡ 0)
    -- with offers, sends, arrivals, timer expiries and a full receiver in any order, while the link is up, the segments delivered are the
    -- first so many accepted for sending, in order, each once
    pub safe : (m : Moment) → is_up (at m).seen ≡ true → FirstSoMany (at m).seen.delivered (at m).seen.accepted
    -- from any such moment with fewer than two expiries counted against the oldest segment, the drill delivers all and empties the buffers
    pub recovers :
        (m : Moment) → is_up (at m).seen ≡ true → (at m).seen.expiries < 2 → (d : Drill (at m)) → Recovered m.S (at m) (drilled (at m) d)
    -- and from any such moment there is a drill: its two runs can be made
    pub can_drill : (m : Moment) → is_up (at m).seen ≡ true → (at m).seen.expiries < 2 → Drill (at m)
