-- Ends that use all sixteen numbers at once: a run without loss or damage in which segment 0 is delivered twice and segment 16 never.
-- Assumes nothing.
use mathlib.Core.Path.{◌≡◌, refl}
use mathlib.Core.Bool.{true}
use mathlib.Core.List.{List, [], ◌∷◌, ◌++◌, map}
use Rattle.retry_rules.specs.Numbers.{among_last}
use Rattle.delivery_rules.specs.Outside.{gone_with, seen_reply, seen_tick, stored}
use Rattle.delivery_rules.specs.Model.{Event, offer, send, arrive, hear, tick, step, run}
use Rattle.delivery_rules.specs.Demand.{Delivers}
use Rattle.delivery_wrong.specs.Plain.{plain_offer, plain_send, plain_hear, plain_tick, plain_arrive, sixteen}
use Rattle.delivery_wrong.proofs.ByRun.{nth, segments, times, output, after, breaks_safety, unsafe}

-- segments 0 to 15 are offered, sent and delivered; the timer expires and 0 is sent again; then the sixteen ACKs are heard.
-- The second 0 arrives where 16 is expected, which has the same number. Segment 16 is offered and sent; it arrives as a repeated one
abbrev pub history : List Event
history =
    map offer (segments 0 16) ++ times 16 (send output ∷ []) ++ times 16 (arrive true output ∷ []) ++ tick ∷ send output ∷ []
    ++ times 16 (hear ∷ [])
    ++ arrive true output
    ∷ offer (nth 16)
    ∷ send output
    ∷ arrive true output
    ∷ hear
    ∷ hear
    ∷ []

-- at its end all seventeen are acknowledged and both lines are empty: 0 was delivered twice, and 16 is lost
pub record ZeroTwice : Type 0 where
  pub accepted : (after sixteen history).seen.accepted ≡ segments 0 17
  pub delivered : (after sixteen history).seen.delivered ≡ segments 0 16 ++ nth 0 ∷ []
  pub none_stored : stored (after sixteen history).seen ≡ 0
  pub lines : ((after sixteen history).forward ≡ []) × ((after sixteen history).backward ≡ [])

pub zero_twice : ZeroTwice
unfolding run step gone_with seen_reply seen_tick among_last plain_offer plain_send plain_hear plain_tick plain_arrive
zero_twice = record { accepted = refl; delivered = refl; none_stored = refl; lines = (refl, refl) }

-- the seventeenth delivered is not the seventeenth accepted
pub sixteen_refused : Delivers sixteen → ⊥
unfolding breaks_safety run step gone_with seen_reply seen_tick among_last plain_offer plain_send plain_hear plain_tick plain_arrive
sixteen_refused = unsafe sixteen history 16 refl
