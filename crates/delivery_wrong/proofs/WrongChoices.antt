-- A send point that stays behind, a buffer used again too early, an ACK that covers earlier ones, a false expiry count: a run against each.
-- Assumes nothing.
use mathlib.Core.Path.{◌≡◌, refl}
use mathlib.Core.Bool.{true, false}
use mathlib.Core.List.{List, [], ◌∷◌, ◌++◌, map}
use Rattle.retry_rules.specs.Numbers.{among_last}
use Rattle.delivery_rules.specs.Ends.{segment}
use Rattle.delivery_rules.specs.Outside.{gone_with, seen_reply, seen_tick}
use Rattle.delivery_rules.specs.Model.{Event, offer, send, arrive, lose, hear, lose_reply, tick, step, run}
use Rattle.delivery_rules.specs.Demand.{expire_once, Delivers}
use Rattle.delivery_wrong.specs.Plain.{plain_offer, plain_send, plain_hear, plain_tick, plain_arrive, left_behind, used_again, covers_earlier, false_count}
use Rattle.delivery_wrong.proofs.ByRun.{nth, segments, times, output, round, after, checked, breaks_safety, unsafe, breaks_at, breaks_recovery, unrecovered}

-- segment 0 is delivered, the timer expires and the send point is at 0; then its ACK is heard and the send point stays there.
-- Segments 1 to 8 are offered, and 8 is stored in the buffer that 0 has left
abbrev pub behind : List Event
behind = offer (nth 0) ∷ send output ∷ arrive true output ∷ tick ∷ hear ∷ map offer (segments 1 8)

-- the freed buffer is read: segment 8 goes out under the number of segment 0
pub freed_buffer_read : (step left_behind (send output) (after left_behind behind)).forward ≡ segment 0 (nth 8) ∷ []
unfolding run step gone_with seen_reply seen_tick among_last plain_offer plain_send plain_hear plain_tick plain_arrive
freed_buffer_read = refl

-- and after the drill segment 8 is not delivered
pub left_behind_refused : Delivers left_behind → ⊥
unfolding breaks_recovery breaks_at checked run step expire_once gone_with seen_reply seen_tick among_last plain_offer plain_send plain_hear plain_tick plain_arrive
left_behind_refused = unrecovered left_behind behind (times 8 round) refl

-- eight are offered, and the eighth is stored where the first was: it is delivered in its place
abbrev pub overwritten : List Event
overwritten = map offer (segments 0 8) ++ send output ∷ arrive true output ∷ []

pub used_again_refused : Delivers used_again → ⊥
unfolding breaks_safety run step gone_with seen_reply seen_tick among_last plain_offer plain_send plain_hear plain_tick plain_arrive
used_again_refused = unsafe used_again overwritten 0 refl

-- two are delivered, the first ACK is lost and the second is heard: segment 0 has not been acknowledged, and is not sent again
abbrev pub first_ack_lost : List Event
first_ack_lost =
    map offer (segments 0 2) ++ times 2 (send output ∷ []) ++ times 2 (arrive true output ∷ []) ++ lose_reply 0 ∷ hear ∷ []

pub covers_earlier_refused : Delivers covers_earlier → ⊥
unfolding breaks_recovery breaks_at checked run step expire_once gone_with seen_reply seen_tick among_last plain_offer plain_send plain_hear plain_tick plain_arrive
covers_earlier_refused = unrecovered covers_earlier first_ack_lost (times 2 round) refl

-- an expiry, a NACK of the oldest from a full receiver, an expiry: one is counted, and the next takes the link down
abbrev pub cleared_once : List Event
cleared_once =
    offer (nth 0) ∷ send output ∷ lose 0 ∷ tick ∷ send output ∷ arrive false output ∷ hear ∷ tick ∷ []

pub false_count_refused : Delivers false_count → ⊥
unfolding breaks_recovery breaks_at checked run step expire_once gone_with seen_reply seen_tick among_last plain_offer plain_send plain_hear plain_tick plain_arrive
false_count_refused = unrecovered false_count cleared_once round refl
