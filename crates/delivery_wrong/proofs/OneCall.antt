-- Ours with one call altered: sends the first only, stores nothing, loses the mark, delivers on another channel, writes no bytes. Each breaks in a run.
-- Assumes nothing.
use mathlib.Core.Path.{refl}
use mathlib.Core.Bool.{true}
use mathlib.Core.List.{List, [], ◌∷◌, map}
use Rattle.retry_rules.specs.Numbers.{among_last, count_rule}
use Rattle.segment_size.specs.Sizes.{size_allowed}
use Rattle.retry_rules.specs.States.{link_rule, timer_rule, window_rule, counters_rule, slot_rule, slots_rule, sender_rule, receiver_rule}
use Rattle.retry_rules.specs.Lent.{laid, held_bytes}
use Rattle.retry_rules.specs.Fresh.{fresh_checks, fresh_sender_of, size_checks, fresh_receiver_of}
use Rattle.retry_rules.specs.Offer.{offer_checks, offer_of, offer_buffers}
use Rattle.retry_rules.specs.Send.{send_checks, send_of, send_output}
use Rattle.retry_rules.specs.Reply.{acked, nacked, heard, sender_checks, reply_checks, reply_of}
use Rattle.retry_rules.specs.Arrival.{arrival_checks, answer_to, arrival_of, arrival_output}
use Rattle.delivery_rules.specs.Outside.{gone_with, seen_reply}
use Rattle.delivery_rules.specs.Model.{Event, offer, send, arrive, step, run}
use Rattle.delivery_rules.specs.Demand.{expire_once, Delivers}
use Rattle.delivery_rules.specs.Ours.{hearing, arriving}
use Rattle.delivery_wrong.specs.Altered.{sends_the_first, stores_nothing, loses_the_mark, another_channel, writes_nothing}
use Rattle.delivery_wrong.proofs.ByRun.{nth, segments, times, output, round, checked, breaks_safety, unsafe, breaks_at, breaks_recovery, unrecovered}

-- two are offered; each is to be sent once, with its reply; only the first is delivered
pub sends_the_first_refused : Delivers sends_the_first → ⊥
unfolding breaks_recovery breaks_at run step expire_once gone_with seen_reply checked hearing arriving size_allowed among_last count_rule link_rule timer_rule window_rule counters_rule slot_rule slots_rule sender_rule receiver_rule laid held_bytes fresh_checks fresh_sender_of size_checks fresh_receiver_of offer_checks offer_of offer_buffers send_checks send_of send_output acked nacked heard sender_checks reply_checks reply_of arrival_checks answer_to arrival_of arrival_output
sends_the_first_refused = unrecovered sends_the_first (map offer (segments 0 2)) (times 2 round) refl

-- one is offered, sent and delivered; what is delivered is not what was accepted
abbrev one : List Event
one = offer (nth 7) ∷ send output ∷ arrive true output ∷ []

pub stores_nothing_refused : Delivers stores_nothing → ⊥
unfolding breaks_safety run step gone_with arriving size_allowed count_rule link_rule timer_rule window_rule counters_rule slot_rule slots_rule sender_rule receiver_rule laid held_bytes fresh_checks fresh_sender_of size_checks fresh_receiver_of offer_checks offer_of offer_buffers send_checks send_of send_output arrival_checks answer_to arrival_of arrival_output
stores_nothing_refused = unsafe stores_nothing one 0 refl

pub loses_the_mark_refused : Delivers loses_the_mark → ⊥
unfolding breaks_safety run step gone_with arriving size_allowed count_rule link_rule timer_rule window_rule counters_rule slot_rule slots_rule sender_rule receiver_rule laid held_bytes fresh_checks fresh_sender_of size_checks fresh_receiver_of offer_checks offer_of offer_buffers send_checks send_of send_output arrival_checks answer_to arrival_of arrival_output
loses_the_mark_refused = unsafe loses_the_mark one 0 refl

pub another_channel_refused : Delivers another_channel → ⊥
unfolding breaks_safety run step gone_with arriving size_allowed count_rule link_rule timer_rule window_rule counters_rule slot_rule slots_rule sender_rule receiver_rule laid held_bytes fresh_checks fresh_sender_of size_checks fresh_receiver_of offer_checks offer_of offer_buffers send_checks send_of send_output arrival_checks answer_to arrival_of arrival_output
another_channel_refused = unsafe another_channel one 0 refl

pub writes_nothing_refused : Delivers writes_nothing → ⊥
unfolding breaks_safety run step gone_with arriving size_allowed count_rule link_rule timer_rule window_rule counters_rule slot_rule slots_rule sender_rule receiver_rule laid held_bytes fresh_checks fresh_sender_of size_checks fresh_receiver_of offer_checks offer_of offer_buffers send_checks send_of send_output arrival_checks answer_to arrival_of arrival_output
writes_nothing_refused = unsafe writes_nothing one 0 refl
