-- The bench's rows on the retry, and the further runs, hold of the definitions.
-- Assumes nothing.
use mathlib.Core.Path.{refl}
use Rattle.retry_rules.specs.Numbers.{among_last, count_rule}
use Rattle.segment_size.specs.Sizes.{size_allowed}
use Rattle.retry_rules.specs.States.{link_rule, timer_rule, window_rule, counters_rule, slot_rule, slots_rule, sender_rule, receiver_rule}
use Rattle.retry_rules.specs.Fresh.{fresh_sender_of, fresh_receiver_of, fresh_checks, size_checks, reset_checks, reset_of}
use Rattle.retry_rules.specs.Lent.{laid, held_bytes}
use Rattle.retry_rules.specs.Offer.{offer_checks, offer_of, offer_buffers}
use Rattle.retry_rules.specs.Send.{send_checks, send_of, send_output}
use Rattle.retry_rules.specs.Reply.{acked, nacked, heard, sender_checks, reply_checks, reply_of}
use Rattle.retry_rules.specs.Tick.{ticked, tick_of}
use Rattle.retry_rules.specs.Arrival.{arrival_checks, answer_to, arrival_of, arrival_output, receiver_checks, damaged_arrival_of}
use Rattle.retry_rules.specs.Bench.{Rows}
use Rattle.retry_rules.specs.Runs.{Runs}

pub rows : Rows
unfolding size_allowed among_last count_rule link_rule timer_rule window_rule counters_rule slot_rule slots_rule sender_rule receiver_rule fresh_checks size_checks fresh_sender_of fresh_receiver_of offer_checks offer_of send_checks send_of acked nacked heard sender_checks reply_checks reply_of arrival_checks answer_to arrival_of
rows =
    record {
      fresh_12 = refl;
      three_11 = refl;
      three_2 = refl;
      ten_2 = refl;
      ten_1 = refl;
      nack_then_ack = (refl, refl, refl);
      ack_2 = (refl, refl, refl);
      ack_12 = (refl, refl, refl);
      eighth = refl;
      ninth = refl;
      size_8 = refl;
      size_4 = refl;
      size_12 = refl;
    }

pub runs : Runs
unfolding size_allowed among_last count_rule link_rule timer_rule window_rule counters_rule slot_rule slots_rule sender_rule receiver_rule fresh_checks fresh_sender_of reset_checks reset_of size_checks fresh_receiver_of offer_checks offer_of send_checks send_of acked nacked heard sender_checks reply_checks reply_of ticked tick_of arrival_checks answer_to arrival_of arrival_output receiver_checks damaged_arrival_of laid held_bytes offer_buffers send_output
runs =
    record {
      third_offered = refl;
      nack_clears = refl;
      nack_restarts = refl;
      other_nack = refl;
      ack_again = refl;
      resend = refl;
      third = (refl, refl);
      third_leaves = (refl, refl, refl);
      down = refl;
      up_again = refl;
      reset_refused = (refl, refl);
      idle = (refl, refl);
      no_room = refl;
      repeated_no_room = refl;
      short = refl;
      exact = refl;
      both_stored = (refl, refl);
      second_sent = refl;
      delivered = refl;
      not_delivered = refl;
      zeros = (refl, refl, refl, refl);
    }
