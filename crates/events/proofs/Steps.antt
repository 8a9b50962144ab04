-- One turn of reading, over plain values: a run of user bytes in the packet that takes them, and one character.
-- Assumes nothing.
use mathlib.Core.Path.{◌≡◌, refl, sym, ap, ◌∙◌, subst}
use mathlib.Core.List.{List}
use Prim.Native.Nat.{ℕ, ◌+◌, ◌-◌, ◌≤◌, ◌<◌}
use native.Mathlib.Omega.{arith}
use lib.Dec.{leb}
use lib.ListN.{length, get_or, set}
use Rattle.std.specs.Prelude.{Ok}
use Rattle.refusal.specs.declared.Refusal.{Refusal}
use Rattle.laws.proofs.Groups.{get_or_below}
use Rattle.character_rules.specs.declared.Decoded.{Decoded}
use Rattle.character_rules.specs.Answers.{decoded_says}
use Rattle.character_rules.specs.Disparity.{disparity_of}
use Rattle.character_rules.specs.Reading.{reading}
use Rattle.character_rules.specs.Results.{packed, unpacked}
use Rattle.character_rules.proofs.Packed.{unpacked_reading}
use Rattle.character_rules.proofs.RunLaws.{disparity_is}
use Rattle.capture_rules.proofs.Packing.{characters_below, characters_length}
use Rattle.packet_rules.specs.declared.Reader.{Reader}
use Rattle.packet_rules.specs.Answers.{Answer, answer_says}
use Rattle.packet_rules.specs.State.{register_in}
use Rattle.packet_rules.specs.Step.{step_of}
use Rattle.packet_reader.specs.Classes.{advance_of, event_of, reader_of}
use Rattle.packet_reader.proofs.Agree.{says_step, leaves_step}
use Rattle.events_rules.specs.Numbers.{packed_event}
use Rattle.events_rules.proofs.Runs.{Ran, ran_one}
use Rattle.events_rules.proofs.Feeding.{Fed, Takes, fed_to, fed_ran}
use Rattle.events.specs.declared.place.Place.{Place}
use Rattle.events.specs.declared.runs.Taken.{Taken}
use Rattle.events.specs.declared.source.Source.{Source}
use Rattle.events.specs.Sources.{characters_in, places_in}

module _ (s : Source) (from : Place) (old new : List ℕ) where
  abbrev r : Reader
  r = from.reader

  -- the state after the run is the packet's that took it, written anew
  pub run_is : (most room register : ℕ) (taken : Taken) (after : Reader) → Takes r.size r.packet r.priority r.phase most room
      → register ≡ register_in r.packet r.priority
      → Fed (characters_in s) (from.at + room) from.at from.plus register old taken.at taken.plus taken.register new
      → after ≡ fed_to r.size r.packet r.priority r.phase (taken.at - from.at) taken.register
      → Ran (characters_in s) from.at from.plus r old taken.at taken.plus after new
  run_is most room register taken after takes er fed ea =
      subst (λ (x : Reader). Ran (characters_in s) from.at from.plus r old taken.at taken.plus x new) (sym ea)
      (fed_ran (characters_in s) from.at room from.plus old _ _ _ _ r.size r.packet r.priority r.phase register er fed takes.feeds from.rule _ _ refl refl)

-- a character's result, the reader's step and the event's number, which is stored
module _ (s : Source) (from : Place) (old : List ℕ) (h : from.at < places_in s) (room : places_in s ≤ length old) (result number : ℕ) (decoded : Decoded)
    (after : Reader) where
  abbrev c : ℕ
  c = get_or (characters_in s) from.at 0

  low : c < 1024
  low = get_or_below 1024 (characters_in s) (omega arith) (characters_below s.capture.bytes.now) from.at

  pub one_is : result ≡ packed (reading c (disparity_of from.plus)) → decoded_says decoded ≡ unpacked result
      → number ≡ packed_event (answer_says (event_of (advance_of from.reader decoded))) → after ≡ reader_of from.reader (advance_of from.reader decoded)
      → Ran (characters_in s) from.at from.plus from.reader old (from.at + 1) (leb 2048 result) after (set old from.at number)
  one_is is ed en ea =
      let l = low in
      let long = characters_length s.capture.bytes.now in
      let shown = ed ∙ ap unpacked is ∙ unpacked_reading c (disparity_of from.plus) (omega arith) (disparity_is from.plus) in
      let said = says_step {E = Refusal} from.reader (Ok decoded) from.rule ∙ ap (λ (a : Answer). a.said) (ap (step_of from.reader) shown) in
      let left = leaves_step {E = Refusal} from.reader (Ok decoded) from.rule ∙ ap (λ (a : Answer). a.reader) (ap (step_of from.reader) shown) in
      ran_one (characters_in s) from.at from.plus from.reader old result number after (omega arith) low (omega arith) from.rule is
      (en ∙ ap packed_event said) (ea ∙ left)
