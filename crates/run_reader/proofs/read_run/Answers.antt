-- Each way out by the tests that led there.
use mathlib.Core.Bool.{not}
use mathlib.Core.Path.{sym, ◌∙◌, ap}
use mir.Facts.{to_z-of_z}
use Rattle.character_rules.specs.Disparity.{is_plus}
use Rattle.character_rules.proofs.RunLaws.{run_bad, run_far, run_short}
use Rattle.run_reader.proofs.Runs.{run_is_read}
use Rattle.disparity.proofs.Signed.{told_none, told_disparity}
use Rattle.run_reader.proofs.read_run.Goals as goal

pub returns-then-not-is_disparity : goal.returns-then-not-is_disparity
returns-then-not-is_disparity c =
    run_bad c.args.characters.now c.args.disparity c.args.results.now
    (told_none _ c.args.disparity _ (to_z-of_z c.ranges.disparity) c.is_disparity.ensures (ap not c.if-not-is_disparity.true))

pub returns-then-not-all_in_range : goal.returns-then-not-all_in_range
returns-then-not-all_in_range c =
    run_far c.args.characters.now c.args.disparity c.args.results.now
    (told_disparity _ c.args.disparity _ (to_z-of_z c.ranges.disparity) c.is_disparity.ensures (ap not c.if-not-is_disparity.false))
    (sym c.all_in_range.ensures ∙ c.if-not-all_in_range.true)

pub returns-then-results-characters : goal.returns-then-results-characters
returns-then-results-characters c =
    run_short c.args.characters.now c.args.disparity c.args.results.now
    (told_disparity _ c.args.disparity _ (to_z-of_z c.ranges.disparity) c.is_disparity.ensures (ap not c.if-not-is_disparity.false))
    (sym c.all_in_range.ensures ∙ c.if-not-all_in_range.false) c.if-results-characters.true

pub returns : goal.returns
returns c =
    run_is_read c.args.characters.now c.args.disparity c.args.results.now _ _ _ _
    (told_disparity _ c.args.disparity _ (to_z-of_z c.ranges.disparity) c.is_disparity.ensures (ap not c.if-not-is_disparity.false))
    (sym c.all_in_range.ensures ∙ c.if-not-all_in_range.false) c.if-results-characters.false
    (c.is_plus.ensures ∙ ap is_plus (to_z-of_z c.ranges.disparity)) c.read_each-plus.ensures.0 c.disparity_of.ensures
    c.read_each-plus.ensures.1
