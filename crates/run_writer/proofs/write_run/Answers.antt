-- Each way out by the tests that led there.
use mathlib.Core.Bool.{not}
use mathlib.Core.Path.{◌∙◌, ap}
use mir.Facts.{to_z-of_z}
use Rattle.character_rules.specs.Disparity.{is_plus}
use Rattle.character_rules.proofs.WriteLaws.{write_bad, write_short}
use Rattle.disparity.proofs.Signed.{told_none, told_disparity}
use Rattle.run_writer.proofs.Runs.{run_is_written}
use borrow.Author.Rules.{rules}
use Rattle.run_writer.proofs.write_run.Goals as goal

pub returns-then-not-is_disparity : goal.returns-then-not-is_disparity
returns-then-not-is_disparity c =
    write_bad c.args.bytes.now c.args.disparity c.args.out.now
    (told_none _ c.args.disparity _ (to_z-of_z c.ranges.disparity) c.is_disparity.ensures (ap not c.if-not-is_disparity.true))

pub returns-then-out-bytes : goal.returns-then-out-bytes
returns-then-out-bytes c =
    write_short c.args.bytes.now c.args.disparity c.args.out.now
    (told_disparity _ c.args.disparity _ (to_z-of_z c.ranges.disparity) c.is_disparity.ensures (ap not c.if-not-is_disparity.false)) c.if-out-bytes.true

pub returns : goal.returns
returns c =
    let z = to_z-of_z c.ranges.disparity in
    run_is_written c.args.bytes.now c.args.disparity c.args.out.now _ c.is_plus.result c.from.result c.write_each-p.result _
    (told_disparity _ c.args.disparity _ z c.is_disparity.ensures (ap not c.if-not-is_disparity.false)) c.if-out-bytes.false
    (c.is_plus.ensures ∙ ap is_plus z) (search rules) c.write_each-p.ensures.0 c.disparity_of.ensures
    c.write_each-p.ensures.1
