-- The refusal that is given; else the whole is read.
use mathlib.Core.Path.{refl, ap, ◌∙◌}
use Prim.Native.Nat.{ℕ}
use lib.IntN.{ℤ}
use lib.ListN.{length}
use mir.Facts.{to_z-of_z}
use mir.Syntax.{w32}
use borrow.Author.Rules.{rules}
use Rattle.refusal.specs.Order.{refusal_of}
use Rattle.character_rules.specs.Disparity.{is_plus}
use Rattle.capture_rules.proofs.Answers.{handed_back}
use Rattle.events_rules.specs.Answers.{CaptureRead, ReadAnswer, read_beside}
use Rattle.events_rules.specs.Events.{capture_checks}
use Rattle.events_rules.proofs.Answers.{refused_is}
use Rattle.events.proofs.Whole.{is_read}
use Rattle.events.proofs.read_capture.Goals as goal

abbrev counted : ℕ → ReadAnswer
counted n = record { refusal = 0; count = n }

pub returns-in_err-may_read : goal.returns-in_err-may_read
returns-in_err-may_read c =
    let a = c.args in
    let same = to_z-of_z {w = w32} {z = a.disparity.now} (search rules) in
    refused_is a.capture.now a.reader.now a.disparity.now a.events.now _ _ (handed_back _ _ c.from_residual.ensures.1)
    (c.in_err-may_read.ensures ∙ ap (λ (z : ℤ). refusal_of (capture_checks a.capture.now a.reader.now z (length a.events.now))) same)

pub returns : goal.returns
returns c =
    let a = c.args in
    let all = c.read_all-p in
    let same = to_z-of_z {w = w32} {z = a.disparity.now} (search rules) in
    let given = c.in_ok-may_read.ensures ∙ ap (λ (z : ℤ). refusal_of (capture_checks a.capture.now a.reader.now z (length a.events.now))) same in
    let read = is_read a.capture.now a.reader.now a.disparity.now a.events.now 0 given refl c.is_plus.result (c.is_plus.ensures ∙ ap is_plus same)
    all.result.plus all.result.reader all.new.events all.ensures c.disparity_of.result c.disparity_of.ensures in (
      ap counted c.count.ensures ∙ ap read_beside read.0,
      ap (λ (x : CaptureRead). x.reader) read.0,
      ap (λ (x : CaptureRead). x.disparity) read.0,
      read.1,
    )
