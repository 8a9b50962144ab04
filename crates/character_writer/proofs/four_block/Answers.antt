-- Each way out by the tests that led there.
use Prim.Native.Nat.{◌%◌, ◌/◌}
use mathlib.Core.Path.{◌∙◌}
use mathlib.Core.Bool.{true}
use mathlib.Core.Logic.{⊎_elim}
use lib.Dec.{lit<}
use Rattle.character_writer.proofs.Chosen.{four_control, four_other, four_at_minus, four_at_plus, four_else}
use Rattle.character_writer.proofs.four_block.Goals as goal

pub returns-then-y-ne7 : goal.returns-then-y-ne7
returns-then-y-ne7 c =
    let a = c.args in
    let r = c.four_by_list-listed.ensures in
    (r.0 ∙ ⊎_elim (λ h. four_control a.s.control a.plus (a.s.byte % 32) (a.s.byte / 32) h) (λ g. four_other a.s.control a.plus (a.s.byte % 32) (a.s.byte / 32) g.0 g.1) c.if-y-ne7.either, r.1)

pub returns-then-alternate_at_minus : goal.returns-then-alternate_at_minus
returns-then-alternate_at_minus c =
    let a = c.args in
    let k = c.if-y-ne7.false in
    (four_at_minus a.s.control a.plus _ true (a.s.byte % 32) (a.s.byte / 32) k.0 k.1 c.alternate_at_minus.ensures c.if-alternate_at_minus.true, lit< tt)

pub returns-then-alternate_at_plus : goal.returns-then-alternate_at_plus
returns-then-alternate_at_plus c =
    let a = c.args in
    let k = c.if-y-ne7.false in (
      four_at_plus a.s.control a.plus _ _ (a.s.byte % 32) (a.s.byte / 32) k.0 k.1 c.alternate_at_minus.ensures c.if-alternate_at_minus.false c.alternate_at_plus.ensures
          c.if-alternate_at_plus.true,
      lit< tt,
    )

pub returns-else-alternate_at_plus : goal.returns-else-alternate_at_plus
returns-else-alternate_at_plus c =
    let a = c.args in
    let k = c.if-y-ne7.false in
    let r = c.four_by_list-listed.ensures in (
      r.0 ∙ four_else a.s.control a.plus _ _ (a.s.byte % 32) (a.s.byte / 32) k.0 k.1 c.alternate_at_minus.ensures c.if-alternate_at_minus.false c.alternate_at_plus.ensures
          c.if-alternate_at_plus.false,
      r.1,
    )
