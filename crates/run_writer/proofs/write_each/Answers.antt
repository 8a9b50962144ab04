-- What is stored and what remains make the whole run's characters.
use mathlib.Core.Path.{refl, sym, ◌∙◌, ap, subst}
use Prim.Native.Nat.{ℕ, ◌<◌, ◌/◌, ◌%◌}
use native.Mathlib.Omega.{arith}
use lib.Dec.{eqb}
use lib.ListN.{get_or}
use Rattle.character_rules.specs.Disparity.{disparity_of}
use Rattle.character_rules.proofs.RunLaws.{disparity_is}
use Rattle.character_rules.proofs.WriteLaws.{one_more, at_end_lem}
use Rattle.writer_table.specs.Table.{table}
use Rattle.writer_table.proofs.Forms.{form_character, form_low, form_closing}
use borrow.Author.Rules.{rules}
use Rattle.run_writer.proofs.write_each.Goals as goal

pub look_up-found-requires : goal.look_up-found-requires
unfolding table
look_up-found-requires c = (refl, c.loop-i.invariant.1)

pub loop-i-preserved : goal.loop-i-preserved
loop-i-preserved c =
    let l = c.loop-i in
    let bs = c.args.bytes.now in
    let e = c.look_up-found.ensures in
    let h : get_or bs l.i 0 < 256 = search rules in
    let t = disparity_is (eqb l.p 1) in
    let d = disparity_of (eqb l.p 1) in (
      one_more bs (disparity_of (eqb c.args.from 1)) c.args.out.now l.i l.out d _ _ l.invariant.0 (search rules) c.requires.1
          (ap (λ (n : ℕ). n % 1024) e ∙ form_character (get_or bs l.i 0) d h t)
          (ap (λ (n : ℕ). disparity_of (eqb (n / 1024) 1)) e ∙ form_closing (get_or bs l.i 0) d h t),
      subst (λ (n : ℕ). n / 1024 < 2) (sym e) (form_low (get_or bs l.i 0) d h t),
    )

pub returns : goal.returns
returns c =
    let l = c.loop-i in
    at_end_lem c.args.bytes.now (disparity_of (eqb c.args.from 1)) c.args.out.now l.i l.out (disparity_of (eqb l.p 1)) l.invariant.0
    (omega arith)
