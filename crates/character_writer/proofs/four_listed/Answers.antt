-- Each way out by the test that led there; a block of the lists has four bits.
use Prim.Native.Nat.{◌/◌}
use lib.Dec.{ltb, ltb→lt}
use Rattle.laws.proofs.Table.{at}
use Rattle.character_rules.specs.Blocks.{four_blocks, control_four_blocks}
use borrow.Author.Rules.{rules}
use Rattle.character_writer.proofs.four_listed.Goals as goal

pub returns-then-s : goal.returns-then-s
unfolding control_four_blocks
returns-then-s c = (simp c.if-s.true, ltb→lt _ _ (at (λ k b. ltb b 16) control_four_blocks tt (c.args.s.byte / 32) (search rules)))

pub returns-else-s : goal.returns-else-s
unfolding four_blocks
returns-else-s c = (simp c.if-s.false, ltb→lt _ _ (at (λ k b. ltb b 16) four_blocks tt (c.args.s.byte / 32) (search rules)))
