-- Each way out by the tests that led there; a block of the list has six bits.
use Prim.Native.Nat.{◌%◌}
use lib.Dec.{ltb, ltb→lt}
use Rattle.laws.proofs.Table.{at}
use Rattle.character_rules.specs.Blocks.{six_blocks}
use borrow.Author.Tests.{ne_eqb}
use borrow.Author.Rules.{rules}
use Rattle.character_writer.proofs.six_listed.Goals as goal
use Rattle.character_writer.proofs.six_listed.Goals.{else-s-via-then-s+else-x-eq28, else-s-via-else-s}

pub returns-else-s : goal.returns-else-s
unfolding six_blocks
returns-else-s c = (
  elim c.else-s.branch [ else-s-via-then-s+else-x-eq28 w ↦ simp (w.if-s.true, ne_eqb _ _ w.if-x-eq28.false) | else-s-via-else-s w ↦ simp w.if-s.false ],
  ltb→lt _ _ (at (λ k b. ltb b 64) six_blocks tt (c.args.s.byte % 32) (search rules)),
)
