-- The two blocks are those of the rules, at the disparities of the rules.
use Rattle.character_writer.proofs.Chosen.{blocks_right}
use Rattle.character_writer.proofs.write_blocks.Goals as goal

pub returns : goal.returns
returns c =
    rw (c.from.ensures, c.from-2.ensures)
    (blocks_right c.args.s _ _ _ _ c.args.d _ _ _ _ c.requires c.turn-between.ensures.1 c.turn-closing.ensures.1 c.is_plus.ensures
    c.six_block-first.ensures.0 c.unbalanced.ensures c.turn-between.ensures.0 c.is_plus-2.ensures c.four_block-second.ensures.0
    c.unbalanced-2.ensures c.turn-closing.ensures.0)
