-- By the count of ones.
use Rattle.character_writer.proofs.Balances.{by_count}
use Rattle.character_writer.proofs.unbalanced.Goals as goal

pub returns : goal.returns
returns c = by_count c.args.half c.args.b c.requires
