-- Each way out by the violation.
use Rattle.character_reader.proofs.Unpacking.{unpack_clean, unpack_invalid, unpack_wrong}
use borrow.Author.Rules.{rules}
use Rattle.character_reader.proofs.unpack_result.Goals as goal

pub returns-in-0 : goal.returns-in-0
returns-in-0 c = unpack_clean c.args.res _ c.disparity_of-disparity.ensures c.in-0.is

pub returns-in-1 : goal.returns-in-1
returns-in-1 c = unpack_invalid c.args.res _ c.disparity_of-disparity.ensures c.in-1.is

pub returns-in_default : goal.returns-in_default
returns-in_default c = unpack_wrong c.args.res _ c.disparity_of-disparity.ensures (λ e. search rules) (λ e. search rules)
