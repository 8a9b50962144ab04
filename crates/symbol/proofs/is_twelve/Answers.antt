-- By the remainder, or by the four others.
use borrow.Author.Rules.{rules}
use mathlib.Core.Path.{◌∙◌}
use Rattle.symbol.proofs.Twelve.{by_remainder, by_others}
use Rattle.symbol.proofs.is_twelve.Goals as goal

pub returns-then-byte-eq28 : goal.returns-then-byte-eq28
returns-then-byte-eq28 c = by_remainder c.args.byte (search rules) c.if-byte-eq28.true

pub returns-else-byte-eq28 : goal.returns-else-byte-eq28
returns-else-byte-eq28 c = c.contains.ensures.value ∙ by_others c.args.byte (search rules) c.if-byte-eq28.false
