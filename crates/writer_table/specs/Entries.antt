-- How an entry of the writer's table holds a data byte: the lower half for −1, the upper half for +1; in each the character, and 1,024 more
-- where it closes at +1.
use Rattle.std.specs.Prelude.{ℕ, ◌+◌, ◌*◌, ℤ}
use Rattle.symbol.specs.declared.Symbol.{Symbol}
use Rattle.character_rules.specs.Disparity.{is_plus}
use Rattle.character_rules.specs.Blocks.{character, closing}
use Rattle.character_rules.specs.Results.{mark}

abbrev pub form : Symbol → ℤ → ℕ
form s d = character s d + 1024 * mark (is_plus (closing s d))
