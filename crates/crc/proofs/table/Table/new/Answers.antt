-- The constant is the definition's table, at every entry.
use mathlib.Core.Path.{refl}
use mathlib.Core.Bool.{xor}
use Rattle.laws.specs.Check.{overlay, check_bit, check_bits, lowest_first, number_of, bits_of}
use Rattle.crc.specs.Crc16.{crc_from, entries}
use Rattle.crc.proofs.table.Table.new.Goals as goal

pub invariant_of-result : goal.invariant_of-result
unfolding entries crc_from number_of check_bits check_bit overlay lowest_first bits_of xor
invariant_of-result c = refl

pub returns : goal.returns
unfolding entries crc_from number_of check_bits check_bit overlay lowest_first bits_of xor
returns c = refl
