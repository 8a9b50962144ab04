-- The bench's lines marked P hold, each as its own room proved it.
-- Assumes nothing.
use Rattle.character_rules.proofs.BenchRows as characters
use Rattle.capture_rules.proofs.Bench.{k28_5_then_d21_5}
use Rattle.retry_rules.proofs.BenchRows as retry
use Rattle.bench_examples.specs.Table.{Bench}

pub bench : Bench
bench = record { characters_hold = characters.rows; packs = k28_5_then_d21_5; retry_holds = retry.rows }
