-- The block is taken, read and listed.
use mathlib.Core.Path.{ap, ◌∙◌}
use mathlib.Core.List.{[]}
use Prim.Native.Nat.{ℕ, ◌-◌}
use native.Mathlib.Omega.{arith}
use lib.ListN.{length, take, replicate}
use mir.Facts.{to_z-of_z}
use mir.Syntax.{w32}
use Rattle.capture_rules.specs.Capture.{character_count}
use Rattle.capture.proofs.Taken.{legal_short}
use Rattle.listing_rules.proofs.Whole.{rule_events}
use Rattle.listing_lines.proofs.Lines.{block_listed}
use Rattle.listing_pieces.proofs.Blocks.{taken_low, block_low, block_takes, held, is_read, block_is}
use Rattle.listing_pieces.specs.Blocks.{block_length}
use borrow.Author.Rules.{rules}
use Rattle.listing_pieces.proofs.next_lines.Goals as goal

pub unwrap-disparity-requires : goal.unwrap-disparity-requires
unwrap-disparity-requires c =
    let capture = c.args.capture in
    let p = c.args.p in
    let n = c.block_length-n.result in
    let size = c.block_length-n.ensures ∙ ap (λ (k : ℕ). block_length (k - p.place)) c.count.ensures in
    let run = c.read_run in
    is_read capture.bytes.now p capture.is_legal c.requires.0 c.requires.1 n size _ (replicate 64 0) run.new.results _ run.result (omega arith)
    (held capture.bytes.now p capture.is_legal c.requires.0 c.requires.1 n size (replicate 64 0) c.take_characters.new.out _ (omega arith)
    c.take_characters.ensures)
    (to_z-of_z {w = w32} {z = p.disparity} (search rules)) run.ensures.0 run.ensures.1

pub returns : goal.returns
returns c =
    let capture = c.args.capture in
    let p = c.args.p in
    let n = c.block_length-n.result in
    let size = c.block_length-n.ensures ∙ ap (λ (k : ℕ). block_length (k - p.place)) c.count.ensures in
    let low = block_low (character_count (length capture.bytes.now) - p.place) in
    let run = c.read_run in
    let put = c.put_results-q in
    let events = rule_events [] p c.requires.0 in
    let few = legal_short capture in
    block_is capture.bytes.now p capture.is_legal c.requires.0 c.requires.1 n size _ (replicate 64 0) run.new.results _ run.result (omega arith)
    (held capture.bytes.now p capture.is_legal c.requires.0 c.requires.1 n size (replicate 64 0) c.take_characters.new.out _ (omega arith)
    c.take_characters.ensures)
    (to_z-of_z {w = w32} {z = p.disparity} (search rules)) run.ensures.0 run.ensures.1 c.unwrap-disparity.result _ c.unwrap-disparity.ensures
    (to_z-of_z {w = w32} {z = c.unwrap-disparity.result} (search rules))
    c.args.out.now put.new.out put.result
    (block_listed (take n run.new.results) p c.args.out.now put.new.out put.result
    (block_takes (take n run.new.results) p (taken_low n run.new.results 64 (omega (arith, size, low)))
    (omega (arith, c.requires.1)) (omega (arith, c.requires.1)))
    put.ensures)
