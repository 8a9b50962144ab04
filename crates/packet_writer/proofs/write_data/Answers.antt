-- A refusal by its number; else the packet, and all of it.
use mathlib.Core.Path.{ap, sym, ◌∙◌}
use native.Mathlib.Omega.{arith}
use lib.IntN.{ℤ}
use lib.ListN.{length}
use mir.Syntax.{w32}
use mir.ValLaws.{to_z-of_z}
use Rattle.std.specs.Prelude.{Ok}
use Rattle.laws.proofs.Bools.{true_t}
use Rattle.std.proofs.lemmas.Result.{err_from_is_err_and}
use Rattle.refusal.specs.declared.Refusal.{Refusal}
use Rattle.refusal.specs.Order.{number_of, refusal_of}
use Rattle.symbol.specs.Symbols.{is_twelve}
use Rattle.character_rules.specs.Disparity.{is_disparity}
use Rattle.packet_rules.specs.Packets.{in_data, symbols_of, packet_checks, not_wrote, written_says}
use Rattle.packet_writer.proofs.Passed.{data_passed}
use Rattle.packet_writer.proofs.Outcome.{refused_as, written_all}
use Rattle.packet_writer.proofs.write_data.Goals as goal

pub returns-in_err-may_write_data : goal.returns-in_err-may_write_data
returns-in_err-may_write_data c =
    let a = c.args in
    let d = a.disparity in
    let m = in_data a.channel a.bytes.now a.bad in
    let z = to_z-of_z w32 d c.ranges.disparity in
    let e = c.in_err-may_write_data.ensures ∙ ap (λ (x : ℤ). refusal_of (packet_checks 0 m x (length a.out.now))) z in
    let w = refused_as 0 m d a.out.now c.in_err-may_write_data.field-0.0 (sym e) in
    let p = err_from_is_err_and c.from_residual.result c.from_residual.ensures.1 in
    (ap written_says p.1 ∙ ap (λ (x : Refusal). not_wrote (number_of x)) p.2 ∙ w.0, w.1)

pub put_packet-requires : goal.put_packet-requires
unfolding is_twelve
put_packet-requires c =
    let a = c.args in
    let d = a.disparity in
    let m = in_data a.channel a.bytes.now a.bad in
    let z = to_z-of_z w32 d c.ranges.disparity in
    let e = c.in_ok-may_write_data.ensures ∙ ap (λ (x : ℤ). refusal_of (packet_checks 0 m x (length a.out.now))) z in
    let ok = data_passed a.channel a.bytes.now a.bad d (length a.out.now) (sym e) in
    (omega (arith, ok.2), tt, true_t _ (ap is_disparity z ∙ ok.0))

pub returns : goal.returns
unfolding symbols_of
returns c =
    let a = c.args in
    let d = a.disparity in
    let m = in_data a.channel a.bytes.now a.bad in
    let z = to_z-of_z w32 d c.ranges.disparity in
    let e = c.in_ok-may_write_data.ensures ∙ ap (λ (x : ℤ). refusal_of (packet_checks 0 m x (length a.out.now))) z in
    written_all 0 m d a.out.now (Ok c.put_packet.result) (sym e) (rw z at c.put_packet.ensures)
