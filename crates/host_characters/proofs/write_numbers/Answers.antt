-- By whether the byte is one.
use Prim.Native.Nat.{ℕ}
use mathlib.Core.Path.{sym, ap, ◌∙◌}
use native.Mathlib.Omega.{arith}
use borrow.Author.Rules.{rules}
use Rattle.character_rules.specs.Writing.{writing}
use Rattle.host_rules.specs.Characters.{symbol_of}
use Rattle.host_rules.proofs.Signed.{same}
use Rattle.host_rules.proofs.Characters.{byte_over, byte_fits}
use Rattle.host_characters.proofs.write_numbers.Goals as goal

pub returns-in_default : goal.returns-in_default
returns-in_default c =
    let e = c.in_default.ensures in
    sym (byte_over c.args.byte c.args.control c.args.disparity (omega (arith, e)))

pub returns : goal.returns
returns c =
    let a = c.args in
    let e = c.in-Ok.ensures in
    c.write.ensures ∙ ap (writing (symbol_of c.in-Ok.byte a.control)) (same a.disparity (search rules))
    ∙ ap (λ (b : ℕ). writing (symbol_of b a.control) a.disparity) e.1
    ∙ sym (byte_fits a.byte a.control a.disparity (let f = e.0 in omega (arith, f)))
