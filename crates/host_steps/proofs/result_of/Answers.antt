-- By the violation's number, and where there is a symbol by its byte.
use mathlib.Core.Path.{◌≡◌, sym, ap, ◌∙◌}
use native.Mathlib.Omega.{arith}
use Rattle.std.specs.Prelude.{Result, Err}
use Rattle.std.specs.Result.{IsErrAnd}
use Rattle.std.proofs.lemmas.Result.{err_from_is_err_and}
use Rattle.refusal.specs.declared.Refusal.{Refusal}
use Rattle.refusal.specs.declared.Refusal.TheVariants.{OutOfRange}
use Rattle.symbol.specs.declared.Symbol.{Symbol}
use Rattle.character_rules.specs.declared.Decoded.{Decoded}
use Rattle.character_rules.specs.Answers.{clean, wrong_disparity, not_read, reading_says}
use lib.IntN.{negsuc}
use Rattle.host_rules.proofs.Stepping.{numbers_invalid, numbers_over, numbers_no_byte, numbers_clean, numbers_wrong}
use Rattle.host_steps.proofs.result_of.Goals as goal

-- a refusal that is passed on is refusal 1
passed_on : (a : Result Decoded Refusal) (r : Refusal) → r ≡ OutOfRange → IsErrAnd a (λ s. s ≡ r) → reading_says a ≡ not_read 1
passed_on a r e f = let p = err_from_is_err_and a f in ap reading_says (p.1 ∙ ap (λ s. Err s) (p.2 ∙ e))

pub returns-in_err-symbol_of-in-0 : goal.returns-in_err-symbol_of-in-0
returns-in_err-symbol_of-in-0 c =
    let h = c.in_err-symbol_of-in-0.ensures.err in
    let v = c.in-0.is in
    passed_on _ _ h.1 c.from_residual.ensures.1
    ∙ sym (numbers_no_byte _ _ c.args.control (omega (arith, v)) (λ z. omega (arith, v, z)) h.0)

pub returns-in_err-symbol_of-in-2 : goal.returns-in_err-symbol_of-in-2
returns-in_err-symbol_of-in-2 c =
    let h = c.in_err-symbol_of-in-2.ensures.err in
    let v = c.in-2.is in
    passed_on _ _ h.1 c.from_residual-in_err-symbol_of-in-2.ensures.1
    ∙ sym (numbers_no_byte _ _ c.args.control (omega (arith, v)) (λ z. omega (arith, v, z)) h.0)

pub returns-in-1 : goal.returns-in-1
returns-in-1 c = sym (numbers_invalid _ _ _ c.in-1.is)

pub returns-in_ok-symbol_of-in-0 : goal.returns-in_ok-symbol_of-in-0
returns-in_ok-symbol_of-in-0 c =
    let h = c.in_ok-symbol_of-in-0.ensures.ok in
    ap (λ (s : Symbol). clean s (negsuc 0)) h.1 ∙ sym (numbers_clean _ _ _ h.0 c.in-0.is)

pub returns-in_ok-symbol_of-in-2 : goal.returns-in_ok-symbol_of-in-2
returns-in_ok-symbol_of-in-2 c =
    let h = c.in_ok-symbol_of-in-2.ensures.ok in
    ap (λ (s : Symbol). wrong_disparity s (negsuc 0)) h.1 ∙ sym (numbers_wrong _ _ _ h.0 c.in-2.is)

pub returns-in_default : goal.returns-in_default
returns-in_default c = sym (numbers_over _ c.args.byte c.args.control (omega arith))
