-- Not refused, the fresh sender.
use Rattle.std.proofs.Common.{sym, ap, ◌∙◌}
use Rattle.retry_rules.specs.Answers.{Answered}
use Rattle.retry_beginning.proofs.Anew.{made}
use Rattle.retry_beginning.proofs.reset.Goals as goal

pub returns : goal.returns
returns c =
    let a = c.args in
    let ruled = sym c.sender_is_ruled.ensures ∙ c.if-not-sender_is_ruled.false in
    let anew = made a.sender.now a.columns a.size ruled c.in_ok-sender.field-0 c.in_ok-sender.ensures in
    (sym (ap (λ (x : Answered). x.refusal) anew), sym (ap (λ (x : Answered). x.sender) anew))
