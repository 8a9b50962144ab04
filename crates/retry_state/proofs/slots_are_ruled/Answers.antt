-- `all` answers as the rule does, at the numbers below how many are stored.
use Rattle.std.proofs.Common.{ℕ, Bool, refl, rules, tests, ◌≡◌, ◌-◌, ◌∙◌, ap, arith}
use Rattle.std.proofs.lemmas.Iterator.{YieldsList-from_range}
use Rattle.std.proofs.lemmas.Iterator.Search.{all_from_yields_List}
use Rattle.std.specs.List.{list_all, range_with_len}
use Rattle.retry_rules.specs.States.{slots_rule, slot_rule, slot_of}
use Rattle.retry_state.proofs.Every.{all_below}
use Rattle.retry_state.proofs.slots_are_ruled.Goals as goal

pub returns : goal.returns
unfolding slots_rule slot_rule
returns c =
    let s = c.args.sender in
    let test : ℕ → Bool = λ i. slot_rule s (slot_of s.counters i) in
    let count : c.from.result - 0 ≡ s.counters.stored = omega (arith, c.from.ensures) in
    all_from_yields_List test _ _ c.all.result c.all.ensures.ran (YieldsList-from_range 0 _ _ refl refl) (λ x b q k. search (rules, tests))
    ∙ ap (λ n. list_all test (range_with_len 0 n)) count ∙ all_below test s.counters.stored
