-- A reset of a sender that keeps its rule comes to what a fresh sender does, and of any other to refusal 1.
-- Assumes nothing.
use mathlib.Core.Path.{◌≡◌, sym, ap, ◌∙◌}
use mathlib.Core.Bool.{true, false, or-true, or-false}
use Prim.Native.Nat.{ℕ}
use Rattle.refusal.specs.declared.Refusal.{Refusal}
use Rattle.refusal.specs.declared.Refusal.TheVariants.{OutOfRange}
use Rattle.refusal.specs.Order.{number_of, refusal_of}
use Rattle.retry_rules.specs.declared.Sender.{Sender}
use Rattle.retry_rules.specs.States.{sender_rule}
use Rattle.retry_rules.specs.Refused.{refused_sender}
use Rattle.retry_rules.specs.Fresh.{no_sender, fresh_checks, fresh_sender_of, reset_checks, reset_of}
use Rattle.retry_rules.proofs.Seen.{fresh_seen}
use Rattle.retry_rules.proofs.Refusals.{fresh_sender_number}
use Rattle.retry_rules.proofs.Done.{fresh_sender_done, reset_done}
use Rattle.retry_rules.proofs.Errs.{reset_err}

module _ (given : Sender) (t s : ℕ) where
  ruled : sender_rule given ≡ true → refusal_of (reset_checks given t s) ≡ refusal_of (fresh_checks t s)
  unfolding reset_checks fresh_checks
  ruled q = simp (q, or-false)

  unruled : sender_rule given ≡ false → 1 ≡ refusal_of (reset_checks given t s)
  unfolding reset_checks fresh_checks
  unruled q = simp (q, or-true)

  pub broken : sender_rule given ≡ false → reset_of given t s ≡ refused_sender given 1
  broken q = reset_err OutOfRange given t s (unruled q)

  pub refused : sender_rule given ≡ true → (x : Refusal) → refused_sender no_sender (number_of x) ≡ fresh_sender_of t s
      → reset_of given t s ≡ refused_sender given (number_of x)
  refused q x e =
      reset_err x given t s (ap (λ a. a.refusal) e ∙ fresh_sender_number t s ∙ sym (ruled q))

  pub made : sender_rule given ≡ true → (x : Sender) → record { refusal = 0; sender = x } ≡ fresh_sender_of t s
      → reset_of given t s ≡ record { refusal = 0; sender = x }
  made q x e =
      let z : refusal_of (fresh_checks t s) ≡ 0 = sym (ap (λ a. a.refusal) e ∙ fresh_sender_number t s) in
      let h = fresh_seen t s z in
      reset_done given t s q h ∙ sym (e ∙ fresh_sender_done t s h)
