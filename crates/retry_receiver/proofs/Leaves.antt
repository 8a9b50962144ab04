-- A damaged segment leaves the receiver as it is.
-- Assumes nothing.
use mathlib.Core.Path.{◌≡◌, refl}
use Rattle.refusal.proofs.Outcomes.{either_way}
use Rattle.retry_rules.specs.declared.Receiver.{Receiver}
use Rattle.retry_rules.specs.Answers.{Arrived}
use Rattle.retry_rules.specs.Refused.{refused_arrival}
use Rattle.retry_rules.specs.Arrival.{nack_of, receiver_checks, damaged_arrival_of}

pub damaged_leaves : (r : Receiver) → (damaged_arrival_of r).receiver ≡ r
unfolding damaged_arrival_of
damaged_leaves r =
    either_way (receiver_checks r) (λ (a : Arrived). a.receiver ≡ r) (refused_arrival r) (nack_of r) (λ _. refl) (λ _. refl)
