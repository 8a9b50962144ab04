-- Mark by mark.
use Rattle.host_retry_rules.specs.SenderBytes.{mask_of}
use Rattle.host_retry_bytes.proofs.Sums.{next, last}
use Rattle.host_retry_bytes.proofs.mask_of.Goals as goal

pub returns : goal.returns
unfolding mask_of
returns c =
    next c.mark-m0.ensures.0 (next
    c.mark-m1.ensures.0 (next
    c.mark-m2.ensures.0 (next c.mark-m3.ensures.0
    (next c.mark-m4.ensures.0
    (next c.mark-m5.ensures.0 (next c.mark-m6.ensures.0 (last c.mark-m7.ensures.0)))))))
