-- Byte by byte.
use Rattle.host_retry_rules.specs.SenderBytes.{sender_bytes}
use Rattle.host_retry_bytes.proofs.sender_bytes.Goals as goal

pub returns : goal.returns
unfolding sender_bytes
returns c =
    simp (
      c.two_bytes.ensures,
      c.two_bytes-2.ensures,
      c.two_bytes-3.ensures,
      c.two_bytes-4.ensures,
      c.two_bytes-5.ensures,
      c.two_bytes-6.ensures,
      c.two_bytes-7.ensures,
      c.two_bytes-8.ensures,
      c.two_bytes-9.ensures,
      c.two_bytes-10.ensures,
      c.two_bytes-11.ensures,
      c.mask_of.ensures,
    )
