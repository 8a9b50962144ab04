-- Document 01, "Numbered refusals": each returns its number and the given state. Beside them stand zeros.
use Rattle.std.specs.Prelude.{ℕ, false}
use Rattle.retry_rules.specs.declared.Sender.{Sender}
use Rattle.retry_rules.specs.declared.Receiver.{Receiver}
use Rattle.retry_rules.specs.Answers.{Answered, Offered, Sent, Ticked, Begun, Arrived}

-- a fresh sender, a reply, a damaged reply, a reset
abbrev pub refused_sender : Sender → ℕ → Answered
refused_sender s n = record { refusal = n; sender = s }

abbrev pub refused_offer : Sender → ℕ → Offered
refused_offer s n = record { refusal = n; number = 0; sender = s }

abbrev pub refused_send : Sender → ℕ → Sent
refused_send s n = record { refusal = n; sent = false; number = 0; channel = 0; bad = false; length = 0; sender = s }

abbrev pub refused_tick : Sender → ℕ → Ticked
refused_tick s n = record { refusal = n; fell = false; sender = s }

-- a fresh receiver
abbrev pub refused_receiver : Receiver → ℕ → Begun
refused_receiver r n = record { refusal = n; receiver = r }

-- an arrival, valid or damaged
abbrev pub refused_arrival : Receiver → ℕ → Arrived
refused_arrival r n =
    record {
      refusal = n;
      delivered = false;
      nack = false;
      number = 0;
      channel = 0;
      bad = false;
      length = 0;
      receiver = r;
    }
