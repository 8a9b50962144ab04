-- What one who sees only the answers knows: the bytes given since each open packet's start.
use Rattle.std.specs.Prelude.{ℕ, cond, List, [], ◌∷◌, ◌++◌, eqb}
use Rattle.std.proofs.Math.Option.{Option, none, some}
use Rattle.packet_rules.specs.Answers.{Said, Start}

-- the bytes of the data packet and of the priority packet, where one is open
pub record Seen : Type 0 where
  pub packet : Option (List ℕ)
  pub priority : Option (List ℕ)

abbrev pub seen_nothing : Seen
seen_nothing = record { packet = none; priority = none }

-- what is there, or else another
abbrev pub given : {A B : Type 0} → Option A → (A → B) → B → B
given none f b = b
given (some a) f b = f a

-- a start: no byte of that packet yet
abbrev pub seen_start : Seen → Start → Seen
seen_start k s =
    given s.segment (λ n. record { packet = k.packet; priority = some [] }) (record { packet = some []; priority = k.priority })

-- a byte belongs to the priority packet where one is open
abbrev pub seen_byte : Option (List ℕ) → Option (List ℕ) → ℕ → Seen
seen_byte d (some bs) b = record { packet = d; priority = some (bs ++ (b ∷ [])) }
seen_byte (some bs) none b = record { packet = some (bs ++ (b ∷ [])); priority = none }
seen_byte none none b = seen_nothing

-- and so does an end
abbrev pub seen_end : Option (List ℕ) → Option (List ℕ) → Seen
seen_end d (some bs) = record { packet = d; priority = none }
seen_end d none = seen_nothing

-- 7 closes nothing, 6 its own packet, every other one all
abbrev pub seen_violation : Seen → ℕ → Seen
seen_violation k n = cond (eqb n 7) k (cond (eqb n 6) (seen_end k.packet k.priority) seen_nothing)

unfoldable pub seen_after : Seen → Said → Seen
seen_after k s =
    given s.violation (seen_violation k)
    (given s.start (seen_start k)
    (given s.byte (seen_byte k.packet k.priority) (given s.end (λ bad. seen_end k.packet k.priority) k)))

unfoldable pub seen_in : Seen → List Said → Seen
seen_in k [] = k
seen_in k (s ∷ ss) = seen_in (seen_after k s) ss
