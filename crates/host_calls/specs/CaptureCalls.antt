-- What the calls on a capture come to for C: the refusal's number, and what all that is lent holds afterwards, given what stood there.
use Rattle.std.specs.Prelude.{ℕ, List, length}
use Rattle.capture_rules.specs.Calls.{count_says, character_says, pack_says, pack_leaves, unpack_says, unpack_leaves}
use Rattle.host_rules.specs.Numbers.{or_old, Called, called}

-- how many characters a capture holds
unfoldable pub counts : List ℕ → ℕ → Called ℕ
counts capture old =
    let said = count_says capture in
    called said.refusal old (or_old said.number old)

-- the character at a place
unfoldable pub finds : List ℕ → ℕ → ℕ → Called ℕ
finds capture place old =
    let said = character_says capture place in
    called said.refusal old (or_old said.number old)

pub record Packs : Type 0 where
  pub capture : List ℕ
  pub bytes : ℕ

-- characters are packed into the front of the capture, and so many bytes are written
unfoldable pub packs : List ℕ → Packs → Called Packs
packs characters old =
    let said = pack_says characters (length old.capture) in
    called said.refusal old
    (record { capture = pack_leaves characters old.capture; bytes = or_old said.number old.bytes })

pub record Unpacks : Type 0 where
  pub characters : List ℕ
  pub count : ℕ

-- a capture's characters stand in the front of a run, and there are so many
unfoldable pub unpacks : List ℕ → Unpacks → Called Unpacks
unpacks capture old =
    let said = unpack_says capture (length old.characters) in
    called said.refusal old
    (record { characters = unpack_leaves capture old.characters; count = or_old said.number old.count })
