-- What each call on a capture answers, and what it leaves in lent memory: document 01, "Captures" and "Numbered refusals".
use Rattle.std.specs.Prelude.{ℕ, not, List, [], ◌∷◌, ◌++◌, ltb, length, get_or, drop, Result, Ok, Err}
use Rattle.std.proofs.Math.Option.{Option, none, some}
use Rattle.laws.specs.Groups.{all_below}
use Rattle.refusal.specs.declared.Refusal.{Refusal}
use Rattle.refusal.specs.Order.{Check, check, number_of, outcome, left}
use Rattle.capture_rules.specs.Capture.{character_count, characters_of, legal, byte_count, pack_of}

-- an answer in document 01's terms: the refusal's number (0: not refused), and the number that is answered
pub record Said : Type 0 where
  pub refusal : ℕ
  pub number : Option ℕ

abbrev pub answered : ℕ → Said
answered n = record { refusal = 0; number = some n }

abbrev pub refused : ℕ → Said
refused n = record { refusal = n; number = none }

abbrev pub says : Result ℕ Refusal → Said
says (Ok n) = answered n
says (Err r) = refused (number_of r)

-- 8: a capture with a wrong length or closing bit, or over 65,535 bytes, that is read
abbrev pub readable : List ℕ → Check
readable capture = check 8 (not (legal capture))

-- how many characters a capture holds
unfoldable pub count_says : List ℕ → Said
count_says capture = outcome (readable capture ∷ []) refused (answered (character_count (length capture)))

-- the character at a place; 1: no character stands there
unfoldable pub character_says : List ℕ → ℕ → Said
character_says capture place =
    outcome (readable capture ∷ check 1 (not (ltb place (character_count (length capture)))) ∷ []) refused
    (answered (get_or (characters_of capture) place 0))

-- packing into an output of so many bytes. 8: over 65,535 bytes to be written; 1: a character over 1,023; 6: the output is too short
unfoldable pub pack_checks : List ℕ → ℕ → List Check
pack_checks characters room =
    check 8 (ltb 65535 (byte_count (length characters)))
    ∷ check 1 (not (all_below 1024 characters))
    ∷ check 6 (ltb room (byte_count (length characters)))
    ∷ []

unfoldable pub pack_says : List ℕ → ℕ → Said
pack_says characters room = outcome (pack_checks characters room) refused (answered (byte_count (length characters)))

-- what packing leaves of the output: the bytes, and past them what stood there
unfoldable pub pack_leaves : List ℕ → List ℕ → List ℕ
pack_leaves characters old = left (pack_checks characters (length old)) old (pack_of characters ++ drop (byte_count (length characters)) old)

-- unpacking into an output for so many characters
unfoldable pub unpack_checks : List ℕ → ℕ → List Check
unpack_checks capture room = readable capture ∷ check 6 (ltb room (character_count (length capture))) ∷ []

unfoldable pub unpack_says : List ℕ → ℕ → Said
unpack_says capture room = outcome (unpack_checks capture room) refused (answered (character_count (length capture)))

unfoldable pub unpack_leaves : List ℕ → List ℕ → List ℕ
unpack_leaves capture old = left (unpack_checks capture (length old)) old (characters_of capture ++ drop (character_count (length capture)) old)
