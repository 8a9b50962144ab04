-- What the calls on a capture come to, case by case, in the order of the refusals: for the code that makes the tests, and for whoever calls it.
-- Assumes nothing.
use mathlib.Core.Path.{◌≡◌, ap}
use mathlib.Core.Bool.{true, false}
use mathlib.Core.List.{List, ◌++◌}
use Prim.Native.Nat.{ℕ, ◌≤◌, ◌<◌}
use native.Mathlib.Omega.{arith}
use lib.Dec.{ltb, ltb→lt, lt→ltb}
use lib.ListN.{length, get_or, drop}
use borrow.Author.Tests.{lt-ltb, le-ltb}
use Rattle.laws.specs.Groups.{all_below}
use Rattle.laws.proofs.Cases.{some_is_not_none}
use Rattle.laws.proofs.Iff.{iff_eq}
use Rattle.refusal.specs.Order.{refusal_of}
use Rattle.refusal.proofs.Laws.{hands_back, refused_leaves}
use Rattle.capture_rules.specs.Capture.{character_count, characters_of, legal, byte_count, pack_of}
use Rattle.capture_rules.specs.Calls.{Said, answered, refused, count_says, character_says, pack_checks, pack_says, pack_leaves, unpack_checks, unpack_says, unpack_leaves}

-- over 65,535 bytes are to be written exactly if there are more than 52,428 characters
pub too_many : (n : ℕ) → ltb 65535 (byte_count n) ≡ ltb 52428 n
too_many n =
    iff_eq (ltb 65535 (byte_count n)) (ltb 52428 n)
    (λ t. let h = ltb→lt 65535 (byte_count n) t in lt→ltb 52428 n (omega arith))
    (λ t. let h = ltb→lt 52428 n t in lt→ltb 65535 (byte_count n) (omega arith))

-- what is answered is no refusal
pub not_answered : (m n : ℕ) → answered m ≡ refused n → ⊥
not_answered m n z = some_is_not_none (ap (λ (s : Said). s.number) z)

module _ (capture : List ℕ) where
  pub count_illegal : legal capture ≡ false → count_says capture ≡ refused 8
  unfolding count_says
  count_illegal l = simp l

  pub count_legal : legal capture ≡ true → count_says capture ≡ answered (character_count (length capture))
  unfolding count_says
  count_legal l = simp l

  module _ (place : ℕ) where
    pub character_illegal : legal capture ≡ false → character_says capture place ≡ refused 8
    unfolding character_says
    character_illegal l = simp l

    pub character_nowhere : legal capture ≡ true → character_count (length capture) ≤ place → character_says capture place ≡ refused 1
    unfolding character_says
    character_nowhere l h = simp (l, le-ltb place (character_count (length capture)) h)

    pub character_found : legal capture ≡ true → place < character_count (length capture) → character_says capture place ≡ answered (get_or (characters_of capture) place 0)
    unfolding character_says
    character_found l h = simp (l, lt-ltb place (character_count (length capture)) h)

-- what a call with a lent output answers, and what it leaves there
pub record Comes (says said : Said) (leaves left : List ℕ) : Type 0 where
  pub answer : says ≡ said
  pub output : leaves ≡ left

module _ (cs old : List ℕ) where
  abbrev pub PackComes : Said → List ℕ → Type 0
  PackComes said left = Comes (pack_says cs (length old)) said (pack_leaves cs old) left

  pub pack_too_many : 52428 < length cs → PackComes (refused 8) old
  unfolding pack_says pack_leaves pack_checks
  pack_too_many h =
      let long = lt-ltb 65535 (byte_count (length cs)) (omega arith) in
      record { answer = simp long; output = simp long }

  module _ (few : length cs ≤ 52428) where
    short : ltb 65535 (byte_count (length cs)) ≡ false
    short = le-ltb 65535 (byte_count (length cs)) (omega arith)

    pub pack_out_of_range : all_below 1024 cs ≡ false → PackComes (refused 1) old
    unfolding pack_says pack_leaves pack_checks
    pack_out_of_range r = record { answer = simp (short, r); output = simp (short, r) }

    pub pack_short_output : all_below 1024 cs ≡ true → length old < byte_count (length cs) → PackComes (refused 6) old
    unfolding pack_says pack_leaves pack_checks
    pack_short_output r h =
        let no_room = lt-ltb (length old) (byte_count (length cs)) h in
        record { answer = simp (short, r, no_room); output = simp (short, r, no_room) }

    pub pack_done : all_below 1024 cs ≡ true → byte_count (length cs) ≤ length old
        → PackComes (answered (byte_count (length cs))) (pack_of cs ++ drop (byte_count (length cs)) old)
    unfolding pack_says pack_leaves pack_checks
    pack_done r h =
        let room = le-ltb (length old) (byte_count (length cs)) h in
        record { answer = simp (short, r, room); output = simp (short, r, room) }

  -- every refusal leaves the output as it stood
  pub pack_hands_back : (refusal_of (pack_checks cs (length old)) ≡ 0 → ⊥) → pack_leaves cs old ≡ old
  unfolding pack_leaves
  pack_hands_back h = hands_back (pack_checks cs (length old)) old (pack_of cs ++ drop (byte_count (length cs)) old) h

  pub pack_leaves_lem : (n : ℕ) → refused n ≡ pack_says cs (length old) → pack_leaves cs old ≡ old
  unfolding pack_says pack_leaves
  pack_leaves_lem n e = refused_leaves (pack_checks cs (length old)) refused (answered (byte_count (length cs))) n (not_answered _ n) e old _

module _ (capture old : List ℕ) where
  abbrev pub UnpackComes : Said → List ℕ → Type 0
  UnpackComes said left = Comes (unpack_says capture (length old)) said (unpack_leaves capture old) left

  pub unpack_illegal : legal capture ≡ false → UnpackComes (refused 8) old
  unfolding unpack_says unpack_leaves unpack_checks
  unpack_illegal l = record { answer = simp l; output = simp l }

  pub unpack_short_output : legal capture ≡ true → length old < character_count (length capture) → UnpackComes (refused 6) old
  unfolding unpack_says unpack_leaves unpack_checks
  unpack_short_output l h =
      let no_room = lt-ltb (length old) (character_count (length capture)) h in
      record { answer = simp (l, no_room); output = simp (l, no_room) }

  pub unpack_done : legal capture ≡ true → character_count (length capture) ≤ length old
      → UnpackComes (answered (character_count (length capture))) (characters_of capture ++ drop (character_count (length capture)) old)
  unfolding unpack_says unpack_leaves unpack_checks
  unpack_done l h =
      let room = le-ltb (length old) (character_count (length capture)) h in
      record { answer = simp (l, room); output = simp (l, room) }

  pub unpack_hands_back : (refusal_of (unpack_checks capture (length old)) ≡ 0 → ⊥) → unpack_leaves capture old ≡ old
  unfolding unpack_leaves
  unpack_hands_back h = hands_back (unpack_checks capture (length old)) old (characters_of capture ++ drop (character_count (length capture)) old) h

  pub unpack_leaves_lem : (n : ℕ) → refused n ≡ unpack_says capture (length old) → unpack_leaves capture old ≡ old
  unfolding unpack_says unpack_leaves
  unpack_leaves_lem n e = refused_leaves (unpack_checks capture (length old)) refused (answered (character_count (length capture))) n (not_answered _ n) e old _
