-- In every state that a fresh reader comes to, whatever it was given: a packet is open exactly if it was seen to start and not to close, its count is
-- the number of bytes given since its start, and its register is their CRC.
-- Assumes nothing.
use mathlib.Core.Path.{◌≡◌, refl, sym, ap, ◌∙◌}
use mathlib.Core.Bool.{Bool, true, false, cond, ◌&&◌}
use mathlib.Core.List.{List, [], ◌∷◌, ◌++◌}
use mathlib.Core.Option.{Option, none, some}
use Prim.Native.Nat.{ℕ, ◌+◌, ◌/◌, ◌%◌}
use native.Mathlib.Omega.{arith}
use lib.Dec.{eqb, ltb}
use lib.ListN.{length, length-append}
use Rattle.character_rules.specs.Answers.{Reading}
use Rattle.crc.specs.Crc16.{crc_start, crc_byte, crc_from}
use Rattle.crc.proofs.Laws.{start_value, crc_append, crc_none}
use Rattle.packet_rules.specs.declared.Kind.{Kind}
use Rattle.packet_rules.specs.declared.Kind.TheVariants.{Data, Idl, Com, Opens, Closes, NoPlace, Unsupported}
use Rattle.packet_rules.specs.Open.{OpenData, OpenPriority, open_data, open_priority}
use Rattle.std.specs.Prelude.{Some, None}
use Rattle.packet_rules.specs.declared.Due.{Due}
use Rattle.packet_rules.specs.declared.Due.TheVariants.{Channel, Opening, Closing, FirstCrc, SecondCrc, LmpType, LmpNumber, LmpCheck}
use Rattle.packet_rules.specs.declared.Phase.{Phase}
use Rattle.packet_rules.specs.declared.Phase.TheVariants.{Free, Next, Idles, Dropping}
use Rattle.packet_rules.specs.declared.Reader.{Reader}
use Rattle.packet_rules.specs.Answers.{Said, Answer, nothing, gave_byte, ended, replied, violated}
use Rattle.packet_rules.specs.State.{outside, fed_priority, fed_data, fresh}
use Rattle.packet_rules.specs.Violations.{violation_of}
use Rattle.packet_rules.specs.Step.{due_after, idles_after, user_byte, free_move, closes_own, lmp_said, due_move, byte_of, move, broken, awakens, dropped, is_dropping, judged, kind_in, read_of, step_checks, refused_step, step_of}
use Rattle.packet_rules.specs.Line.{said_of, after_of}
use Rattle.packet_rules.specs.History.{Seen, seen_nothing, seen_end, seen_after, seen_in}
use Rattle.packet_rules.proofs.Choice.{either, by_outcome}

abbrev is_some : List ℕ → Bool
is_some [] = false
is_some (b ∷ bs) = true

-- the packet that is open has these bytes
pub data PriorityIs : Option (List ℕ) → OpenPriority → Type 0 where
  no_priority_lem : PriorityIs none None
  priority_of_lem : (bs : List ℕ) (o n c : ℕ) → n ≡ length bs → c ≡ crc_from crc_start bs → PriorityIs (some bs) (open_priority o n c)

pub data DataIs : Option (List ℕ) → OpenData → Type 0 where
  no_data : DataIs none None
  data_of : (bs : List ℕ) (h : ℕ) (begun : Bool) (c : ℕ) → begun ≡ is_some bs → c ≡ crc_from crc_start bs → DataIs (some bs) (open_data h begun c)

pub record Tracks (k : Seen) (r : Reader) : Type 0 where
  pub packet : DataIs k.packet r.packet
  pub priority : PriorityIs k.priority r.priority

-- what an answer leaves is what was seen
abbrev Follows : Seen → Answer → Type 0
Follows k a = Tracks (seen_after k a.said) a.reader

no_byte : crc_start ≡ crc_from crc_start []
no_byte = sym (crc_none crc_start (rw start_value (omega arith)))

one_more : (bs : List ℕ) (b c : ℕ) → c ≡ crc_from crc_start bs → crc_byte c b ≡ crc_from crc_start (bs ++ (b ∷ []))
one_more bs b c e = ap (λ (x : ℕ). crc_byte x b) e ∙ sym (crc_append crc_start bs (b ∷ []))

one_longer : (bs : List ℕ) (b n : ℕ) → n ≡ length bs → n + 1 ≡ length (bs ++ (b ∷ []))
one_longer bs b n e = sym (length-append bs (b ∷ []) ∙ ap (λ (x : ℕ). x + 1) (sym e))

some_more : (bs : List ℕ) (b : ℕ) → true ≡ is_some (bs ++ (b ∷ []))
some_more [] b = refl
some_more (x ∷ bs) b = refl

-- the packets stay as they are, whatever the phase
still : {d : Option (List ℕ)} {p : Option (List ℕ)} {e : OpenData} {q : OpenPriority} (s : ℕ) (w : Phase) → DataIs d e → PriorityIs p q
    → Tracks (record { packet = d; priority = p }) (record { size = s; packet = e; priority = q; phase = w })
still s w x y = record { packet = x; priority = y }

module _ (k : Seen) (r : Reader) (t : Tracks k r) where
  user : (b : ℕ) → Follows k (user_byte r.packet r.priority b r)
  unfolding seen_after
  user b = by t.packet t.priority
    where
      by : {d : Option (List ℕ)} {p : Option (List ℕ)} {e : OpenData} {q : OpenPriority} → DataIs d e → PriorityIs p q
          → Tracks (seen_after (record { packet = d; priority = p }) (cond (outside e q) nothing (gave_byte b)))
          (record { size = r.size; packet = fed_data e q b; priority = fed_priority q b; phase = Free })
      by x (priority_of_lem bs o n c l g) =
          still r.size Free x (priority_of_lem (bs ++ (b ∷ [])) o (n + 1) (crc_byte c b) (one_longer bs b n l) (one_more bs b c g))
      by (data_of bs h z c l g) no_priority_lem =
          still r.size Free (data_of (bs ++ (b ∷ [])) h true (crc_byte c b) (some_more bs b) (one_more bs b c g)) no_priority_lem
      by no_data no_priority_lem = still r.size Free no_data no_priority_lem

  own : (said : Said) → Tracks (seen_end k.packet k.priority) (closes_own said r.priority r).reader
  own said = by t.packet t.priority
    where
      by : {d : Option (List ℕ)} {p : Option (List ℕ)} {e : OpenData} {q : OpenPriority} → DataIs d e → PriorityIs p q
          → Tracks (seen_end d p) (closes_own said q (record { size = r.size; packet = e; priority = q; phase = r.phase })).reader
      by x (priority_of_lem bs o n c l g) = still r.size Free x no_priority_lem
      by x no_priority_lem = still r.size Free no_data no_priority_lem

  same : (w : Phase) → Tracks k (record { size = r.size; packet = r.packet; priority = r.priority; phase = w })
  same w = still r.size w t.packet t.priority

  frees : (x : Kind) → Follows k (free_move x r)
  unfolding seen_after
  frees (Data b) = user b
  frees Idl = same Free
  frees Com = same (Idles 3)
  frees (Opens o) = same (Next (due_after o))
  frees (Closes bad) = same (Next (Closing bad))
  frees NoPlace = same Free
  frees Unsupported = same Free

  lmps : (a n : ℕ) → Tracks (seen_after k (lmp_said a n)) (record { size = r.size; packet = r.packet; priority = r.priority; phase = Free })
  unfolding seen_after
  lmps a n =
      either (λ (s : Said). Tracks (seen_after k s) (record { size = r.size; packet = r.packet; priority = r.priority; phase = Free }))
      (eqb (a / 16) 2 && (ltb (a % 16) 2 && eqb (n / 16) 0)) (replied (eqb (a % 16) 1) (n % 16)) nothing (λ e. same Free) (λ e. same Free)

  dues : (x : Due) (b : ℕ) → Follows k (due_move x b r)
  unfolding seen_after
  dues Channel b = still r.size Free (data_of [] b false crc_start refl no_byte) t.priority
  dues Opening b = still r.size Free t.packet (priority_of_lem [] b 0 crc_start refl no_byte)
  dues (Closing bad) b = same (Next (FirstCrc bad))
  dues (FirstCrc bad) b = same (Next (SecondCrc bad b))
  dues (SecondCrc bad a) b = ending r.priority (own (ended bad))
    where
      ending : (q : OpenPriority) → Tracks (seen_end k.packet k.priority) (closes_own (ended bad) q r).reader → Follows k (closes_own (ended bad) q r)
      ending None h = h
      ending (Some inner) h = h
  dues LmpType b = same (Next (LmpNumber b))
  dues (LmpNumber x) b = same (Next (LmpCheck x b))
  dues (LmpCheck x n) b = lmps x n

  moves : (w : Phase) (x : Kind) → Follows k (move w x r)
  unfolding seen_after
  moves Free x = frees x
  moves (Next d) x = dues d (byte_of x)
  moves (Idles n) x = same (idles_after n)
  moves Dropping x = same Dropping

  -- 7 closes nothing, 6 its own packet, every other one all
  breaks : (n : ℕ) → Follows k (broken n r)
  unfolding seen_after broken
  breaks n = by (eqb n 7) (eqb n 6) refl refl
    where
      by : (x y : Bool) → eqb n 7 ≡ x → eqb n 6 ≡ y → Follows k (broken n r)
      by true y e f = simp (e) (same Free)
      by false true e f = simp (e, f) (ending r.priority (own (violated n)))
        where
          ending : (q : OpenPriority) → Tracks (seen_end k.packet k.priority) (closes_own (violated n) q r).reader
              → Tracks (seen_after k (closes_own (violated n) q r).said) (closes_own (violated n) q r).reader
          ending None h = simp (e, f) h
          ending (Some inner) h = simp (e, f) h
      by false false e f = simp (e, f) (still r.size Dropping no_data no_priority_lem)

  follows : (g : Reading) → Follows k (step_of r g)
  unfolding seen_after step_of read_of dropped
  follows g =
      let x = kind_in g.symbol in
      let n = violation_of r g x in
      by_outcome (Follows k) (step_checks r g) (refused_step r) (read_of r g x) (λ m. t)
      (either (Follows k) (is_dropping r.phase) (dropped g x r) (judged n x r) (λ e. same (cond (eqb g.violation 0) (awakens x) Dropping))
      (λ e. either (Follows k) (eqb n 0) (move r.phase x r) (broken n r) (λ q. moves r.phase x) (λ q. breaks n)))

-- of a whole run, from any state that is as it was seen
pub tracked : (k : Seen) (r : Reader) → Tracks k r → (gs : List Reading) → Tracks (seen_in k (said_of r gs)) (after_of r gs)
unfolding seen_in said_of after_of
tracked k r t [] = t
tracked k r t (g ∷ gs) = tracked (seen_after k (step_of r g).said) (step_of r g).reader (follows k r t g) gs

-- THE THEOREM: from a fresh reader
pub register_is_crc : (s : ℕ) (gs : List Reading) → Tracks (seen_in seen_nothing (said_of (fresh s) gs)) (after_of (fresh s) gs)
register_is_crc s gs = tracked seen_nothing (fresh s) (still s Free no_data no_priority_lem) gs
