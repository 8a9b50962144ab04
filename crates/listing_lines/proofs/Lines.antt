-- The lines of packed results, one result after another.
-- Assumes nothing.
use mathlib.Core.Path.{◌≡◌, refl, sym, ap, ap₂, ◌∙◌, subst}
use mathlib.Core.Bool.{true, false, ◌&&◌}
use mathlib.Core.List.{List, [], ◌∷◌, ◌++◌, map, append-nil}
use Prim.Native.Nat.{ℕ, suc, ◌+◌, ◌≤◌, ◌<◌}
use native.Mathlib.Nat.{add_assoc, add-zero}
use native.Mathlib.Numerals.{add-one}
use native.Mathlib.Omega.{arith}
use lib.Dec.{leb, leb→le}
use lib.ListN.{length, drop, take, get_or}
use lib.Seq.{take-suc, length-take-le}
use Rattle.laws.proofs.Bools.{true_t, and_left, and_right}
use Rattle.character_rules.specs.Answers.{Reading, decoded_says}
use Rattle.character_rules.specs.Results.{unpacked}
use Rattle.character_rules.specs.declared.Decoded.{Decoded}
use Rattle.packet_rules.specs.declared.Reader.{Reader}
use Rattle.packet_rules.specs.declared.Event.{Event}
use Rattle.packet_rules.specs.Answers.{Said, event_says}
use Rattle.packet_rules.specs.Step.{step_of}
use Rattle.packet_rules.specs.Line.{said_of, after_of}
use Rattle.listing_rules.specs.declared.Reached.{Reached}
use Rattle.listing_rules.specs.Lines.{fields_of, event_line, listed, lines_from, events_in}
use Rattle.listing_rules.proofs.Runs.{said_append, after_append, lines_append, events_append, length_said, events_few}
use Rattle.listing_lines.specs.declared.Progress.{Progress}
use Rattle.listing_text.specs.Writing.{Wrote}
use Rattle.listing_lines.specs.Results.{takes, said_of_results, lines_of, begun, progress_of, lines_put, Listed}
use Rattle.listing_text.proofs.Written.{wrote_none, wrote_more, wrote_whole}
use Rattle.listing_lines.proofs.Events.{event_short}

-- ---- one result

module _ (place result : ℕ) (p : Progress) (old new : List ℕ) (g : Decoded) (said : Said) (q : Reader) (after n : ℕ) (eg : decoded_says g ≡ unpacked result)
    (es : said ≡ (step_of p.reader (decoded_says g)).said) (er : q ≡ (step_of p.reader (decoded_says g)).reader)
    (w : Wrote p.at (event_line place (fields_of said)) old new after) (en : n ≡ listed (fields_of said)) where
  fields : fields_of said ≡ fields_of (step_of p.reader (unpacked result)).said
  fields = ap fields_of es ∙ ap (λ (x : Reading). fields_of (step_of p.reader x).said) eg

  pub listed_one : Listed place (result ∷ []) p old new (record { at = after; events = p.events + n; reader = q })
  unfolding lines_from events_in said_of after_of
  listed_one =
      record {
        text = subst (λ (t : List ℕ). Wrote p.at t old new after)
            (ap (event_line place) fields ∙ sym (append-nil (event_line place (fields_of (step_of p.reader (unpacked result)).said)))) w;
        events = ap (λ (k : ℕ). p.events + k) (en ∙ ap listed fields ∙ sym (add-zero (listed (fields_of (step_of p.reader (unpacked result)).said))));
        reader = er ∙ ap (λ (x : Reading). (step_of p.reader x).reader) eg;
      }

  pub listed_short : (e : Event) → said ≡ event_says e → after ≤ p.at + 32
  listed_short e is =
      let z = w.size in
      let h = event_short place e in
      let same : length (event_line place (fields_of said)) ≡ length (event_line place (fields_of (event_says e))) =
      ap (λ (s : Said). length (event_line place (fields_of s))) is in
      omega arith

no_line : (place : ℕ) (fields : List (List ℕ)) → listed fields ≡ 0 → event_line place fields ≡ []
no_line place [] e = refl
no_line place (f ∷ fs) e = absurd (omega arith)

-- a result that has no line
module _ (place result : ℕ) (p : Progress) (old : List ℕ) (g : Decoded) (said : Said) (q : Reader) (eg : decoded_says g ≡ unpacked result)
    (es : said ≡ (step_of p.reader (decoded_says g)).said) (er : q ≡ (step_of p.reader (decoded_says g)).reader)
    (none : listed (fields_of said) ≡ 0) where
  pub listed_nothing : Listed place (result ∷ []) p old old (record { at = p.at; events = p.events; reader = q })
  listed_nothing =
      let w : Wrote p.at (event_line place (fields_of said)) old old p.at =
      subst (λ (t : List ℕ). Wrote p.at t old old p.at) (sym (no_line place (fields_of said) none)) (wrote_none p.at old) in
      subst (λ (k : ℕ). Listed place (result ∷ []) p old old (record { at = p.at; events = k; reader = q })) (add-zero p.events)
      (listed_one place result p old old g said q p.at 0 eg es er w (sym none))

-- ---- two runs

pub listed_none : (place : ℕ) (p : Progress) (old : List ℕ) → Listed place [] p old old p
unfolding lines_from events_in said_of after_of
listed_none place p old = record { text = wrote_none p.at old; events = sym (add-zero p.events); reader = refl }

map_both : (f : ℕ → Reading) (xs ys : List ℕ) → map f (xs ++ ys) ≡ map f xs ++ map f ys
map_both f [] ys = refl
map_both f (x ∷ xs) ys = ap (λ (l : List Reading). f x ∷ l) (map_both f xs ys)

map_size : (f : ℕ → Reading) (xs : List ℕ) → length (map f xs) ≡ length xs
map_size f [] = refl
map_size f (x ∷ xs) = ap suc (map_size f xs)

module _ (place : ℕ) (xs ys : List ℕ) (p q t : Progress) (old mid new : List ℕ) (a : Listed place xs p old mid q)
    (b : Listed (place + length xs) ys q mid new t) where
  abbrev gs : List Reading
  gs = map unpacked xs

  abbrev hs : List Reading
  hs = map unpacked ys

  pub listed_more : Listed place (xs ++ ys) p old new t
  listed_more =
      let r = p.reader in
      let es = said_of r gs in
      let fs = said_of (after_of r gs) hs in
      let size : length es ≡ length xs = length_said r gs ∙ map_size unpacked xs in
      let said : said_of r (map unpacked (xs ++ ys)) ≡ es ++ fs = ap (said_of r) (map_both unpacked xs ys) ∙ said_append r gs hs in
      let later : said_of q.reader hs ≡ fs = ap (λ (x : Reader). said_of x hs) a.reader in
      let lines : lines_from place es ++ lines_from (place + length xs) (said_of q.reader hs) ≡ lines_from place (said_of r (map unpacked (xs ++ ys))) =
      ap₂ (λ (l : List Said) (n : ℕ). lines_from place es ++ lines_from (place + n) l) later (sym size) ∙ sym (lines_append place es fs)
      ∙ ap (lines_from place) (sym said) in
      record {
        text = subst (λ (l : List ℕ). Wrote p.at l old new t.at) lines (wrote_more a.text b.text);
        events = b.events ∙ ap₂ ◌+◌ a.events (ap events_in later) ∙ add_assoc p.events (events_in es) (events_in fs)
            ∙ ap (λ (n : ℕ). p.events + n) (sym (events_append es fs) ∙ ap events_in (sym said));
        reader = b.reader ∙ ap (λ (x : Reader). after_of x hs) a.reader ∙ sym (ap (after_of r) (map_both unpacked xs ys) ∙ after_append r gs hs);
      }

-- no more events than results
pub listed_few : {place : ℕ} {xs : List ℕ} {p q : Progress} {old new : List ℕ} → Listed place xs p old new q → q.events ≤ p.events + length xs
listed_few {place} {xs} {p} {q} l =
    let e = l.events in
    let f = events_few (said_of p.reader (map unpacked xs)) in
    let n = length_said p.reader (map unpacked xs) ∙ map_size unpacked xs in
    omega arith

-- one result more of a run
module _ (results : List ℕ) (place : ℕ) (p q t : Progress) (old mid new : List ℕ) (i : ℕ) (a : Listed place (take i results) p old mid q)
    (h : i < length results) (b : Listed (place + i) (get_or results i 0 ∷ []) q mid new t) where
  pub listed_next : Listed place (take (i + 1) results) p old new t
  listed_next =
      let size : length (take i results) ≡ i = length-take-le i results (omega arith) in
      let next : take i results ++ (get_or results i 0 ∷ []) ≡ take (i + 1) results = sym (take-suc results i 0 h) ∙ ap (λ (n : ℕ). take n results)
      (sym (add-one i)) in
      subst (λ (l : List ℕ). Listed place l p old new t) next
      (listed_more place (take i results) (get_or results i 0 ∷ []) p q t old mid new a
      (subst (λ (n : ℕ). Listed (place + n) (get_or results i 0 ∷ []) q mid new t) (sym size) b))

-- ---- what a call comes to, by whether it is a block

module _ (results : List ℕ) (from : Reached) (old new : List ℕ) (r : Progress) where
  abbrev Comes : Type 0
  Comes = (r ≡ progress_of results from) × (new ≡ lines_put results from old)

  abbrev done : Progress
  done =
      record {
        at = length (lines_of results from);
        events = from.events + events_in (said_of_results results from);
        reader = after_of from.reader (map unpacked results);
      }

  pub block_done : takes results from ≡ true → Listed from.place results (begun from) old new r → Comes
  block_done e l =
      let w = wrote_whole l.text in
      let a = w.0 in
      let b = l.events in
      let c = l.reader in
      let same : r ≡ done = λ i. record { at = a i; events = b i; reader = c i } in
      (same ∙ sym (rw e), w.1 ∙ sym (rw e))

  -- and back, for a caller that has a block
  pub block_listed : takes results from ≡ true → Comes → Listed from.place results (begun from) old new r
  block_listed e d =
      let same : r ≡ done = d.0 ∙ rw e in
      let n : length (lines_of results from) ≡ 0 + length (lines_of results from) = omega arith in
      let stored : new ≡ lines_of results from ++ drop (length (lines_of results from)) old = d.1 ∙ rw e in
      record {
        text =
            record {
              size = ap (λ (p : Progress). p.at) same ∙ n;
              whole = stored ∙ ap (λ (k : ℕ). lines_of results from ++ drop k old) n;
            };
        events = ap (λ (p : Progress). p.events) same;
        reader = ap (λ (p : Progress). p.reader) same;
      }

pub block_not : (results : List ℕ) (from : Reached) (old : List ℕ) → takes results from ≡ false
    → (begun from ≡ progress_of results from) × (old ≡ lines_put results from old)
block_not results from old e = (sym (rw e), sym (rw e))

pub block_fits : (results : List ℕ) (from : Reached) → takes results from ≡ true → (length results ≤ 64) × (from.place ≤ 52428) × (from.events ≤ 52428)
block_fits results from e =
    let t = true_t (takes results from) e in
    let u = and_right (leb (length results) 64) (leb from.place 52428 && leb from.events 52428) t in (
      leb→le (length results) 64 (and_left (leb (length results) 64) (leb from.place 52428 && leb from.events 52428) t),
      leb→le from.place 52428 (and_left (leb from.place 52428) (leb from.events 52428) u),
      leb→le from.events 52428 (and_right (leb from.place 52428) (leb from.events 52428) u),
    )
