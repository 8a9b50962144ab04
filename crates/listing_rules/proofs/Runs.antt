-- A run of readings in two parts: what the reader says, the lines and the events.
-- Assumes nothing.
use mathlib.Core.Path.{◌≡◌, refl, sym, ap, ◌∙◌}
use mathlib.Core.List.{List, [], ◌∷◌, ◌++◌, append_assoc}
use Prim.Native.Nat.{ℕ, suc, ◌+◌, ◌≤◌}
use native.Mathlib.Nat.{add_assoc, add-zero}
use native.Mathlib.Omega.{arith}
use lib.ListN.{length}
use Rattle.character_rules.specs.Answers.{Reading}
use Rattle.packet_rules.specs.declared.Reader.{Reader}
use Rattle.packet_rules.specs.Answers.{Said}
use Rattle.packet_rules.specs.Step.{step_of}
use Rattle.packet_rules.specs.Line.{said_of, after_of}
use Rattle.listing_rules.specs.Lines.{fields_of, event_line, listed, lines_from, events_in}

pub said_append : (r : Reader) (gs hs : List Reading) → said_of r (gs ++ hs) ≡ said_of r gs ++ said_of (after_of r gs) hs
unfolding said_of after_of
said_append r [] hs = refl
said_append r (g ∷ gs) hs = ap (λ (l : List Said). (step_of r g).said ∷ l) (said_append (step_of r g).reader gs hs)

pub after_append : (r : Reader) (gs hs : List Reading) → after_of r (gs ++ hs) ≡ after_of (after_of r gs) hs
unfolding after_of
after_append r [] hs = refl
after_append r (g ∷ gs) hs = after_append (step_of r g).reader gs hs

pub lines_append : (place : ℕ) (es fs : List Said) → lines_from place (es ++ fs) ≡ lines_from place es ++ lines_from (place + length es) fs
unfolding lines_from
lines_append place [] fs = ap (λ (n : ℕ). lines_from n fs) (sym (add-zero place))
lines_append place (e ∷ es) fs =
    let n : place + 1 + length es ≡ place + suc (length es) = omega arith in
    ap (λ (l : List ℕ). event_line place (fields_of e) ++ l) (lines_append (place + 1) es fs ∙ ap (λ (k : ℕ). lines_from (place + 1) es ++ lines_from k fs) n)
    ∙ sym (append_assoc (event_line place (fields_of e)) (lines_from (place + 1) es) (lines_from (place + suc (length es)) fs))

pub events_append : (es fs : List Said) → events_in (es ++ fs) ≡ events_in es + events_in fs
unfolding events_in
events_append [] fs = omega arith
events_append (e ∷ es) fs = ap (λ (n : ℕ). listed (fields_of e) + n) (events_append es fs) ∙ sym (add_assoc (listed (fields_of e)) (events_in es) (events_in fs))

pub length_said : (r : Reader) (gs : List Reading) → length (said_of r gs) ≡ length gs
unfolding said_of
length_said r [] = refl
length_said r (g ∷ gs) = ap suc (length_said (step_of r g).reader gs)

pub listed_low : (fields : List (List ℕ)) → listed fields ≤ 1
listed_low [] = omega arith
listed_low (field ∷ fields) = omega arith

-- no more events than characters
pub events_few : (es : List Said) → events_in es ≤ length es
unfolding events_in
events_few [] = omega arith
events_few (e ∷ es) = let a = events_few es in let b = listed_low (fields_of e) in omega arith
