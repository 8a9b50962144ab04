-- What is written is read again, and a character reads clean exactly if it is the character of some symbol at that disparity.
-- Assumes nothing.
use mathlib.Core.Path.{◌≡◌, refl, sym, ◌∙◌, ap, ap₂, subst}
use mathlib.Core.Bool.{Bool, true, false, not, ◌&&◌, ◌||◌}
use mathlib.Core.List.{List, [], ◌∷◌}
use mathlib.Core.Option.{Option, none, some}
use Prim.Native.Nat.{ℕ, ◌<◌, ◌≤◌}
use native.Mathlib.Omega.{arith}
use lib.Dec.{T, eqb, ltb, ltb→lt}
use lib.IntN.{ℤ, neg_ℤ}
use Rattle.refusal.specs.Order.{check, outcome}
use Rattle.laws.specs.Lists.{all_of}
use Rattle.laws.proofs.Bools.{and_left, and_right, T_true}
use Rattle.symbol.specs.Symbols.{is_symbol, is_writable}
use Rattle.symbol.specs.declared.Symbol.{Symbol}
use Rattle.character_rules.specs.Disparity.{is_disparity}
use Rattle.character_rules.specs.Blocks.{character, closing}
use Rattle.character_rules.specs.Answers.{Reading, clean, wrong_disparity, invalid, not_read, written}
use Rattle.character_rules.specs.Writing.{writing}
use Rattle.character_rules.specs.Reading.{symbols, first_with, result, reading}
use Rattle.character_rules.specs.Demand.{CodeGroup, can_write, Returns, RoundTrip, Exact, Otherwise}
use Rattle.character_rules.proofs.Disparities.{opposite, closing_disparity}
use Rattle.character_rules.proofs.Laws.{writing_done, reading_done}
use Rattle.character_rules.proofs.Found.{character_range, finds, found}

-- the character of a symbol at a disparity reads clean there, as that symbol, and ends where the writer does
pub reads_back : (s : Symbol) (d : ℤ) → s.byte < 256 → T (is_symbol s) → T (is_disparity d) → reading (character s d) d ≡ clean s (closing s d)
reads_back s d h i t =
    let r = character_range s d h i t in
    reading_done (character s d) d (omega arith) (T_true (is_disparity d) t)
    ∙ ap (λ (o : Option Symbol). result d o (first_with symbols (character s d) (neg_ℤ d))) (finds s d h i t)

-- what an answer that is clean was made of
only_clean : (d : ℤ) (o p : Option Symbol) (s : Symbol) (e : ℤ) → result d o p ≡ clean s e → (o ≡ some s) × (closing s d ≡ e)
only_clean d (some r) p s e k =
    let a : some r ≡ some s = ap (λ (x : Reading). x.symbol) k in
    let b : some (closing r d) ≡ some e = ap (λ (x : Reading). x.disparity) k in
    let q : r ≡ s = cc in
    let n : closing r d ≡ e = cc in
    (λ i. some (q i), ap (λ (x : Symbol). closing x d) (sym q) ∙ n)
only_clean d none (some r) s e k = let z : ◌≡◌ {A = ℕ} 2 0 = ap (λ (r : Reading). r.violation) k in absurd (omega arith)
only_clean d none none s e k = let z : ◌≡◌ {A = ℕ} 1 0 = ap (λ (r : Reading). r.violation) k in absurd (omega arith)

-- an answer that is clean was not refused
only_done : (far p : Bool) (done : Reading) (s : Symbol) (e : ℤ) → outcome (check 1 (far || not p) ∷ []) not_read done ≡ clean s e → T p × (done ≡ clean s e)
only_done true p done s e k = let z : ◌≡◌ {A = ℕ} 1 0 = ap (λ (r : Reading). r.refusal) k in absurd (omega arith)
only_done false true done s e k = (tt, k)
only_done false false done s e k = let z : ◌≡◌ {A = ℕ} 1 0 = ap (λ (r : Reading). r.refusal) k in absurd (omega arith)

-- a character that reads clean is that symbol's at that disparity, and ends where the writer does
reads_only : (c : ℕ) (d : ℤ) (s : Symbol) (e : ℤ) → reading c d ≡ clean s e → T (is_disparity d) × CodeGroup c d s × (closing s d ≡ e)
unfolding reading
reads_only c d s e h =
    let k = only_done (ltb 1023 c) (is_disparity d) (result d (first_with symbols c d) (first_with symbols c (neg_ℤ d))) s e h in
    let m = only_clean d (first_with symbols c d) (first_with symbols c (neg_ℤ d)) s e k.1 in
    (k.0, found c d s m.0, m.1)

pub exact : Exact reading
exact = record { has = λ c d s t g. subst (λ (n : ℕ). reading n d ≡ clean s (closing s d)) g.2 (reads_back s d g.0 g.1 t); only = reads_only }

-- ---- a character that is no code group at the disparity in force

-- the search finds nothing exactly where there is nothing
nothing : (c : ℕ) (d : ℤ) (o : Option Symbol) → first_with symbols c d ≡ o → ((r : Symbol) → CodeGroup c d r → ⊥) → o ≡ none
nothing c d none e n = refl
nothing c d (some r) e n = absurd (n r (found c d r e))

finds_group : (c : ℕ) (d : ℤ) (s : Symbol) → T (is_disparity d) → CodeGroup c d s → (c ≤ 1023) × (first_with symbols c d ≡ some s)
finds_group c d s t g =
    let r = character_range s d g.0 g.1 t in
    let e = g.2 in
    (omega arith, subst (λ (n : ℕ). first_with symbols n d ≡ some s) g.2 (finds s d g.0 g.1 t))

reads_other :
    (c : ℕ) (d : ℤ) (s : Symbol) → T (is_disparity d) → CodeGroup c (neg_ℤ d) s → ((r : Symbol) → CodeGroup c d r → ⊥)
    → reading c d ≡ wrong_disparity s (closing s (neg_ℤ d))
reads_other c d s t g n =
    let f = finds_group c (neg_ℤ d) s (opposite d t) g in
    reading_done c d f.0 (T_true (is_disparity d) t) ∙ ap₂ (result d) (nothing c d (first_with symbols c d) refl n) f.1

reads_neither :
    (c : ℕ) (d : ℤ) → c ≤ 1023 → T (is_disparity d) → ((r : Symbol) → CodeGroup c d r → ⊥) → ((r : Symbol) → CodeGroup c (neg_ℤ d) r → ⊥)
    → reading c d ≡ invalid d
reads_neither c d h t n m =
    reading_done c d h (T_true (is_disparity d) t)
    ∙ ap₂ (result d) (nothing c d (first_with symbols c d) refl n) (nothing c (neg_ℤ d) (first_with symbols c (neg_ℤ d)) refl m)

pub otherwise : Otherwise reading
otherwise = record { other = reads_other; neither = reads_neither }

-- ---- lists of symbols

pub can_byte : (s : Symbol) → T (can_write s) → s.byte < 256
can_byte s t = ltb→lt s.byte 256 (and_left (ltb s.byte 256) (is_writable s) t)

pub can_writable : (s : Symbol) → T (can_write s) → T (is_writable s)
can_writable s t = and_right (ltb s.byte 256) (is_writable s) t

pub can_symbol : (s : Symbol) → T (can_write s) → T (is_symbol s)
can_symbol s t = and_right (not (s.control && eqb s.byte 0xFC)) (is_symbol s) (can_writable s t)

-- what can be written is written
pub writes : (s : Symbol) (d : ℤ) → T (can_write s) → T (is_disparity d) → writing s d ≡ written (character s d) (closing s d)
writes s d h t = writing_done s d (T_true (is_disparity d) t) (T_true (is_writable s) (can_writable s h))

all_return : (ss : List Symbol) (d : ℤ) → T (all_of can_write ss) → T (is_disparity d) → Returns reading writing ss d
all_return [] d a t = tt
all_return (s ∷ ss) d a t =
    let h = and_left (can_write s) (all_of can_write ss) a in (
      character s d,
      closing s d,
      writes s d h t,
      reads_back s d (can_byte s h) (can_symbol s h) t,
      all_return ss (closing s d) (and_right (can_write s) (all_of can_write ss) a) (closing_disparity s d t),
    )

-- every list of writable symbols, from either disparity, reads back
pub round_trip : RoundTrip reading writing
round_trip = record { returns = all_return }
