-- What is written in two parts is written in one; and one character stored.
-- Assumes nothing.
use mathlib.Core.Path.{◌≡◌, refl, sym, ap, ap₂, ◌∙◌, subst}
use mathlib.Core.Option.{some-injective}
use mathlib.Core.List.{List, [], ◌∷◌, ◌++◌, append_assoc}
use Prim.Native.Nat.{ℕ, ◌+◌, ◌≤◌, ◌<◌}
use native.Mathlib.Nat.{add_assoc, add-zero}
use native.Mathlib.Numerals.{add-one}
use native.Mathlib.Omega.{arith}
use lib.Dec.{T}
use lib.IntN.{ℤ}
use lib.ListN.{length, set, take, drop, length-append, take-append-drop}
use lib.Seq.{set_split, take_at, drop_at, drop-drop, length-take-le}
use Rattle.std.specs.Prelude.{Result, Ok, Err}
use Rattle.std.specs.Result.{IsOk}
use Rattle.refusal.specs.declared.Refusal.{Refusal}
use Rattle.refusal.specs.Order.{number_of}
use Rattle.symbol.specs.declared.Symbol.{Symbol}
use Rattle.laws.proofs.Cases.{some_is_not_none}
use Rattle.character_rules.specs.Disparity.{is_disparity}
use Rattle.character_rules.specs.Blocks.{character, closing}
use Rattle.character_rules.specs.declared.Encoded.{Encoded}
use Rattle.character_rules.specs.Answers.{Writing, written, not_written, writing_says}
use Rattle.character_rules.specs.Writing.{writing, characters_of, closing_of}
use Rattle.character_rules.specs.Demand.{can_write}
use Rattle.character_rules.proofs.Trip.{writes}
use Rattle.character_rules.proofs.WriteLaws.{closing_is, length_characters, characters_append, closes_append}
use Rattle.packet_rules.specs.declared.Written.{Written}
use Rattle.packet_writer.specs.Writing.{Wrote}

pub wrote_none : (p : Written) (old : List ℕ) → Wrote p [] old old p
unfolding characters_of closing_of
wrote_none p old =
    record {
      line = sym (rw (add-zero) (take-append-drop p.count old));
      next = ap (λ (n : ℕ). record { count = n; disparity = p.disparity }) (sym (add-zero p.count));
    }

-- two parts of lists, one after the other
paste_paste : (a i j : ℕ) (l m old mid : List ℕ) → a + i ≤ length old → length l ≡ i → mid ≡ take a old ++ (l ++ drop (a + i) old)
    → take (a + i) mid ++ (m ++ drop (a + i + j) mid) ≡ take a old ++ ((l ++ m) ++ drop (a + (i + j)) old)
paste_paste a i j l m old mid h el e =
    let n : length (take a old ++ l) ≡ a + i = length-append (take a old) l ∙ ap₂ ◌+◌ (length-take-le a old (omega arith)) el in
    let e' : mid ≡ (take a old ++ l) ++ drop (a + i) old = e ∙ sym (append_assoc (take a old) l (drop (a + i) old)) in
    let t : take (a + i) mid ≡ take a old ++ l = ap (take (a + i)) e' ∙ take_at (take a old ++ l) (drop (a + i) old) (a + i) n in
    let u : drop (a + i) mid ≡ drop (a + i) old = ap (drop (a + i)) e' ∙ drop_at (take a old ++ l) (drop (a + i) old) (a + i) n in
    let v : drop (a + i + j) mid ≡ drop (a + (i + j)) old =
    sym (drop-drop j (a + i) mid) ∙ ap (drop j) u ∙ drop-drop j (a + i) old ∙ ap (λ (k : ℕ). drop k old) (add_assoc a i j) in
    ap₂ (λ (x y : List ℕ). x ++ (m ++ y)) t v
    ∙ append_assoc (take a old) l (m ++ drop (a + (i + j)) old)
    ∙ ap (λ (x : List ℕ). take a old ++ x) (sym (append_assoc l m (drop (a + (i + j)) old)))

then : (p : Written) {s : Written} (xs ys : List Symbol) {old mid new : List ℕ} → p.count + length xs ≤ length old
    → mid ≡ take p.count old ++ (characters_of xs p.disparity ++ drop (p.count + length xs) old)
    → Wrote (record { count = p.count + length xs; disparity = closing_of xs p.disparity }) ys mid new s → Wrote p (xs ++ ys) old new s
then p {s} xs ys {old} {mid} {new} h e v =
    let d = p.disparity in
    record {
      line = v.line ∙ paste_paste p.count (length xs) (length ys) (characters_of xs d) (characters_of ys (closing_of xs d)) old mid h (length_characters xs d) e
          ∙ ap₂ (λ (x : List ℕ) (k : ℕ). take p.count old ++ (x ++ drop (p.count + k) old)) (sym (characters_append xs ys d)) (sym (length-append xs ys));
      next = v.next ∙ ap₂ (λ (n : ℕ) (z : ℤ). record { count = n; disparity = z })
          (add_assoc p.count (length xs) (length ys) ∙ ap (λ (k : ℕ). p.count + k) (sym (length-append xs ys))) (sym (closes_append xs ys d));
    }

pub wrote_more : {p q s : Written} {xs ys : List Symbol} {old mid new : List ℕ}
    → Wrote p xs old mid q → Wrote q ys mid new s → p.count + length xs ≤ length old → Wrote p (xs ++ ys) old new s
wrote_more {p} {q} {s} {xs} {ys} {old} {mid} {new} w v h =
    then p xs ys h w.line (subst (λ (x : Written). Wrote x ys mid new s) w.next v)

-- where the writing closes is a disparity again
pub wrote_disparity : {p q : Written} {xs : List Symbol} {old new : List ℕ} → Wrote p xs old new q → T (is_disparity p.disparity) → T (is_disparity q.disparity)
wrote_disparity {p} {q} {xs} w t = subst (λ (x : Written). T (is_disparity x.disparity)) (sym w.next) (closing_is xs p.disparity t)

-- one character stored
pub wrote_one : (p : Written) (x : Symbol) (old new : List ℕ) (q : Written) → p.count < length old
    → new ≡ set old p.count (character x p.disparity) → q.count ≡ p.count + 1 → q.disparity ≡ closing x p.disparity → Wrote p (x ∷ []) old new q
unfolding characters_of closing_of
wrote_one p x old new q h e a z =
    record {
      line = e ∙ set_split old p.count (character x p.disparity) h
          ∙ ap (λ (k : ℕ). take p.count old ++ (character x p.disparity ∷ drop k old)) (sym (add-one p.count));
      next = ap₂ (λ (n : ℕ) (y : ℤ). record { count = n; disparity = y }) a z;
    }

-- ---- what the character writer answers where it can write

module _ (x : Symbol) (d : ℤ) (can : T (can_write x)) (t : T (is_disparity d)) where
  pub wrote_character : (c : ℕ) (e : ℤ) → written c e ≡ writing x d → c ≡ character x d
  wrote_character c e q = some-injective _ _ (ap (λ (w : Writing). w.character) (q ∙ writes x d can t))

  pub wrote_closing : (c : ℕ) (e : ℤ) → written c e ≡ writing x d → e ≡ closing x d
  wrote_closing c e q = some-injective _ _ (ap (λ (w : Writing). w.disparity) (q ∙ writes x d can t))

  pub not_refused : (n : ℕ) → not_written n ≡ writing x d → ⊥
  not_refused n q = some_is_not_none (sym (ap (λ (w : Writing). w.character) (q ∙ writes x d can t)))

  -- so it was not
  pub never_refused : (a : Result Encoded Refusal) → writing_says a ≡ writing x d → IsOk a
  never_refused (Ok w) q = refl
  never_refused (Err r) q = absurd (not_refused (number_of r) q)
