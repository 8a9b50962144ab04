-- Document 01, "Numbered refusals": which number a call is refused with, and what a refused call leaves.
use Rattle.std.specs.Prelude.{ℕ, Bool, false, cond, ◌||◌, List, [], ◌∷◌, eqb, map, Result, Ok, Err}
use Rattle.refusal.specs.declared.Refusal.{Refusal}
use Rattle.refusal.specs.declared.Refusal.TheVariants.{OutOfRange, SegmentSize, NotWritable, NoBytes, Full, ShortOutput, LinkDown, BadCapture}

-- each refusal's number in the table
abbrev pub number_of : Refusal → ℕ
number_of OutOfRange = 1
number_of SegmentSize = 2
number_of NotWritable = 3
number_of NoBytes = 4
number_of Full = 5
number_of ShortOutput = 6
number_of LinkDown = 7
number_of BadCapture = 8

abbrev pub order_says : List Refusal → List ℕ
order_says rs = map number_of rs

-- the number that an answer is refused with; 0: it is not refused
abbrev pub refusal_says : {A : Type 0} → Result A Refusal → ℕ
refusal_says (Ok x) = 0
refusal_says (Err r) = number_of r

-- order: 7 first, then 8, then 1 to 6
abbrev pub order : List ℕ
order = 7 ∷ 8 ∷ 1 ∷ 2 ∷ 3 ∷ 4 ∷ 5 ∷ 6 ∷ []

-- a line of the table for one call: a number, and whether it is to be given
pub record Check : Type 0 where
  pub number : ℕ
  pub applies : Bool

abbrev pub check : ℕ → Bool → Check
check n b = record { number = n; applies = b }

-- some line with the number n applies
abbrev pub given : ℕ → List Check → Bool
given n [] = false
given n (c ∷ cs) = cond (eqb n c.number) (given n cs || c.applies) (given n cs)

-- the first of some numbers that is given, and 0 where none is
abbrev pub first_of : List ℕ → List Check → ℕ
first_of [] cs = 0
first_of (n ∷ ns) cs = cond (given n cs) n (first_of ns cs)

-- the number that a call with these checks is refused with; 0: it is not refused
abbrev pub refusal_of : List Check → ℕ
refusal_of cs = first_of order cs

-- what a call comes to: its work, or what is made of the refusal's number
abbrev pub outcome : {A : Type 0} → List Check → (ℕ → A) → A → A
outcome cs refused done = cond (eqb (refusal_of cs) 0) done (refused (refusal_of cs))

-- what a call leaves of a thing that it was given or lent: what its work makes of it, or the thing as it stood
abbrev pub left : {A : Type 0} → List Check → A → A → A
left cs old new = outcome cs (λ n. old) new
