-- The twelve by five tests: the remainder by 32, and four bytes; and by two, where the four are a list.
-- Assumes nothing.
use mathlib.Core.Path.{◌≡◌, sym, ap, ◌∙◌}
use mathlib.Core.Bool.{Bool, ◌||◌}
use mathlib.Core.List.{[], ◌∷◌}
use Prim.Native.Nat.{ℕ, ◌%◌, ◌<◌}
use lib.Dec.{eqb}
use borrow.Author.Tests.{eq-eqb, ne_eqb}
use Rattle.std.specs.List.{list_any}
use Rattle.laws.specs.Lists.{count_from}
use Rattle.laws.proofs.Bools.{agree, agree_eq}
use Rattle.laws.proofs.Table.{at}
use Rattle.symbol.specs.Symbols.{is_twelve}

abbrev five_tests : ℕ → Bool
five_tests b = eqb (b % 32) 28 || (eqb b 0xF7 || (eqb b 0xFB || (eqb b 0xFD || eqb b 0xFE)))

test : ℕ → ℕ → Bool
test b x = agree (five_tests b) (is_twelve b)

pub by_tests : (b : ℕ) → b < 256 → five_tests b ≡ is_twelve b
unfolding test is_twelve
by_tests b h = agree_eq _ _ (at test (count_from 0 256) tt b h)

abbrev others : ℕ → Bool
others b = list_any (λ y. eqb y b) (0xF7 ∷ 0xFB ∷ 0xFD ∷ 0xFE ∷ [])

two : ℕ → ℕ → Bool
two b x = agree (eqb (b % 32) 28 || others b) (is_twelve b)

by_two : (b : ℕ) → b < 256 → eqb (b % 32) 28 || others b ≡ is_twelve b
unfolding two is_twelve
by_two b h = agree_eq _ _ (at two (count_from 0 256) tt b h)

pub by_remainder : (b : ℕ) → b < 256 → b % 32 ≡ 28 → eqb (b % 32) 28 ≡ is_twelve b
by_remainder b h e = let t = eq-eqb (b % 32) 28 e in t ∙ sym (ap (λ (k : Bool). k || others b) t) ∙ by_two b h

pub by_others : (b : ℕ) → b < 256 → (b % 32 ≡ 28 → ⊥) → others b ≡ is_twelve b
by_others b h e = sym (ap (λ (k : Bool). k || others b) (ne_eqb (b % 32) 28 e)) ∙ by_two b h
