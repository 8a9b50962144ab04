-- Document 01, "Retry": segments are numbered 0 to 15 and round; "the last eight really received" and "really released".
use Rattle.std.specs.Prelude.{ℕ, zero, suc, ◌+◌, ◌-◌, ◌%◌, min, Bool, true, cond, ◌&&◌, ltb, leb, eqb}

-- T columns, 1 to 65,535
abbrev pub time_allowed : ℕ → Bool
time_allowed t = ltb 0 t && leb t 65535

-- the number i segments after n
abbrev pub after : ℕ → ℕ → ℕ
after n i = (n + i) % 16

-- how many numbers lie between k and the number n that it stands before
abbrev pub between : ℕ → ℕ → ℕ
between k n = (n + 15 - k) % 16

-- k is one of the last so many numbers before n: it is the count of those that really were that judges, not the remainder alone
unfoldable pub among_last : ℕ → ℕ → ℕ → Bool
among_last count n k = ltb (between k n) count

-- one more of the last eight
abbrev pub one_more : ℕ → ℕ
one_more count = min (count + 1) 8

-- the rule of a number and the count of the last eight before it: from fresh, with fewer than eight the number is the count
unfoldable pub count_rule : ℕ → ℕ → Bool
count_rule n count = cond (ltb count 8) (eqb n count) (eqb count 8 && ltb n 16)

-- a test passes at each number below n
abbrev pub every_below : ℕ → (ℕ → Bool) → Bool
every_below zero f = true
every_below (suc n) f = every_below n f && f n
