-- The bits of a number and the number of some bits undo one another; a number's bits in two parts, and a part of them.
-- Assumes nothing.
use mathlib.Core.Path.{◌≡◌, refl, sym, ap, ap₂, ◌∙◌}
use mathlib.Core.List.{List, [], ◌∷◌, ◌++◌}
use Prim.Native.Nat.{ℕ, zero, suc, ◌+◌, ◌*◌, ◌/◌, ◌%◌, ◌^◌, ◌<◌}
use native.Mathlib.Nat.{zero-add, suc-add, add-suc, add-zero, mod-eq_of_lt, mod-one, mul-add-div, mul-add-mod_self_right}
use native.Mathlib.Omega.{arith}
use lib.Dec.{T, ltb, ltb→lt, lt→ltb}
use lib.ListN.{length, take, drop}
use lib.Pow.{pow_pos, pow-add, mod-pow-add, high, shr-shr}
use Rattle.laws.specs.Bits.{bits}
use Rattle.laws.specs.Groups.{all_below, number}
use Rattle.laws.proofs.Bools.{and_left, and_right, and_both}

pub length_bits : (k n : ℕ) → length (bits k n) ≡ k
length_bits zero n = refl
length_bits (suc k) n = ap suc (length_bits k n)

pub bits_below : (k n : ℕ) → T (all_below 2 (bits k n))
bits_below zero n = tt
bits_below (suc k) n = and_both (ltb (n / 2 ^ k % 2) 2) (all_below 2 (bits k n)) (lt→ltb (n / 2 ^ k % 2) 2 (omega arith)) (bits_below k n)

pub number_bits : (k n : ℕ) → number (bits k n) ≡ n % 2 ^ k
number_bits zero n = sym (mod-one n)
number_bits (suc k) n =
    ap₂ (λ (l r : ℕ). n / 2 ^ k % 2 * 2 ^ l + r) (length_bits k n) (number_bits k n)
    ∙ sym (mod-pow-add n 1 k)
    ∙ ap (λ (j : ℕ). n % 2 ^ j) (suc-add 0 k ∙ ap suc (zero-add k))

-- one bit more in front
more_lt : (b r l : ℕ) → b < 2 → r < 2 ^ l → b * 2 ^ l + r < 2 ^ suc l
more_lt zero r l h k = omega arith
more_lt (suc zero) r l h k = omega arith
more_lt (suc (suc b)) r l h k = absurd (omega arith)

head_lt : (m n : ℕ) (ns : List ℕ) → T (all_below m (n ∷ ns)) → n < m
head_lt m n ns t = ltb→lt n m (and_left (ltb n m) (all_below m ns) t)

tail_below : (m n : ℕ) (ns : List ℕ) → T (all_below m (n ∷ ns)) → T (all_below m ns)
tail_below m n ns t = and_right (ltb n m) (all_below m ns) t

pub number_lt : (bs : List ℕ) → T (all_below 2 bs) → number bs < 2 ^ length bs
number_lt [] t = omega arith
number_lt (b ∷ bs) t = more_lt b (number bs) (length bs) (head_lt 2 b bs t) (number_lt bs (tail_below 2 b bs t))

regroup : (a p q r : ℕ) → q ≡ 2 * r → a * (p * q) ≡ p * (a * r * 2)
regroup a p q r e = ap (λ (n : ℕ). a * (p * n)) e ∙ omega arith

-- what stands above the k lowest bits does not show in them
pub bits_low : (k j a r : ℕ) → bits k (a * 2 ^ (k + j) + r) ≡ bits k r
bits_low zero j a r = refl
bits_low (suc k) j a r =
    let e : suc k + j ≡ k + suc j = suc-add k j ∙ sym (add-suc k j) in
    let f : a * 2 ^ (suc k + j) ≡ 2 ^ k * (a * 2 ^ j * 2) = ap (λ (n : ℕ). a * 2 ^ n) e ∙ ap (λ (n : ℕ). a * n) (pow-add 2 k (suc j))
    ∙ regroup a (2 ^ k) (2 ^ suc j) (2 ^ j) (omega arith) in
    let g : (a * 2 ^ (suc k + j) + r) / 2 ^ k ≡ a * 2 ^ j * 2 + r / 2 ^ k = ap (λ (n : ℕ). (n + r) / 2 ^ k) f ∙ mul-add-div (pow_pos k) (a * 2 ^ j * 2) r in
    ap₂ (λ (h : ℕ) (t : List ℕ). h ∷ t)
    (ap (λ (n : ℕ). n % 2) g ∙ mul-add-mod_self_right (a * 2 ^ j) 2 (r / 2 ^ k))
    (ap (λ (n : ℕ). bits k (a * 2 ^ n + r)) e ∙ bits_low k (suc j) a r)

pub bits_number : (bs : List ℕ) → T (all_below 2 bs) → bits (length bs) (number bs) ≡ bs
bits_number [] t = refl
bits_number (b ∷ bs) t =
    ap₂ (λ (h : ℕ) (t : List ℕ). h ∷ t)
    (ap (λ (n : ℕ). n % 2) (high b (length bs) (number_lt bs (tail_below 2 b bs t))) ∙ mod-eq_of_lt (head_lt 2 b bs t))
    (ap (λ (n : ℕ). bits (length bs) (b * 2 ^ n + number bs)) (sym (add-zero (length bs))) ∙ bits_low (length bs) 0 b (number bs) ∙ bits_number bs (tail_below 2 b bs t))

-- a number of j + k bits is j bits and then k
pub bits_append : (j k x y : ℕ) → y < 2 ^ k → bits (j + k) (x * 2 ^ k + y) ≡ bits j x ++ bits k y
bits_append zero k x y h =
    ap (λ (n : ℕ). bits n (x * 2 ^ k + y)) (zero-add k)
    ∙ ap (λ (n : ℕ). bits k (x * 2 ^ n + y)) (sym (add-zero k))
    ∙ bits_low k 0 x y
bits_append (suc j) k x y h =
    ap (λ (n : ℕ). bits n (x * 2 ^ k + y)) (suc-add j k)
    ∙ ap₂ (λ (h : ℕ) (t : List ℕ). h ∷ t)
    (ap (λ (n : ℕ). n % 2) (ap (λ (n : ℕ). (x * 2 ^ k + y) / 2 ^ n) (omega arith) ∙ sym (shr-shr (x * 2 ^ k + y) k j) ∙ ap (λ (n : ℕ). n / 2 ^ j) (high x k h)))
    (bits_append j k x y h)

-- the bits after the first o, and the first t of them
pub drop_bits : (o k n : ℕ) → drop o (bits (o + k) n) ≡ bits k n
drop_bits zero k n = ap (λ (j : ℕ). bits j n) (zero-add k)
drop_bits (suc o) k n = ap (λ (j : ℕ). drop (suc o) (bits j n)) (suc-add o k) ∙ drop_bits o k n

pub take_bits : (t k n : ℕ) → take t (bits (t + k) n) ≡ bits t (n / 2 ^ k)
take_bits zero k n = refl
take_bits (suc t) k n =
    ap (λ (j : ℕ). take (suc t) (bits j n)) (suc-add t k)
    ∙ ap₂ (λ (h : ℕ) (l : List ℕ). h ∷ l)
    (ap (λ (m : ℕ). m % 2) (ap (λ (j : ℕ). n / 2 ^ j) (omega arith) ∙ sym (shr-shr n k t)))
    (take_bits t k n)
