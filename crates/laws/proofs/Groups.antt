-- Numbers of one width as a line of bits: there and back, and any part of the line as the two numbers that it lies in.
-- Assumes nothing.
use mathlib.Core.Path.{◌≡◌, refl, sym, ap, ap₂, ◌∙◌, subst}
use mathlib.Core.Bool.{Bool, ◌&&◌}
use mathlib.Core.List.{List, [], ◌∷◌, ◌++◌, append_assoc}
use Prim.Native.Nat.{ℕ, zero, suc, ◌+◌, ◌*◌, ◌/◌, ◌^◌, ◌≤◌, ◌<◌}
use native.Mathlib.Nat.{mod-eq_of_lt, mul-zero, not-suc-le-zero, le_of_suc-le-suc}
use native.Mathlib.Numerals.{add-one}
use native.Mathlib.Omega.{arith}
use lib.Dec.{T, ltb, ltb→lt, lt→ltb}
use lib.ListN.{length, take, drop, get_or, replicate, length-append, length-drop}
use lib.Seq.{take_at, drop_at, take-add, drop-drop, drop-nil, drop-cons, length-take-le, take-append-le, drop-append-le}
use Rattle.laws.specs.Bits.{bits}
use Rattle.laws.specs.Lists.{all_of}
use Rattle.laws.specs.Groups.{all_below, bits_of, number, numbers}
use Rattle.laws.proofs.Bools.{and_left, and_right, and_both}
use Rattle.laws.proofs.Bits.{length_bits, bits_below, number_bits, number_lt, bits_number, bits_append, drop_bits, take_bits}

-- what a test says of a whole list, it says of a part, and of two lists together
module _ {A : Type 0} (f : A → Bool) where
  pub all_append : (xs ys : List A) → T (all_of f xs) → T (all_of f ys) → T (all_of f (xs ++ ys))
  all_append [] ys t u = u
  all_append (x ∷ xs) ys t u = and_both (f x) (all_of f (xs ++ ys)) (and_left (f x) (all_of f xs) t) (all_append xs ys (and_right (f x) (all_of f xs) t) u)

  pub all_take : (n : ℕ) (xs : List A) → T (all_of f xs) → T (all_of f (take n xs))
  all_take zero xs t = tt
  all_take (suc n) [] t = tt
  all_take (suc n) (x ∷ xs) t = and_both (f x) (all_of f (take n xs)) (and_left (f x) (all_of f xs) t) (all_take n xs (and_right (f x) (all_of f xs) t))

  pub all_drop : (n : ℕ) (xs : List A) → T (all_of f xs) → T (all_of f (drop n xs))
  all_drop zero xs t = t
  all_drop (suc n) [] t = tt
  all_drop (suc n) (x ∷ xs) t = all_drop n xs (and_right (f x) (all_of f xs) t)

  pub all_replicate : (n : ℕ) (x : A) → T (f x) → T (all_of f (replicate n x))
  all_replicate zero x t = tt
  all_replicate (suc n) x t = and_both (f x) (all_of f (replicate n x)) t (all_replicate n x t)

  -- from place i on: what stands there, and the rest
  pub all_from : (d : A) (i : ℕ) (xs : List A) → i < length xs → all_of f (drop i xs) ≡ f (get_or xs i d) && all_of f (drop (i + 1) xs)
  all_from d i xs h = ap (all_of f) (drop-cons xs i d h) ∙ ap (λ (n : ℕ). f (get_or xs i d) && all_of f (drop n xs)) (sym (add-one i))

-- each of a list is below m, and so is what stands past its end
pub get_or_below : (m : ℕ) (ns : List ℕ) → 0 < m → T (all_below m ns) → (i : ℕ) → get_or ns i 0 < m
get_or_below m [] h t i = h
get_or_below m (n ∷ ns) h t zero = ltb→lt n m (and_left (ltb n m) (all_below m ns) t)
get_or_below m (n ∷ ns) h t (suc i) = get_or_below m ns h (and_right (ltb n m) (all_below m ns) t) i

pub below_at : (m : ℕ) (ns : List ℕ) → ((i : ℕ) → get_or ns i 0 < m) → T (all_below m ns)
below_at m [] h = tt
below_at m (n ∷ ns) h = and_both (ltb n m) (all_below m ns) (lt→ltb n m (h 0)) (below_at m ns (λ i. h (suc i)))

pub length_bits_of : (k : ℕ) (ns : List ℕ) → length (bits_of k ns) ≡ k * length ns
length_bits_of k [] = sym (mul-zero k)
length_bits_of k (n ∷ ns) = length-append (bits k n) (bits_of k ns) ∙ ap₂ ◌+◌ (length_bits k n) (length_bits_of k ns) ∙ omega arith

pub bits_of_below : (k : ℕ) (ns : List ℕ) → T (all_below 2 (bits_of k ns))
bits_of_below k [] = tt
bits_of_below k (n ∷ ns) = all_append (λ (b : ℕ). ltb b 2) (bits k n) (bits_of k ns) (bits_below k n) (bits_of_below k ns)

pub bits_of_append : (k : ℕ) (ms ns : List ℕ) → bits_of k (ms ++ ns) ≡ bits_of k ms ++ bits_of k ns
bits_of_append k [] ns = refl
bits_of_append k (m ∷ ms) ns = ap (λ (l : List ℕ). bits k m ++ l) (bits_of_append k ms ns) ∙ sym (append_assoc (bits k m) (bits_of k ms) (bits_of k ns))

-- the line without the first i numbers
pub bits_of_drop : (k i : ℕ) (ns : List ℕ) → drop (k * i) (bits_of k ns) ≡ bits_of k (drop i ns)
bits_of_drop k zero ns = ap (λ (j : ℕ). drop j (bits_of k ns)) (mul-zero k)
bits_of_drop k (suc i) [] = drop-nil (k * suc i)
bits_of_drop k (suc i) (n ∷ ns) =
    let e : k * suc i ≡ k + k * i = omega arith in
    ap (λ (j : ℕ). drop j (bits k n ++ bits_of k ns)) e
    ∙ sym (drop-drop (k * i) k (bits k n ++ bits_of k ns))
    ∙ ap (λ (l : List ℕ). drop (k * i) l) (drop_at (bits k n) (bits_of k ns) k (length_bits k n))
    ∙ bits_of_drop k i ns

pub length_numbers : (k n : ℕ) (bs : List ℕ) → length (numbers k n bs) ≡ n
length_numbers k zero bs = refl
length_numbers k (suc n) bs = ap suc (length_numbers k n (drop k bs))

-- number i is that of the k bits from bit k * i on
pub get_or_numbers : (k n : ℕ) (bs : List ℕ) (i : ℕ) → i < n → get_or (numbers k n bs) i 0 ≡ number (take k (drop (k * i) bs))
get_or_numbers k zero bs i h = absurd (not-suc-le-zero h)
get_or_numbers k (suc n) bs zero h = ap (λ (j : ℕ). number (take k (drop j bs))) (sym (mul-zero k))
get_or_numbers k (suc n) bs (suc i) h =
    let e : k + k * i ≡ k * suc i = omega arith in
    get_or_numbers k n (drop k bs) i (le_of_suc-le-suc h)
    ∙ ap (λ (l : List ℕ). number (take k l)) (drop-drop (k * i) k bs ∙ ap (λ (j : ℕ). drop j bs) e)

-- the line of the numbers of a line
pub bits_of_numbers : (k n : ℕ) (bs : List ℕ) → T (all_below 2 bs) → k * n ≤ length bs → bits_of k (numbers k n bs) ≡ take (k * n) bs
bits_of_numbers k zero bs t h = ap (λ (j : ℕ). take j bs) (sym (mul-zero k))
bits_of_numbers k (suc n) bs t h =
    let e : k + k * n ≡ k * suc n = omega arith in
    let l : length (take k bs) ≡ k = length-take-le k bs (omega arith) in
    ap₂ ◌++◌
    (ap (λ (j : ℕ). bits j (number (take k bs))) (sym l) ∙ bits_number (take k bs) (all_take (λ (b : ℕ). ltb b 2) k bs t))
    (bits_of_numbers k n (drop k bs) (all_drop (λ (b : ℕ). ltb b 2) k bs t) (simp length-drop (omega arith)))
    ∙ sym (take-add k (k * n) bs)
    ∙ ap (λ (j : ℕ). take j bs) e

-- the numbers of their line
pub numbers_bits_of : (k : ℕ) (ns rest : List ℕ) → T (all_below (2 ^ k) ns) → numbers k (length ns) (bits_of k ns ++ rest) ≡ ns
numbers_bits_of k [] rest t = refl
numbers_bits_of k (n ∷ ns) rest t =
    let a : bits k n ++ bits_of k ns ++ rest ≡ bits k n ++ (bits_of k ns ++ rest) = append_assoc (bits k n) (bits_of k ns) rest in
    ap₂ (λ (m : ℕ) (l : List ℕ). m ∷ l)
    (ap (λ (l : List ℕ). number (take k l)) a
    ∙ ap number (take_at (bits k n) (bits_of k ns ++ rest) k (length_bits k n))
    ∙ number_bits k n
    ∙ mod-eq_of_lt (ltb→lt n (2 ^ k) (and_left (ltb n (2 ^ k)) (all_below (2 ^ k) ns) t)))
    (ap (λ (l : List ℕ). numbers k (length ns) (drop k l)) a
    ∙ ap (λ (l : List ℕ). numbers k (length ns) l) (drop_at (bits k n) (bits_of k ns ++ rest) k (length_bits k n))
    ∙ numbers_bits_of k ns rest (and_right (ltb n (2 ^ k)) (all_below (2 ^ k) ns) t))

-- a number of k bits is below 2 ^ k
pub numbers_below : (k n : ℕ) (bs : List ℕ) → T (all_below 2 bs) → k * n ≤ length bs → T (all_below (2 ^ k) (numbers k n bs))
numbers_below k zero bs t h = tt
numbers_below k (suc n) bs t h =
    let l : length (take k bs) ≡ k = length-take-le k bs (omega arith) in
    and_both (ltb (number (take k bs)) (2 ^ k)) (all_below (2 ^ k) (numbers k n (drop k bs)))
    (lt→ltb (number (take k bs)) (2 ^ k) (subst (λ (j : ℕ). number (take k bs) < 2 ^ j) l (number_lt (take k bs) (all_take (λ (b : ℕ). ltb b 2) k bs t))))
    (numbers_below k n (drop k bs) (all_drop (λ (b : ℕ). ltb b 2) k bs t) (simp length-drop (omega arith)))

-- t bits from bit w * i + o of a line of numbers of w bits lie in numbers i and i + 1, with s bits after them
pub window : (w t i o s : ℕ) (ns : List ℕ) → i + 1 < length ns → get_or ns (i + 1) 0 < 2 ^ w → o + (t + s) ≡ w + w
    → take t (drop (w * i + o) (bits_of w ns)) ≡ bits t ((get_or ns i 0 * 2 ^ w + get_or ns (i + 1) 0) / 2 ^ s)
window w t i o s ns h g e =
    let a : ℕ = get_or ns i 0 in
    let b : ℕ = get_or ns (i + 1) 0 in
    let rest : List ℕ = bits_of w (drop (suc (i + 1)) ns) in
    let both : List ℕ = bits (w + w) (a * 2 ^ w + b) in
    let next : suc i ≡ i + 1 = omega arith in
    let cut : drop i ns ≡ a ∷ b ∷ drop (suc (i + 1)) ns =
    drop-cons ns i 0 (omega arith) ∙ ap (λ (j : ℕ). a ∷ drop j ns) next ∙ ap (λ (l : List ℕ). a ∷ l) (drop-cons ns (i + 1) 0 h) in
    let line : drop (w * i) (bits_of w ns) ≡ both ++ rest =
    bits_of_drop w i ns ∙ ap (bits_of w) cut ∙ sym (append_assoc (bits w a) (bits w b) rest) ∙ ap (λ (l : List ℕ). l ++ rest) (sym (bits_append w w a b g)) in
    let size : length both ≡ w + w = length_bits (w + w) (a * 2 ^ w + b) in
    ap (take t) (sym (drop-drop o (w * i) (bits_of w ns)) ∙ ap (drop o) line ∙ drop-append-le o both rest (omega arith))
    ∙ take-append-le t (drop o both) rest (simp length-drop (omega arith))
    ∙ ap (λ (j : ℕ). take t (drop o (bits j (a * 2 ^ w + b)))) (sym e)
    ∙ ap (take t) (drop_bits o (t + s) (a * 2 ^ w + b))
    ∙ take_bits t s (a * 2 ^ w + b)

-- the numbers of a line go by no bit after theirs
pub numbers_front : (k n : ℕ) (bs rest : List ℕ) → k * n ≤ length bs → numbers k n (bs ++ rest) ≡ numbers k n bs
numbers_front k zero bs rest h = refl
numbers_front k (suc n) bs rest h =
    let l : k ≤ length bs = omega arith in
    ap₂ (λ (m : ℕ) (l : List ℕ). m ∷ l)
    (ap number (take-append-le k bs rest l))
    (ap (numbers k n) (drop-append-le k bs rest l) ∙ numbers_front k n (drop k bs) rest (simp length-drop (omega arith)))
