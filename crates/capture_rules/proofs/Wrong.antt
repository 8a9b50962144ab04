-- Wrong packers and unpackers, each refused by what is asked of any.
-- Assumes nothing.
use mathlib.Core.Path.{◌≡◌, sym, ap, ◌∙◌}
use mathlib.Core.List.{List, [], ◌∷◌, ◌++◌, reverse}
use Prim.Native.Nat.{ℕ, zero, suc, ◌-◌, ◌*◌}
use native.Mathlib.Omega.{arith}
use lib.Dec.{lit≤}
use lib.ListN.{length, get_or, take, drop, replicate}
use Rattle.laws.specs.Bits.{bits}
use Rattle.laws.specs.Groups.{number}
use Rattle.capture_rules.specs.Capture.{byte_count}
use Rattle.capture_rules.specs.Calls.{Said, answered, refused, pack_says}
use Rattle.capture_rules.specs.Demands.{Call, Packable, Packs, RoundTrip}

-- the characters 0 and 1 may be packed
packable_0 : Packable (0 ∷ [])
packable_0 = record { few = lit≤ tt; small = tt }

packable_1 : Packable (1 ∷ [])
packable_1 = record { few = lit≤ tt; small = tt }

-- a packer that stores nothing
pub stores_nothing : Call
stores_nothing = record { answer = λ cs old. pack_says cs (length old); leaves = λ cs old. old }

pub stores_nothing_packs_not : Packs stores_nothing → ⊥
unfolding stores_nothing
stores_nothing_packs_not p =
    let bad : ◌≡◌ {A = ℕ} 0 1 = ap (λ (l : List ℕ). get_or l 9 0) (p.packed (1 ∷ []) (0 ∷ 0 ∷ []) packable_1 (lit≤ tt)).line in
    omega arith

-- it has no unpacker at all
pub stores_nothing_comes_back_not : (unpack : Call) → RoundTrip stores_nothing unpack → ⊥
unfolding stores_nothing
stores_nothing_comes_back_not unpack r =
    let b0 = r.back (0 ∷ []) (0 ∷ 0 ∷ []) (0 ∷ []) packable_0 (lit≤ tt) (lit≤ tt) in
    let b1 = r.back (1 ∷ []) (0 ∷ 0 ∷ []) (0 ∷ []) packable_1 (lit≤ tt) (lit≤ tt) in
    let bad : ◌≡◌ {A = ℕ} 0 1 = ap (λ (l : List ℕ). get_or l 0 0) (sym b0 ∙ b1) in
    omega arith

-- a packer that goes least significant bit first, in characters and in bytes
low_line : List ℕ → List ℕ
low_line [] = []
low_line (c ∷ cs) = reverse (bits 10 c) ++ low_line cs

low_bytes : ℕ → List ℕ → List ℕ
low_bytes zero bs = []
low_bytes (suc n) bs = number (reverse (take 8 bs)) ∷ low_bytes n (drop 8 bs)

pub low_first : Call
low_first = record {
  answer = λ cs old. pack_says cs (length old);
  leaves = λ cs old. low_bytes (byte_count (length cs)) (low_line cs ++ replicate (8 * byte_count (length cs) - 10 * length cs) 0) ++ drop (byte_count (length cs)) old;
}

pub low_first_packs_not : Packs low_first → ⊥
unfolding low_first low_bytes low_line
low_first_packs_not p =
    let bad : ◌≡◌ {A = ℕ} 1 0 = ap (λ (l : List ℕ). get_or l 7 0) (p.packed (1 ∷ []) (0 ∷ 0 ∷ []) packable_1 (lit≤ tt)).line in
    omega arith

-- an unpacker that refuses every capture, and one that gives one fixed character
pub refuses_all : Call
refuses_all = record { answer = λ capture room. refused 8; leaves = λ capture room. room }

pub refuses_all_comes_back_not : (pack : Call) → RoundTrip pack refuses_all → ⊥
unfolding refuses_all
refuses_all_comes_back_not pack r =
    let bad : ◌≡◌ {A = ℕ} 8 0 = ap (λ (s : Said). s.refusal) (r.there (0 ∷ []) (0 ∷ 0 ∷ []) (0 ∷ []) packable_0 (lit≤ tt) (lit≤ tt)) in
    omega arith

pub fixed : Call
fixed = record { answer = λ capture room. answered (length room); leaves = λ capture room. replicate (length room) 5 }

pub fixed_comes_back_not : (pack : Call) → RoundTrip pack fixed → ⊥
unfolding fixed
fixed_comes_back_not pack r =
    let bad : ◌≡◌ {A = ℕ} 5 0 = ap (λ (l : List ℕ). get_or l 0 0) (r.back (0 ∷ []) (0 ∷ 0 ∷ []) (0 ∷ []) packable_0 (lit≤ tt) (lit≤ tt)) in
    omega arith
