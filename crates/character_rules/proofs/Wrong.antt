-- Programs that are wrong, written down, and shown not to satisfy demand 2, whatever stands at the other end.
-- Assumes nothing.
use mathlib.Core.Path.{◌≡◌, refl, sym, ◌∙◌, ap, ap₂}
use mathlib.Core.Bool.{Bool, true, false, cond, not, ◌&&◌}
use mathlib.Core.List.{List, [], ◌∷◌}
use mathlib.Core.Option.{none, some}
use Prim.Native.Nat.{ℕ, ◌+◌, ◌*◌, ◌%◌, ◌/◌, ◌<◌, ◌≤◌}
use native.Mathlib.Omega.{arith}
use lib.Dec.{T, eqb, lit<}
use lib.IntN.{ℤ, pos, negsuc}
use borrow.Author.Tests.{eq-eqb, ne_eqb}
use Rattle.laws.specs.Lists.{all_of}
use Rattle.laws.proofs.Bools.{and_left, and_right}
use Rattle.laws.proofs.Cases.{some_is_not_none}
use Rattle.symbol.specs.Symbols.{byte_of, data_symbol, control_symbol, is_twelve, is_symbol}
use Rattle.symbol.specs.declared.Symbol.{Symbol}
use Rattle.character_rules.specs.Disparity.{is_plus}
use Rattle.character_rules.specs.Blocks.{six_blocks, four_blocks, control_four_blocks, turned, six_block, four_by_list, four_block, first_block, between, second_block, character, closing}
use Rattle.character_rules.specs.Answers.{Writing, written, Reading, clean, invalid}
use Rattle.character_rules.specs.Writing.{writing}
use Rattle.character_rules.specs.Reading.{symbols, first_with, result, reading}
use Rattle.character_rules.specs.Demand.{Writer, Reader, can_write, Returns, RoundTrip, Exact, Balanced, DemandTwo}
use Rattle.character_rules.proofs.Trip.{can_byte}

-- what the round trip says of one data symbol at −1
module _ (reader : Reader) (writer : Writer) (r : RoundTrip reader writer) where
  one :
      (b : ℕ) → T (all_of can_write (data_symbol b ∷ []))
      → (c : ℕ) × (e : ℤ) × (writer (data_symbol b) (negsuc 0) ≡ written c e) × (reader c (negsuc 0) ≡ clean (data_symbol b) e)
  one b t = let p = r.returns (data_symbol b ∷ []) (negsuc 0) t tt in (p.0, p.1, p.2, p.3)

-- a reader that finds every character invalid
abbrev pub finds_invalid : Reader
finds_invalid c d = invalid d

pub finds_invalid_refuted : (writer : Writer) → RoundTrip finds_invalid writer → ⊥
finds_invalid_refuted writer r =
    let p = one finds_invalid writer r 0 tt in
    let z : ◌≡◌ {A = ℕ} 1 0 = ap (λ (x : Reading). x.violation) p.3 in
    omega arith

-- a decoder with one fixed symbol, whatever disparity it says
abbrev pub fixed_symbol : Symbol → (ℕ → ℤ → ℤ) → Reader
fixed_symbol s after c d = clean s (after c d)

pub fixed_symbol_refuted : (s : Symbol) (after : ℕ → ℤ → ℤ) (writer : Writer) → RoundTrip (fixed_symbol s after) writer → ⊥
fixed_symbol_refuted s after writer r =
    let p = one (fixed_symbol s after) writer r 0 tt in
    let q = one (fixed_symbol s after) writer r 1 tt in
    let a : some s ≡ some (data_symbol 0) = ap (λ (x : Reading). x.symbol) p.3 in
    let b : some s ≡ some (data_symbol 1) = ap (λ (x : Reading). x.symbol) q.3 in
    let e : data_symbol 0 ≡ data_symbol 1 = cc in
    let z : ◌≡◌ {A = ℕ} 0 1 = ap (λ (x : Symbol). x.byte) e in
    omega arith

-- a writer that stores nothing
abbrev pub stores_nothing : Writer
stores_nothing s d = record { refusal = 0; character = none; disparity = some d }

pub stores_nothing_refuted : (reader : Reader) → RoundTrip reader stores_nothing → ⊥
stores_nothing_refuted reader r =
    let p = one reader stores_nothing r 0 tt in
    some_is_not_none (sym (ap (λ (x : Writing). x.character) p.2))

-- a writer that always stores the same character, whatever disparity it says
abbrev pub same_character : ℕ → (Symbol → ℤ → ℤ) → Writer
same_character c after s d = written c (after s d)

pub same_character_refuted : (c : ℕ) (after : Symbol → ℤ → ℤ) (reader : Reader) → RoundTrip reader (same_character c after) → ⊥
same_character_refuted c after reader r =
    let p = one reader (same_character c after) r 0 tt in
    let q = one reader (same_character c after) r 1 tt in
    let a : some c ≡ some p.0 = ap (λ (x : Writing). x.character) p.2 in
    let b : some c ≡ some q.0 = ap (λ (x : Writing). x.character) q.2 in
    let m : p.0 ≡ q.0 = cc in
    let e : clean (data_symbol 0) p.1 ≡ clean (data_symbol 1) q.1 = sym p.3 ∙ ap (λ (n : ℕ). reader n (negsuc 0)) m ∙ q.3 in
    let f : some (data_symbol 0) ≡ some (data_symbol 1) = ap (λ (x : Reading). x.symbol) e in
    let g : data_symbol 0 ≡ data_symbol 1 = cc in
    let z : ◌≡◌ {A = ℕ} 0 1 = ap (λ (x : Symbol). x.byte) g in
    omega arith

-- a writer that chooses the four-bit block at the character's start disparity
abbrev pub four_at_start : Symbol → ℤ → ℕ
four_at_start s d = four_block s.control (s.byte % 32) (s.byte / 32) (is_plus d)

abbrev pub chooses_at_start : Writer
chooses_at_start s d = written (first_block s d * 16 + four_at_start s d) (turned 2 (four_at_start s d) (between s d))

-- D0.0 twice from −1 reaches a balance of four at the eleventh bit
pub chooses_at_start_refuted : Balanced chooses_at_start → ⊥
unfolding six_blocks four_blocks control_four_blocks six_block four_by_list four_block first_block between
chooses_at_start_refuted b = b.within (data_symbol 0 ∷ data_symbol 0 ∷ []) (negsuc 0) tt tt 11

-- a reader that takes a character of either column for clean
abbrev pub ignores_disparity : Reader
ignores_disparity c d = result d (first_with symbols c (pos 1)) (first_with symbols c (negsuc 0))

-- 011000 1011 is D0.0 at +1, and no code group at −1
pub ignores_disparity_refuted : Exact ignores_disparity → ⊥
unfolding six_blocks four_blocks control_four_blocks six_block four_by_list four_block first_block between second_block character closing symbols
ignores_disparity_refuted x =
    let f = x.only 0b0110001011 (negsuc 0) (data_symbol 0) (closing (data_symbol 0) (negsuc 0)) refl in
    let z : ◌≡◌ {A = ℕ} (character (data_symbol 0) (negsuc 0)) 0b0110001011 = f.1.2 in
    omega arith

-- a reader that gives every symbol as data, whatever byte and disparity it says
abbrev pub loses_the_mark : (ℕ → ℤ → ℕ) → (ℕ → ℤ → ℤ) → Reader
loses_the_mark byte after c d = clean (data_symbol (byte c d)) (after c d)

k28_5_can : T (all_of can_write (control_symbol (byte_of 28 5) ∷ []))
unfolding is_twelve
k28_5_can = tt

pub loses_the_mark_refuted : (byte : ℕ → ℤ → ℕ) (after : ℕ → ℤ → ℤ) (writer : Writer) → RoundTrip (loses_the_mark byte after) writer → ⊥
loses_the_mark_refuted byte after writer r =
    let k = control_symbol (byte_of 28 5) in
    let p = r.returns (k ∷ []) (negsuc 0) k28_5_can tt in
    let a : some (data_symbol (byte p.0 (negsuc 0))) ≡ some k = ap (λ (x : Reading). x.symbol) p.3 in
    let b : data_symbol (byte p.0 (negsuc 0)) ≡ k = cc in
    let e : false ≡ true = ap (λ (x : Symbol). x.control) b in
    let z : ◌≡◌ {A = ℕ} 0 1 = ap (λ (x : Bool). cond x 1 0) e in
    omega arith

-- a reader that finds K28.7 invalid, since no writer may be asked for it, and reads all else by the rules
abbrev pub finds_k28_7_invalid : Reader
finds_k28_7_invalid c d = cond (eqb c 0b0011111000) (invalid d) (reading c d)

k28_7_code : ((control_symbol (byte_of 28 7)).byte < 256) × T (is_symbol (control_symbol (byte_of 28 7))) × (character (control_symbol (byte_of 28 7)) (negsuc 0) ≡ 0b0011111000)
unfolding is_twelve six_blocks four_blocks control_four_blocks six_block four_by_list four_block first_block between second_block character
k28_7_code = (lit< tt, tt, refl)

pub finds_k28_7_invalid_refuted : Exact finds_k28_7_invalid → ⊥
finds_k28_7_invalid_refuted x =
    let e = x.has 0b0011111000 (negsuc 0) (control_symbol (byte_of 28 7)) tt k28_7_code in
    let z : ◌≡◌ {A = ℕ} 1 0 = ap (λ (r : Reading). r.violation) e in
    omega arith

-- a writer whose six-bit block for x = 7 is the same at both disparities, and all else by the rules
abbrev pub seven_the_same : Writer
seven_the_same s d =
    cond (not s.control && eqb (s.byte % 32) 7) (written (0b111000 * 16 + second_block s d) (closing s d)) (writing s d)

-- D17.7, D7.0 from −1: 100011 0111, 111000 0100 has six ones running
pub seven_the_same_refuted : Balanced seven_the_same → ⊥
unfolding writing six_blocks four_blocks control_four_blocks six_block four_by_list four_block first_block between second_block character closing
seven_the_same_refuted b =
    let z : 6 ≤ 5 =
    b.runs (data_symbol (byte_of 17 7) ∷ data_symbol (byte_of 7 0) ∷ []) (negsuc 0) tt tt
    (1 ∷ 0 ∷ 0 ∷ 0 ∷ 1 ∷ 1 ∷ 0 ∷ []) 6 1 (0 ∷ 0 ∷ 0 ∷ 0 ∷ 1 ∷ 0 ∷ 0 ∷ []) refl in
    omega arith

-- a writer and a reader with a code of their own, the byte's bits as they are: what is written comes back
abbrev pub plain_write : Writer
plain_write s d = written (cond s.control 256 0 + s.byte) d

abbrev pub plain_read : Reader
plain_read c d = clean (record { byte = c % 256; control = eqb (c / 256) 1 }) d

plain_back : (control : Bool) (b : ℕ) (d : ℤ) → b < 256 → plain_read (cond control 256 0 + b) d ≡ clean (record { byte = b; control = control }) d
plain_back true b d h =
    let m : (256 + b) % 256 ≡ b = omega arith in
    ap₂ (λ (n : ℕ) (k : Bool). clean (record { byte = n; control = k }) d) m (eq-eqb ((256 + b) / 256) 1 (omega arith))
plain_back false b d h =
    let m : (0 + b) % 256 ≡ b = omega arith in
    ap₂ (λ (n : ℕ) (k : Bool). clean (record { byte = n; control = k }) d) m (ne_eqb ((0 + b) / 256) 1 (omega arith))

plain_all : (ss : List Symbol) (d : ℤ) → T (all_of can_write ss) → Returns plain_read plain_write ss d
plain_all [] d a = tt
plain_all (s ∷ ss) d a =
    let h = can_byte s (and_left (can_write s) (all_of can_write ss) a) in
    (cond s.control 256 0 + s.byte, d, refl, plain_back s.control s.byte d h, plain_all ss d (and_right (can_write s) (all_of can_write ss) a))

pub plain_returns : RoundTrip plain_read plain_write
plain_returns = record { returns = λ ss d a t. plain_all ss d a }

-- but not all of demand 2 holds: D0.0 is ten zeros
pub plain_refuted : (reader : Reader) → DemandTwo reader plain_write → ⊥
plain_refuted reader t = t.balanced.within (data_symbol 0 ∷ []) (negsuc 0) tt tt 10
