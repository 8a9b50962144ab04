-- A run of characters, read one after the other into packed results.
use Rattle.std.specs.Prelude.{ℕ, ◌+◌, ◌*◌, ◌/◌, ◌%◌, Bool, cond, not, ◌||◌, List, [], ◌∷◌, ◌++◌, map, eqb, ltb, ℤ, length, drop}
use Rattle.std.proofs.Math.Option.{Option, none, some}
use Rattle.laws.specs.Lists.{all_of}
use Rattle.refusal.specs.Order.{Check, check, outcome, left}
use Rattle.symbol.specs.declared.Symbol.{Symbol}
use Rattle.character_rules.specs.Disparity.{is_plus, is_disparity, disparity_of}
use Rattle.character_rules.specs.Answers.{Reading, clean, wrong_disparity, invalid, RunReading, run_read, not_run_read}
use Rattle.character_rules.specs.Reading.{reading}

-- ---- a result as a number: the byte, 256 for control, 512 times the violation, 2,048 for a new disparity of +1

abbrev pub mark : Bool → ℕ
mark b = cond b 1 0

abbrev pub symbol_number : Option Symbol → ℕ
symbol_number none = 0
symbol_number (some s) = s.byte + 256 * mark s.control

abbrev pub disparity_number : Option ℤ → ℕ
disparity_number none = 0
disparity_number (some d) = mark (is_plus d)

unfoldable pub packed : Reading → ℕ
packed r = symbol_number r.symbol + 512 * (r.violation + 4 * disparity_number r.disparity)

-- and the number taken apart again
abbrev pub packed_symbol : ℕ → Symbol
packed_symbol n = record { byte = n % 256; control = eqb (n / 256 % 2) 1 }

abbrev pub packed_disparity : ℕ → ℤ
packed_disparity n = disparity_of (eqb (n / 2048 % 2) 1)

unfoldable pub unpacked : ℕ → Reading
unpacked n =
    cond (eqb (n / 512 % 4) 0) (clean (packed_symbol n) (packed_disparity n))
    (cond (eqb (n / 512 % 4) 1) (invalid (packed_disparity n)) (wrong_disparity (packed_symbol n) (packed_disparity n)))

-- ---- the run: each character is read at the disparity that the one before it gave

abbrev pub new_disparity : ℤ → Option ℤ → ℤ
new_disparity d none = d
new_disparity d (some e) = e

abbrev pub after_one : ℕ → ℤ → ℤ
after_one c d = new_disparity d (reading c d).disparity

abbrev pub readings_of : List ℕ → ℤ → List Reading
readings_of [] d = []
readings_of (c ∷ cs) d = reading c d ∷ readings_of cs (after_one c d)

abbrev pub run_results : List ℕ → ℤ → List ℕ
run_results cs d = map packed (readings_of cs d)

abbrev pub run_closing : List ℕ → ℤ → ℤ
run_closing [] d = d
run_closing (c ∷ cs) d = run_closing cs (after_one c d)

abbrev pub in_range : ℕ → Bool
in_range c = ltb c 1024

-- refusal 1: a number out of range; 6: the output is shorter than the run
abbrev pub run_checks : List ℕ → ℤ → ℕ → List Check
run_checks cs d room =
    check 1 (not (is_disparity d) || not (all_of in_range cs)) ∷ check 6 (ltb room (length cs)) ∷ []

unfoldable pub run_reading : List ℕ → ℤ → ℕ → RunReading
run_reading cs d room = outcome (run_checks cs d room) not_run_read (run_read (run_closing cs d))

-- what the lent output holds afterwards
unfoldable pub run_output : List ℕ → ℤ → List ℕ → List ℕ
run_output cs d out = left (run_checks cs d (length out)) out (run_results cs d ++ drop (length cs) out)
