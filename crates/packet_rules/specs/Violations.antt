-- The ten violations, each by a condition of its own; where several fit, the lowest.
use Rattle.std.specs.Prelude.{ℕ, suc, Bool, true, false, cond, not, ◌&&◌, List, [], ◌∷◌, eqb, leb, get_or, Some, None}
use Rattle.std.specs.Int.Bits.{bit_xor}
use Rattle.character_rules.specs.Answers.{Reading}
use Rattle.crc.specs.Crc16.{check_bytes_of}
use Rattle.packet_rules.specs.declared.Opener.TheVariants.{Sdp, Spp, Slp}
use Rattle.packet_rules.specs.declared.Kind.{Kind}
use Rattle.packet_rules.specs.declared.Kind.TheVariants.{Data, Idl, Com, Opens, Closes, NoPlace, Unsupported}
use Rattle.packet_rules.specs.Open.{OpenData, OpenPriority}
use Rattle.packet_rules.specs.declared.Due.{Due}
use Rattle.packet_rules.specs.declared.Due.TheVariants.{Channel, Opening, Closing, FirstCrc, SecondCrc, LmpType, LmpNumber, LmpCheck}
use Rattle.packet_rules.specs.declared.Phase.{Phase}
use Rattle.packet_rules.specs.declared.Phase.TheVariants.{Free, Next, Idles, Dropping}
use Rattle.packet_rules.specs.declared.Reader.{Reader}
use Rattle.packet_rules.specs.State.{no_priority, outside, has_byte, opening_byte, register_in}
use Rattle.packet_rules.specs.Symbols.{is_idl, is_unsupported, is_end, is_data}

-- where no sequence is begun
abbrev pub free : Phase → Bool → Bool
free Free holds = holds
free (Next due) holds = false
free (Idles n) holds = false
free Dropping holds = false

-- where a byte is due
abbrev pub due : Phase → (Due → Bool) → Bool
due Free holds = false
due (Next d) holds = holds d
due (Idles n) holds = false
due Dropping holds = false

-- ---- 4: who may not stand where

-- neither kind stands in its own kind, nor data in priority; an end belongs to a packet; ALN, SUP, CDP and CPP never
abbrev pub may_not_stand : Kind → OpenData → OpenPriority → Bool
may_not_stand (Data b) d p = false
may_not_stand Idl d p = false
may_not_stand Com d p = false
may_not_stand (Opens Sdp) d p = not (outside d p)
may_not_stand (Opens Spp) d p = not (no_priority p)
may_not_stand (Opens Slp) d p = false
may_not_stand (Closes bad) d p = outside d p
may_not_stand NoPlace d p = true
may_not_stand Unsupported d p = false

-- and no sequence is broken into: a byte that is due is data, and after COM it is IDL
abbrev pub out_of_place : Phase → Kind → OpenData → OpenPriority → Bool
out_of_place Free k d p = may_not_stand k d p
out_of_place (Next due) k d p = not (is_data k (λ b. true))
out_of_place (Idles n) k d p = not (is_idl k)
out_of_place Dropping k d p = false

-- ---- 5, 6, 7: a due byte that is not the one that it must be

abbrev pub closing_differs : ℕ → Due → ℕ → Bool
closing_differs opening Channel b = false
closing_differs opening Opening b = false
closing_differs opening (Closing bad) b = not (eqb b opening)
closing_differs opening (FirstCrc bad) b = false
closing_differs opening (SecondCrc bad a) b = false
closing_differs opening LmpType b = false
closing_differs opening (LmpNumber t) b = false
closing_differs opening (LmpCheck t n) b = false

-- the two bytes are compared with what a writer would place
abbrev pub right_crc : ℕ → ℕ → ℕ → Bool
right_crc register a b = eqb a (get_or (check_bytes_of register) 0 0) && eqb b (get_or (check_bytes_of register) 1 0)

abbrev pub crc_differs : ℕ → Due → ℕ → Bool
crc_differs register Channel b = false
crc_differs register Opening b = false
crc_differs register (Closing bad) b = false
crc_differs register (FirstCrc bad) b = false
crc_differs register (SecondCrc bad a) b = not (right_crc register a b)
crc_differs register LmpType b = false
crc_differs register (LmpNumber t) b = false
crc_differs register (LmpCheck t n) b = false

-- the manual's BIP-8: the exclusive-or of the two bytes before it
abbrev pub lmp_differs : Due → ℕ → Bool
lmp_differs Channel b = false
lmp_differs Opening b = false
lmp_differs (Closing bad) b = false
lmp_differs (FirstCrc bad) b = false
lmp_differs (SecondCrc bad a) b = false
lmp_differs LmpType b = false
lmp_differs (LmpNumber t) b = false
lmp_differs (LmpCheck t n) b = not (eqb b (bit_xor t n))

-- ---- 10: S bytes have come
abbrev pub is_full : ℕ → OpenPriority → Bool
is_full s None = false
is_full s (Some inner) = leb s inner.count

-- ---- 3 to 10, and all ten, in their order

abbrev pub conditions : Reader → Kind → List Bool
conditions r k =
    is_unsupported k
    ∷ out_of_place r.phase k r.packet r.priority
    ∷ due r.phase (λ d. is_data k (closing_differs (opening_byte r.packet r.priority) d))
    ∷ due r.phase (λ d. is_data k (crc_differs (register_in r.packet r.priority) d))
    ∷ due r.phase (λ d. is_data k (lmp_differs d))
    ∷ free r.phase (is_end k && not (has_byte r.packet r.priority))
    ∷ free r.phase (is_data k (λ b. outside r.packet r.priority && not (eqb b 0)))
    ∷ free r.phase (is_data k (λ b. is_full r.size r.priority))
    ∷ []

-- 1 invalid, 2 wrong disparity: what the character result says
abbrev pub ten_conditions : Reader → Reading → Kind → List Bool
ten_conditions r g k = eqb g.violation 1 ∷ eqb g.violation 2 ∷ conditions r k

-- the place, counted from n, of the first that holds; 0 where none does
abbrev pub lowest : ℕ → List Bool → ℕ
lowest n [] = 0
lowest n (b ∷ bs) = cond b n (lowest (suc n) bs)

-- the violation that a character result is; 0: none
unfoldable pub violation_of : Reader → Reading → Kind → ℕ
violation_of r g k = lowest 1 (ten_conditions r g k)
