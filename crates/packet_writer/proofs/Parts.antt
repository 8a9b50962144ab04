-- The symbols that the code writes are those of the packet.
-- Assumes nothing.
use mathlib.Core.Path.{◌≡◌, ap, ap₂, sym, ◌∙◌, subst}
use mathlib.Core.Bool.{Bool}
use mathlib.Core.List.{List, [], ◌∷◌, ◌++◌, map}
use Prim.Native.Nat.{ℕ, ◌<◌}
use lib.Dec.{T}
use lib.ListN.{get_or}
use Rattle.laws.specs.Lists.{all_of}
use Rattle.symbol.specs.Symbols.{data_symbol}
use Rattle.symbol.specs.declared.Symbol.{Symbol}
use Rattle.character_rules.specs.Demand.{can_write}
use Rattle.crc.specs.Crc16.{crc_start, crc_from, crc_of}
use Rattle.crc.proofs.Laws.{check_bytes_lem}
use Rattle.packet_rules.specs.Line.{closing, end_symbol}
use Rattle.packet_rules.specs.Packets.{packet_symbols}
use Rattle.packet_rules.specs.declared.Written.{Written}
use Rattle.packet_rules.proofs.Packets.{closing_can}
use Rattle.packet_writer.specs.Writing.{Wrote}

-- the two check bytes, one by one
two_of : (bs : List ℕ) → crc_of bs ≡ get_or (crc_of bs) 0 0 ∷ get_or (crc_of bs) 1 0 ∷ []
unfolding crc_of
two_of bs =
    let e = check_bytes_lem (crc_from crc_start bs) in
    e ∙ ap₂ (λ (x y : ℕ). x ∷ y ∷ []) (ap (λ (l : List ℕ). get_or l 0 0) (sym e)) (ap (λ (l : List ℕ). get_or l 1 0) (sym e))

-- an end symbol, the opening byte again and the check bytes, by whatever calls gave them
pub closing_is : (bad : Bool) (o : ℕ) (bs cs : List ℕ) (e : Symbol) → e ≡ end_symbol bad → cs ≡ crc_of bs
    → e ∷ data_symbol o ∷ data_symbol (get_or cs 0 0) ∷ data_symbol (get_or cs 1 0) ∷ [] ≡ closing bad o bs
closing_is bad o bs cs e h q =
    ap₂ (λ (x : Symbol) (l : List ℕ). x ∷ data_symbol o ∷ map data_symbol l) h
    (ap₂ (λ (x y : ℕ). x ∷ y ∷ []) (ap (λ (l : List ℕ). get_or l 0 0) q) (ap (λ (l : List ℕ). get_or l 1 0) q) ∙ sym (two_of bs))

-- they can be written
pub tail_can : (bad : Bool) (o : ℕ) (bs : List ℕ) {l : List Symbol} → o < 256 → l ≡ closing bad o bs → T (all_of can_write l)
tail_can bad o bs ho e = subst (λ (x : List Symbol). T (all_of can_write x)) (sym e) (closing_can o bs bad ho)

-- and together they are the packet
pub packet_is : (p : Written) (start : Symbol) (o : ℕ) (bs : List ℕ) (bad : Bool) {x : Symbol} {l : List Symbol} {old new : List ℕ} {q : Written}
    → x ≡ data_symbol o → l ≡ closing bad o bs → Wrote p (start ∷ x ∷ (map data_symbol bs ++ l)) old new q → Wrote p (packet_symbols start o bs bad) old new q
packet_is p start o bs bad {x} {l} {old} {new} {q} h e w =
    subst (λ (y : List Symbol). Wrote p (start ∷ data_symbol o ∷ (map data_symbol bs ++ y)) old new q) e
    (subst (λ (y : Symbol). Wrote p (start ∷ y ∷ (map data_symbol bs ++ l)) old new q) h w)
