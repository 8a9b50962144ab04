-- A clean line is legal exactly if a fresh reader finds nothing wrong in it and is outside again at its end.
-- Assumes nothing.
use mathlib.Core.Path.{◌≡◌, refl, sym, subst}
use mathlib.Core.Bool.{Bool, true}
use mathlib.Core.List.{List, [], ◌∷◌, ◌++◌}
use Prim.Native.Nat.{ℕ}
use Rattle.segment_size.specs.Sizes.{size_allowed}
use Rattle.symbol.specs.declared.Symbol.{Symbol}
use Rattle.character_rules.specs.Answers.{Reading}
use Rattle.packet_rules.specs.Answers.{Said}
use Rattle.packet_rules.specs.State.{fresh}
use Rattle.packet_rules.specs.Line.{Fill, idl, com_idles, reply, other, Inside, end, byte, among, closing_said, PriorityLine, priority, Within, fill, nested, packet, Outside, zeros, within, data_packet, LegalLine, empty, then, said_of, ReadClean}
use Rattle.packet_rules.specs.Accepts.{Sound, Bytes, Accepts}
use Rattle.packet_rules.proofs.Legal.{legal_line}
use Rattle.packet_rules.proofs.Only.{only_legal}

-- ---- the description names neither a refusal nor a violation

sound_append : (es fs : List Said) → Sound es → Sound fs → Sound (es ++ fs)
sound_append [] fs h k = k
sound_append (e ∷ es) fs h k = (h.0, sound_append es fs h.1 k)

ends_sound : (bad : Bool) → Sound (closing_said bad)
ends_sound bad = ((refl, refl), ((refl, refl), ((refl, refl), ((refl, refl), tt))))

fill_sound : {ss : List Symbol} {es : List Said} → Fill ss es → Sound es
fill_sound idl = ((refl, refl), tt)
fill_sound com_idles = ((refl, refl), ((refl, refl), ((refl, refl), ((refl, refl), tt))))
fill_sound (reply nack n h) = ((refl, refl), ((refl, refl), ((refl, refl), ((refl, refl), tt))))
fill_sound (other t n h) = ((refl, refl), ((refl, refl), ((refl, refl), ((refl, refl), tt))))

module _ (Among : List Symbol → List Said → Type 0) (among_sound : (ss : List Symbol) (es : List Said) → Among ss es → Sound es) where
  inside_sound : {bs : List ℕ} {ss : List Symbol} {es : List Said} → Inside Among bs ss es → Sound es
  inside_sound end = tt
  inside_sound (byte b i) = ((refl, refl), inside_sound i)
  inside_sound (among {fs = fs} {gs = gs} {es = es} m i) = sound_append gs es (among_sound fs gs m) (inside_sound i)

priority_sound : {s : ℕ} {ss : List Symbol} {es : List Said} → PriorityLine s ss es → Sound es
priority_sound (priority c g bs bad {es = es} hc hg one most i) =
    ((refl, refl), ((refl, refl), sound_append es (closing_said bad) (inside_sound Fill (λ xs fs f. fill_sound f) i) (ends_sound bad)))

within_sound : {s : ℕ} {ss : List Symbol} {es : List Said} → Within s ss es → Sound es
within_sound (fill f) = fill_sound f
within_sound (nested l) = priority_sound l

outside_sound : {s : ℕ} {ss : List Symbol} {es : List Said} → Outside s ss es → Sound es
outside_sound zeros = ((refl, refl), tt)
outside_sound (within w) = within_sound w
outside_sound {s} (data_packet (packet c bs bad {es = es} hc one i)) =
    ((refl, refl), ((refl, refl), sound_append es (closing_said bad) (inside_sound (Within s) (λ xs fs w. within_sound w) i) (ends_sound bad)))

line_sound : {s : ℕ} {ss : List Symbol} {es : List Said} → LegalLine s ss es → Sound es
line_sound empty = tt
line_sound (then {gs = gs} {es = es} o l) = sound_append gs es (outside_sound o) (line_sound l)

-- THE THEOREM: of any symbols read clean, at whatever disparities, both ways
pub legal_exactly : (s : ℕ) → size_allowed s ≡ true → {ss : List Symbol} {gs : List Reading} → ReadClean ss gs → Bytes ss
    → (Accepts s gs → LegalLine s ss (said_of (fresh s) gs)) × ((es : List Said) → LegalLine s ss es → Accepts s gs × (said_of (fresh s) gs ≡ es))
legal_exactly s ok {ss} {gs} c b = (only_legal s ok c b, accepted)
  where
    accepted : (es : List Said) → LegalLine s ss es → Accepts s gs × (said_of (fresh s) gs ≡ es)
    accepted es l =
        let k = legal_line s ok l c in
        ((subst Sound (sym k.0) (line_sound l), k.1), k.0)
