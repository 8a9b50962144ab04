-- A step that gives neither a refusal nor a violation: the symbol was in its place, no condition fits, and which symbol it is goes by its kind.
-- Assumes nothing.
use mathlib.Core.Path.{◌≡◌, refl, sym, ap, subst, ◌∙◌}
use mathlib.Core.Bool.{Bool, true, false, cond, not}
use mathlib.Core.List.{[], ◌∷◌}
use mathlib.Core.Option.{none, none-ne-some}
use Prim.Native.Nat.{ℕ}
use borrow.Author.Tests.{eqb-true}
use lib.Dec.{eqb}
use lib.IntN.{ℤ}
use Rattle.laws.proofs.Cases.{by_test, false_is_not_true}
use Rattle.refusal.specs.Order.{check, outcome}
use Rattle.symbol.specs.Symbols.{data_symbol, control_symbol}
use Rattle.symbol.specs.declared.Symbol.{Symbol}
use Rattle.character_rules.specs.Answers.{Reading, clean}
use Rattle.packet_rules.specs.declared.Opener.TheVariants.{Sdp, Spp, Slp}
use Rattle.packet_rules.specs.declared.Kind.{Kind}
use Rattle.packet_rules.specs.declared.Kind.TheVariants.{Data, Idl, Com, Opens, Closes, NoPlace, Unsupported}
use Rattle.packet_rules.specs.declared.Reader.{Reader}
use Rattle.packet_rules.specs.Answers.{Answer}
use Rattle.packet_rules.specs.State.{well_formed}
use Rattle.packet_rules.specs.Symbols.{control_kind, kind_of}
use Rattle.packet_rules.specs.Violations.{conditions, ten_conditions, violation_of}
use Rattle.packet_rules.specs.Step.{move, broken, dropped, is_dropping, judged, symbol_in, is_result, read_of, step_checks, refused_step, step_of}
use Rattle.packet_rules.specs.Line.{COM, IDL, SPP, SDP, SLP, end_symbol}
use Rattle.packet_rules.proofs.Violated.{broken_said}
use Rattle.packet_rules.proofs.Choice.{either, by_outcome}
use Rattle.packet_rules.proofs.Lowest.{NoneOf, lowest_none}

-- ---- the symbol of each kind that may stand somewhere

pub data OfKind : Symbol → Kind → Type 0 where
  is_byte : (b : ℕ) → OfKind (data_symbol b) (Data b)
  is_idl_lem : OfKind IDL Idl
  is_com : OfKind COM Com
  is_sdp : OfKind SDP (Opens Sdp)
  is_spp : OfKind SPP (Opens Spp)
  is_slp : OfKind SLP (Opens Slp)
  is_end_lem : (bad : Bool) → OfKind (end_symbol bad) (Closes bad)
  is_no_place : (x : Symbol) → OfKind x NoPlace
  is_unsupported_lem : (x : Symbol) → OfKind x Unsupported

or_else : (b n : ℕ) (k j : Kind) → OfKind (control_symbol n) k → OfKind (control_symbol b) j → OfKind (control_symbol b) (cond (eqb b n) k j)
or_else b n k j v w =
    either (λ (x : Kind). OfKind (control_symbol b) x) (eqb b n) k j
    (λ e. subst (λ (m : ℕ). OfKind (control_symbol m) k) (sym (eqb-true b n e)) v) (λ e. w)

control_of : (b : ℕ) → OfKind (control_symbol b) (control_kind b)
unfolding control_kind
control_of b =
    or_else b 0xBC Com _ is_com
    (or_else b 0x1C Idl _ is_idl_lem
    (or_else b 0x3C (Opens Spp) _ is_spp
    (or_else b 0x5C (Opens Sdp) _ is_sdp
    (or_else b 0xF7 (Opens Slp) _ is_slp
    (or_else b 0xFD (Closes false) _ (is_end_lem false)
    (or_else b 0xFE (Closes true) _ (is_end_lem true)
    (or_else b 0xFC Unsupported NoPlace (is_unsupported_lem (control_symbol 0xFC)) (is_no_place (control_symbol b)))))))))

pub of_kind : (x : Symbol) → OfKind x (kind_of x)
unfolding kind_of
of_kind x = by x.byte x.control
  where
    by : (b : ℕ) (c : Bool) → OfKind (record { byte = b; control = c }) (cond c (control_kind b) (Data b))
    by b true = control_of b
    by b false = is_byte b

-- ---- the step

pub record Placed (r : Reader) (k : Kind) (a : Answer) : Type 0 where
  pub rule : well_formed r ≡ true
  pub fits : NoneOf (conditions r k)
  pub moved : a ≡ move r.phase k r

-- a state that breaks its rule is refused, whatever else is wrong
refuses : (w a b : Bool) (f : ℕ → Answer) (x : Answer) → w ≡ false → outcome (check 1 (not w) ∷ check 1 a ∷ check 1 b ∷ []) f x ≡ f 1
refuses true a b f x h = absurd (false_is_not_true (sym h))
refuses false true true f x h = refl
refuses false true false f x h = refl
refuses false false true f x h = refl
refuses false false false f x h = refl

abbrev Quiet : Reader → Kind → Answer → Type 0
Quiet r k a = a.said.refusal ≡ none → a.said.violation ≡ none → Placed r k a

pub quiet : (r : Reader) (x : Symbol) (e : ℤ) → is_dropping r.phase ≡ false → Quiet r (kind_of x) (step_of r (clean x e))
unfolding step_of read_of violation_of
quiet r x e awake = by_test (well_formed r) kept unkept
  where
    g : Reading
    g = clean x e

    k : Kind
    k = kind_of x

    unkept : well_formed r ≡ false → Quiet r k (step_of r g)
    unkept f n v =
        absurd (none-ne-some 1 (sym n ∙ ap (λ (a : Answer). a.said.refusal)
        (refuses (well_formed r) (not (is_result g.disparity)) (not (symbol_in g.symbol)) (refused_step r) (read_of r g k) f)))

    kept : well_formed r ≡ true → Quiet r k (step_of r g)
    kept ok =
        by_outcome (Quiet r k) (step_checks r g) (refused_step r) (read_of r g k) (λ m n v. absurd (none-ne-some m (sym n)))
        (either (Quiet r k) (is_dropping r.phase) (dropped g k r) (judged (violation_of r g k) k r)
        (λ f. absurd (false_is_not_true (sym awake ∙ f)))
        (λ f. either (Quiet r k) (eqb (violation_of r g k) 0) (move r.phase k r) (broken (violation_of r g k) r)
        (λ q n v. record {
          rule = ok;
          fits = (lowest_none 0 (ten_conditions r g k) (eqb-true (violation_of r g k) 0 q)).1.1;
          moved = refl;
        })
        (λ q n v. absurd (none-ne-some (violation_of r g k) (sym v ∙ broken_said (violation_of r g k) r)))))
