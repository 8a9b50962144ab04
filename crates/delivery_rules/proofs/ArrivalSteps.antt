-- An arrival at our receiver keeps what holds at every moment.
-- Assumes nothing.
use mathlib.Core.Path.{◌≡◌, sym, ◌∙◌, ap, subst}
use mathlib.Core.Bool.{Bool, true}
use mathlib.Core.List.{List, [], ◌∷◌, ◌++◌}
use Prim.Native.Nat.{ℕ, suc, ◌+◌, ◌%◌, ◌<◌, min}
use native.Mathlib.Omega.{arith}
use native.Mathlib.Numerals.{add-one}
use lib.ListN.{length, get_or, take, length-append}
use lib.Seq.{take-suc}
use borrow.Author.Tests.{ltb-true}
use Rattle.retry_rules.specs.declared.Receiver.{Receiver}
use Rattle.retry_rules.specs.States.{receiver_rule}
use Rattle.retry_rules.specs.Numbers.{between, among_last}
use Rattle.retry_rules.specs.Arrival.{advanced}
use Rattle.retry_rules.proofs.Kept.{arrival_kept}
use Rattle.retry_rules.specs.Lent.{Content}
use Rattle.delivery_rules.specs.Ends.{Item, segment, damaged, ack, nack, Arriving}
use Rattle.delivery_rules.specs.Model.{World, arrived, arrives}
use Rattle.delivery_rules.specs.Demand.{no_content}
use Rattle.delivery_rules.specs.Ours.{arriving, ours}
use Rattle.delivery_rules.proofs.Round.{near_is, among_is}
use Rattle.delivery_rules.proofs.Lines.{Line, lower, snoc, snoc_skip, tail, first}
use Rattle.delivery_rules.proofs.Calls.{takes, repeats, denies, arrive_either, damaged_is}
use Rattle.delivery_rules.proofs.Invariant.{IsItem, IsDamaged, Inv, numbers, lined_inv}

-- one more delivered, the next accepted one
pub one_more :
    (delivered accepted : List Content) (x : Content) → delivered ≡ take (length delivered) accepted → length delivered < length accepted
    → x ≡ get_or accepted (length delivered) no_content → delivered ++ x ∷ [] ≡ take (length (delivered ++ x ∷ [])) accepted
one_more delivered accepted x p h q =
    let n = length delivered in
    let more : length (delivered ++ x ∷ []) ≡ suc n = length-append delivered (x ∷ []) ∙ add-one n in
    ap (λ (l : List Content). l ++ x ∷ []) p ∙ ap (λ (y : Content). take n accepted ++ y ∷ []) q ∙ sym (take-suc accepted n no_content h)
    ∙ ap (λ (k : ℕ). take k accepted) (sym more)

module _ (S : ℕ) (w : World ours) (v : Inv S w) (rest : List Item) where
  abbrev Items : List Item → Type 0
  Items l = Line (IsItem w.seen.accepted) IsDamaged w.seen.gone (length w.seen.delivered) l

  -- which segment the first of the line is
  takes_inv :
      (k : ℕ) (x : Content) → Items (segment k x ∷ rest) → k ≡ w.receiver.expected → receiver_rule (advanced w.receiver) ≡ true
      → Inv S (arrived ours w rest (takes w.receiver k x))
  takes_inv k x l eq rule =
      let g = w.seen in
      let n = (numbers w.sender v.rule).numbers in
      let u = v.counts in
      let f = v.follows in
      let a = first (λ q. q) l in
      let e : ℕ = length g.delivered in
      let low : a.j < e + 8 = omega arith in
      let j_is : a.j ≡ e = near_is a.j e a.near low (sym a.stands.0 ∙ eq ∙ f.expected) in
      let more : length (g.delivered ++ x ∷ []) ≡ e + 1 = length-append g.delivered (x ∷ []) in
      let content : x ≡ get_or g.accepted e no_content = a.stands.1 ∙ ap (λ (i : ℕ). get_or g.accepted i no_content) j_is in
      record {
        rule = v.rule;
        eight = v.eight;
        size = v.size;
        lent = v.lent;
        receives = rule;
        receiver_size = v.receiver_size;
        counts = record {
          oldest = u.oldest;
          released = u.released;
          stored = u.stored;
          outstanding = u.outstanding;
          columns = u.columns;
          timer = u.timer;
          expiries = u.expiries;
        };
        follows = omega arith;
        prefix = one_more g.delivered g.accepted x v.prefix (omega arith) content;
        good = v.good;
        holds_it = v.holds_it;
        items = lower (omega arith) (omega arith) a.rest;
        replies =
            snoc (ack k) a.j a.stands.0 (omega arith) (omega arith) (omega arith) (lower (omega arith) (omega arith) v.replies);
      }

  repeats_inv :
      (k : ℕ) (x : Content) → Items (segment k x ∷ rest) → (k ≡ w.receiver.expected → ⊥)
      → among_last w.receiver.received w.receiver.expected k ≡ true → Inv S (arrived ours w rest (repeats w.receiver k))
  unfolding among_last
  repeats_inv k x l ne last =
      let r = w.receiver in
      let n = (numbers w.sender v.rule).numbers in
      let u = v.counts in
      let f = v.follows in
      let a = first (λ q. q) l in
      let e : ℕ = length w.seen.delivered in
      let is : k ≡ a.j % 16 = a.stands.0 in
      let low : a.j < e + 8 = omega arith in
      let lt : between k r.expected < r.received = ltb-true (between k r.expected) r.received last in
      let lt' : between (a.j % 16) (e % 16) < min e 8 = rw (← f.expected, ← is, ← f.received) lt in
      let before : a.j < e = among_is a.j e low (λ p. ne (is ∙ ap (λ (j : ℕ). j % 16) p ∙ sym f.expected)) (omega (arith, lt')) in
      lined_inv S w v rest (w.backward ++ ack k ∷ []) (tail l) (snoc (ack k) a.j is (omega arith) (omega arith) (omega arith) v.replies)

  denies_inv : (i : Item) → Items (i ∷ rest) → Inv S (arrived ours w rest (denies w.receiver))
  denies_inv i l =
      let f = v.follows in
      lined_inv S w v rest (w.backward ++ nack w.receiver.expected ∷ []) (tail l)
      (snoc_skip (nack w.receiver.expected) (omega arith) v.replies)

  arrived_inv :
      (i : Item) (room : Bool) (output : List ℕ) → Items (i ∷ rest)
      → Inv S (arrived ours w rest (ours.arrive w.receiver i room output))
  unfolding arriving
  arrived_inv (segment k x) room output l =
      let r = w.receiver in
      arrive_either r k x room output (λ (a : Arriving Receiver). receiver_rule a.state ≡ true → Inv S (arrived ours w rest a))
      (λ _ _. lined_inv S w v rest w.backward (tail l) v.replies) (λ eq _ rule. takes_inv k x l eq rule)
      (λ ne last _. repeats_inv k x l ne last) (λ _ _ _. denies_inv (segment k x) l)
      (arrival_kept r k x.channel x.bad (length x.bytes) room (length output) v.receives)
  arrived_inv damaged room output l =
      subst (λ (a : Arriving Receiver). Inv S (arrived ours w rest a)) (sym (damaged_is w.receiver room output v.receives))
      (denies_inv damaged l)

pub arrives_inv :
    (S : ℕ) (w : World ours) → Inv S w → (room : Bool) (output : List ℕ) (l : List Item)
    → Line (IsItem w.seen.accepted) IsDamaged w.seen.gone (length w.seen.delivered) l → Inv S (arrives ours w room output l)
arrives_inv S w v room output [] l = v
arrives_inv S w v room output (i ∷ rest) l = arrived_inv S w v rest i room output l
