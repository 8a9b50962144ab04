-- What holds at every moment of the plain ends that are made by the rules, and that replies and ticks keep it.
-- Assumes nothing.
use mathlib.Core.Path.{◌≡◌, refl, sym, ◌∙◌, ap, subst}
use mathlib.Core.Bool.{Bool, true, false, ◌||◌}
use mathlib.Core.List.{List, [], ◌∷◌}
use Prim.Native.Nat.{ℕ, suc, ◌+◌, ◌-◌, ◌%◌, ◌≤◌, ◌<◌}
use native.Mathlib.Omega.{arith}
use lib.Dec.{ltb, eqb}
use lib.ListN.{length, get_or, take}
use borrow.Author.Tests.{ltb-true, ltb-false, eqb-true, eqb-false}
use Rattle.laws.proofs.Cases.{by_cases, false_is_not_true, by_test}
use Rattle.retry_rules.specs.Numbers.{among_last}
use Rattle.delivery_rules.specs.Ends.{Reply, ack, nack, damaged_reply}
use Rattle.delivery_rules.specs.Outside.{Seen, is_running, seen_with, seen_reply, seen_tick}
use Rattle.delivery_rules.specs.Model.{World, told, hears}
use Rattle.delivery_rules.specs.Demand.{no_content}
use Rattle.delivery_rules.proofs.Lines.{Line, lower, tail, first}
use Rattle.delivery_rules.proofs.Round.{near_is}
use Rattle.delivery_rules.proofs.Seeing.{stands, is_down_lem, unheard, unticked, other_ack, other_nack, own_ack, own_nack, plain_tick_lem, expiry}
use Rattle.delivery_rules.proofs.Invariant.{IsItem, IsDamaged, IsAck, IsIdle}
use Rattle.delivery_wrong.specs.Plain.{eight_of, PlainSender, PlainReceiver, fallen, idle, moved, plain_release, ahead, plain_hear, plain_tick, rule_choice, plain}

-- whether of the last eight only those count that were really received or released
module _ (really : Bool) where
  -- the numbers are what is seen from outside; at most eight are stored, and the send point lies between the oldest and the first that waits
  pub record Counts (s : PlainSender) (r : PlainReceiver) (g : Seen) : Type 0 where
    pub released : s.released ≡ g.released
    pub gone : s.gone ≡ g.gone
    pub stored : length g.accepted ≡ g.released + s.stored
    pub columns : s.columns ≡ g.columns
    pub ticks : s.ticks ≡ g.ticks
    pub expiries : s.expiries ≡ g.expiries
    pub point_ge : g.released ≤ s.point
    pub point_le : s.point ≤ g.gone
    pub gone_le : g.gone ≤ g.released + s.stored
    pub stored_le : s.stored ≤ 8
    pub ticks_lt : g.ticks < g.columns
    pub taken : r.taken ≡ length g.delivered
    pub low : g.released ≤ length g.delivered
    pub high : length g.delivered ≤ g.gone

  pub record Inv (w : World (plain (rule_choice really))) : Type 0 where
    pub counts : Counts w.sender w.receiver w.seen
    pub eight : length w.sender.held ≡ 8
    pub prefix : w.seen.delivered ≡ take (length w.seen.delivered) w.seen.accepted
    pub holds_it :
        (i : ℕ) → i < w.sender.stored
        → get_or w.sender.held ((w.seen.released + i) % 8) no_content ≡ get_or w.seen.accepted (w.seen.released + i) no_content
    pub items : Line (IsItem w.seen.accepted) IsDamaged w.seen.gone (length w.seen.delivered) w.forward
    pub replies : Line IsAck IsIdle (length w.seen.delivered) w.seen.released w.backward

  ahead_none : (k o : ℕ) → k < 16 → (k + 16 - o % 16) % 16 < 1 → k ≡ o % 16
  ahead_none k o h q = omega arith

  pub none_ahead : (k o : ℕ) → k ≡ o % 16 → (k + 16 - o % 16) % 16 ≡ 0
  none_ahead k o q = omega arith

  neither : (a b : Bool) → a || b ≡ false → (a ≡ false) × (b ≡ false)
  neither true b q = absurd (false_is_not_true (sym q))
  neither false b q = (refl, q)

  module _ (w : World (plain (rule_choice really))) (v : Inv w) where
    -- a link that is up with something outstanding, or not
    pub runs : idle w.sender ≡ false → (w.seen.expiries < 3) × (w.seen.released < w.seen.gone)
    runs q =
        let s = w.sender in
        let u = v.counts in
        let both = neither (fallen s) (eqb s.gone s.released) q in
        let a = ltb-false 2 s.expiries both.0 in
        let b = eqb-false s.gone s.released both.1 in
        (omega arith, omega arith)

    pub still : idle w.sender ≡ true → is_running w.seen ≡ false
    still q =
        let s = w.sender in
        let u = v.counts in
        by_test (fallen s)
        (λ t.
        let three = ltb-true 2 s.expiries t in
        is_down_lem w.seen (omega arith))
        (λ t.
        let none = eqb-true s.gone s.released (subst (λ (b : Bool). b || eqb s.gone s.released ≡ true) t q) in
        stands w.seen (omega arith))

    -- another send point, timer and count
    moved_inv :
        (point ticks expiries seen_ticks counted : ℕ) (rest : List Reply) → w.seen.released ≤ point → point ≤ w.seen.gone → ticks < w.seen.columns
        → ticks ≡ seen_ticks → expiries ≡ counted → Line IsAck IsIdle (length w.seen.delivered) w.seen.released rest
        → Inv (told (plain (rule_choice really)) w (moved w.sender point ticks expiries) rest
        (seen_with w.seen w.seen.gone w.seen.released seen_ticks counted))
    moved_inv point ticks expiries seen_ticks counted rest a b c d e l =
        let u = v.counts in
        record { counts = omega arith; eight = v.eight; prefix = v.prefix; holds_it = v.holds_it; items = v.items; replies = l }

    same_inv :
        (rest : List Reply) → Line IsAck IsIdle (length w.seen.delivered) w.seen.released rest
        → Inv (told (plain (rule_choice really)) w w.sender rest w.seen)
    same_inv rest l =
        record { counts = v.counts; eight = v.eight; prefix = v.prefix; holds_it = v.holds_it; items = v.items; replies = l }

    back_inv :
        (rest : List Reply) → Line IsAck IsIdle (length w.seen.delivered) w.seen.released rest
        → Inv (told (plain (rule_choice really)) w (moved w.sender w.sender.released w.sender.ticks w.sender.expiries) rest w.seen)
    back_inv rest l =
        let u = v.counts in
        record { counts = omega arith; eight = v.eight; prefix = v.prefix; holds_it = v.holds_it; items = v.items; replies = l }

    -- the oldest is released
    released_inv :
        (n : ℕ) (rest : List Reply) → n ≡ 1 → w.seen.released < length w.seen.delivered
        → Line IsAck IsIdle (length w.seen.delivered) (suc w.seen.released) rest
        → Inv (told (plain (rule_choice really)) w (plain_release (rule_choice really) w.sender n) rest (seen_with w.seen w.seen.gone (w.seen.released + 1) 0 0))
    released_inv n rest q h l =
        let u = v.counts in
        let g = w.seen in
        record {
          counts = omega arith;
          eight = v.eight;
          prefix = v.prefix;
          holds_it = λ i h'.
              let p : g.released + 1 + i ≡ g.released + (1 + i) = omega arith in
              rw p (v.holds_it (1 + i) (omega arith));
          items = lower (omega arith) (omega arith) v.items;
          replies = lower (omega arith) (omega arith) l;
        }

    ack_inv :
        (k : ℕ) (rest : List Reply) → Line IsAck IsIdle (length w.seen.delivered) w.seen.released (ack k ∷ rest)
        → Inv (told (plain (rule_choice really)) w (plain_hear (rule_choice really) w.sender (ack k)) rest (seen_reply w.seen (ack k)))
    unfolding plain_hear
    ack_inv k rest l =
        let s = w.sender in
        let g = w.seen in
        let u = v.counts in
        let a = first (λ q. q) l in
        let is : k ≡ a.j % 16 = a.stands in
        let lt : k < 16 = omega arith in
        let P : PlainSender → Type 0 = λ t. Inv (told (plain (rule_choice really)) w t rest (seen_reply g (ack k))) in
        let same : s.released % 16 ≡ g.released % 16 = ap (λ (o : ℕ). o % 16) u.released in
        by_cases P (idle s) (λ t. rw (unheard g (ack k) (still t)) (same_inv rest (tail l)))
        (λ t.
        let on = runs t in
        by_cases P (ltb (ahead (rule_choice really) s k) 1)
        (λ e.
        let mine : k ≡ g.released % 16 = ahead_none k s.released lt (ltb-true (ahead (rule_choice really) s k) 1 e) ∙ same in
        let zero = none_ahead k s.released (mine ∙ sym same) in
        let low : a.j < g.released + 8 = omega arith in
        let j_is = near_is a.j g.released a.near low (sym is ∙ mine) in
        rw (own_ack g on.0 on.1 k mine)
        (released_inv (ahead (rule_choice really) s k + 1) rest (omega arith) (omega arith) (lower (omega arith) (omega arith) a.rest)))
        (λ e.
        let far = ltb-false (ahead (rule_choice really) s k) 1 e in
        let not_mine = other_ack g k (λ q. absurd (omega (arith, none_ahead k s.released (q ∙ sym same), far))) in
        by_cases P (among_last (eight_of (rule_choice really) s.released) (s.released % 16) k) (λ _. rw not_mine (same_inv rest (tail l)))
        (λ _. rw not_mine (back_inv rest (tail l)))))

    nack_inv :
        (k : ℕ) (rest : List Reply) → Line IsAck IsIdle (length w.seen.delivered) w.seen.released (nack k ∷ rest)
        → Inv (told (plain (rule_choice really)) w (plain_hear (rule_choice really) w.sender (nack k)) rest (seen_reply w.seen (nack k)))
    unfolding plain_hear
    nack_inv k rest l =
        let s = w.sender in
        let g = w.seen in
        let u = v.counts in
        let P : PlainSender → Type 0 = λ t. Inv (told (plain (rule_choice really)) w t rest (seen_reply g (nack k))) in
        let same : s.released % 16 ≡ g.released % 16 = ap (λ (o : ℕ). o % 16) u.released in
        by_cases P (idle s) (λ t. rw (unheard g (nack k) (still t)) (same_inv rest (tail l)))
        (λ t.
        let on = runs t in
        by_cases P (eqb k (s.released % 16))
        (λ e. rw (own_nack g on.0 on.1 k (eqb-true k (s.released % 16) e ∙ same))
        (moved_inv s.released 0 0 0 0 rest (omega arith) (omega arith) (omega arith) refl refl (tail l)))
        (λ e. rw (other_nack g k (λ q. eqb-false k (s.released % 16) e (q ∙ sym same))) (back_inv rest (tail l))))

    pub hears_inv : (l : List Reply) → Line IsAck IsIdle (length w.seen.delivered) w.seen.released l → Inv (hears (plain (rule_choice really)) w l)
    unfolding plain_hear seen_reply
    hears_inv [] l = v
    hears_inv (ack k ∷ rest) l = ack_inv k rest l
    hears_inv (nack k ∷ rest) l = nack_inv k rest l
    hears_inv (damaged_reply ∷ rest) l = same_inv rest (tail l)

    pub tick_inv : Inv (told (plain (rule_choice really)) w (plain_tick w.sender) w.backward (seen_tick w.seen))
    unfolding plain_tick
    tick_inv =
        let s = w.sender in
        let g = w.seen in
        let u = v.counts in
        let P : PlainSender → Type 0 = λ t. Inv (told (plain (rule_choice really)) w t w.backward (seen_tick g)) in
        by_cases P (idle s) (λ t. rw (unticked g (still t)) v)
        (λ t.
        let on = runs t in
        by_cases P (eqb (s.ticks + 1) s.columns)
        (λ e.
        let last = eqb-true (s.ticks + 1) s.columns e in
        let expires : (p : ℕ) → g.released ≤ p → p ≤ g.gone → P (moved s p 0 (s.expiries + 1)) = λ p lo hi.
        rw (expiry g on.0 on.1 (omega arith))
        (moved_inv p 0 (s.expiries + 1) 0 (g.expiries + 1) w.backward lo hi (omega arith) refl (omega arith) v.replies) in
        by_cases (λ (p : ℕ). P (moved s p 0 (s.expiries + 1))) (ltb s.expiries 2) (λ _. expires s.released (omega arith) (omega arith))
        (λ _. expires s.point u.point_ge u.point_le))
        (λ e.
        let more = eqb-false (s.ticks + 1) s.columns e in
        rw (plain_tick_lem g on.0 on.1 (λ q. omega arith))
        (moved_inv s.point (s.ticks + 1) s.expiries (g.ticks + 1) g.expiries w.backward u.point_ge u.point_le (omega arith)
        (omega arith) u.expiries v.replies)))
