-- Each event keeps what holds of the plain ends that are made by the rules.
-- Assumes nothing.
use mathlib.Core.Path.{◌≡◌, refl, sym, ◌∙◌, ap, subst}
use mathlib.Core.Bool.{Bool, not, ◌&&◌}
use mathlib.Core.List.{List, [], ◌∷◌, ◌++◌}
use Prim.Native.Nat.{ℕ, ◌+◌, ◌-◌, ◌%◌, ◌≤◌, ◌<◌, max}
use native.Mathlib.Omega.{arith}
use native.Mathlib.Decide.{dec_lt}
use lib.Dec.{ltb, eqb}
use lib.ListN.{length, get_or, set, length-append, length-set, get_or-append}
use lib.Seq.{take-append-le, get_or-append_seam, get_or-set_same, get_or-set_other}
use borrow.Author.Tests.{ltb-true, ltb-false, eqb-true, eqb-false, lt-ltb, eq-eqb, ne_eqb}
use Rattle.laws.proofs.Cases.{by_cases, by_test, both_true, second_true, cond_true, cond_false}
use Rattle.retry_rules.specs.Numbers.{between, among_last}
use Rattle.retry_rules.specs.Lent.{Content}
use Rattle.delivery_rules.specs.Ends.{Item, segment, damaged, Reply, ack, nack, damaged_reply, Offering, Sending, Arriving}
use Rattle.delivery_rules.specs.Outside.{is_next, gone_with}
use Rattle.delivery_rules.specs.Model.{Event, offer, send, arrive, lose, damage, hear, lose_reply, damage_reply, tick, without, World, offered, sent, arrived, lined, arrives, step, run, start}
use Rattle.delivery_rules.specs.Demand.{no_content}
use Rattle.delivery_rules.proofs.Lines.{Line, empty, weaken, lower, snoc, snoc_skip, lost, damaged_at, tail, first}
use Rattle.delivery_rules.proofs.Round.{near_is, among_is}
use Rattle.delivery_rules.proofs.Seeing.{not_second}
use Rattle.delivery_rules.proofs.ArrivalSteps.{one_more}
use Rattle.delivery_rules.proofs.Invariant.{IsItem, IsDamaged, IsAck, IsIdle}
use Rattle.delivery_wrong.specs.Plain.{eight_of, PlainSender, PlainReceiver, fallen, plain_taken, plain_offer, plain_goes, plain_send, replied, plain_arrive, rule_choice, plain}
use Rattle.delivery_rules.proofs.SenderSteps.{grown}
use Rattle.delivery_wrong.proofs.RightInvariant.{Inv as InvOf, hears_inv, tick_inv}

-- whether of the last eight only those count that were really received or released
module _ (really : Bool) where
  abbrev Inv : World (plain (rule_choice really)) → Type 0
  Inv w = InvOf really w

  -- two places of a window of eight
  apart : (o i k : ℕ) → i < k → k < 8 → (o + i) % 8 ≡ (o + k) % 8 → ⊥
  apart o i k h u q = omega arith

  -- the number of another segment of the window
  other : (o p m : ℕ) → o ≤ p → p < m → m ≤ o + 8 → p % 16 ≡ m % 16 → ⊥
  other o p m h u v q = omega arith

  -- at most eight count
  eight_le : (n : ℕ) → eight_of (rule_choice really) n ≤ 8
  eight_le n = by_cases (λ (m : ℕ). m ≤ 8) really (λ _. omega arith) (λ _. omega arith)

  among_at : (k j t e : ℕ) → k ≡ j % 16 → t ≡ e → between k (t % 16) < 8 → between (j % 16) (e % 16) < 8
  among_at k j t e p q h =
      subst (λ (m : ℕ). between (j % 16) (m % 16) < 8) q (subst (λ (m : ℕ). between m (t % 16) < 8) p h)

  module _ (w : World (plain (rule_choice really))) (v : Inv w) where
    -- offers and sends
    taken_inv : (x : Content) → w.sender.stored < 8 → Inv (offered (plain (rule_choice really)) w x (plain_taken (rule_choice really) w.sender w.buffers x))
    taken_inv x free =
        let s = w.sender in
        let g = w.seen in
        let acc = g.accepted in
        let u = v.counts in
        let more : length (acc ++ x ∷ []) ≡ length acc + 1 = length-append acc (x ∷ []) in
        let at : s.released + s.stored ≡ g.released + s.stored = omega arith in
        let slot : (s.released + s.stored) % 8 ≡ (g.released + s.stored) % 8 = ap (λ (n : ℕ). n % 8) at in
        let eight = v.eight in
        record {
          counts = omega arith;
          eight = length-set s.held ((s.released + s.stored) % 8) x ∙ v.eight;
          prefix = v.prefix ∙ sym (take-append-le (length g.delivered) acc (x ∷ []) (omega arith));
          holds_it = λ i h.
              elim (dec_lt i s.stored) [
                | yes p ↦
                    get_or-set_other s.held ((s.released + s.stored) % 8) ((g.released + i) % 8) x no_content
                    (λ q. apart g.released i s.stored p free (q ∙ slot))
                    ∙ v.holds_it i p
                    ∙ sym (get_or-append acc (x ∷ []) no_content (g.released + i) (omega arith))
                | no p ↦
                    let last : g.released + i ≡ s.released + s.stored = omega arith in
                    let y : g.released + i ≡ length acc = omega arith in
                    ap (λ (k : ℕ). get_or (set s.held ((s.released + s.stored) % 8) x) (k % 8) no_content) last
                    ∙ get_or-set_same s.held ((s.released + s.stored) % 8) x no_content (omega arith)
                    ∙ sym (get_or-append_seam acc x [] no_content)
                    ∙ ap (λ (k : ℕ). get_or (acc ++ x ∷ []) k no_content) (sym y)
              ];
          items = weaken (λ a j h t. grown acc x a j (omega arith) t) (omega arith) (omega arith) v.items;
          replies = v.replies;
        }

    offer_inv : (x : Content) → Inv (offered (plain (rule_choice really)) w x (plain_offer (rule_choice really) w.sender w.buffers x))
    unfolding plain_offer
    offer_inv x =
        by_cases (λ (a : Offering PlainSender). Inv (offered (plain (rule_choice really)) w x a)) (not (fallen w.sender) && ltb w.sender.stored 8)
        (λ t. taken_inv x (ltb-true w.sender.stored 8 (second_true (not (fallen w.sender)) _ t))) (λ _. v)

    gone_is : w.sender.point < w.sender.released + w.sender.stored → gone_with w.seen (w.sender.point % 16) ≡ max w.sender.gone (w.sender.point + 1)
    unfolding gone_with
    gone_is h =
        let s = w.sender in
        let g = w.seen in
        let u = v.counts in
        by_test (ltb s.point g.gone)
        (λ p.
        let again = ltb-true s.point g.gone p in
        let no = ne_eqb (s.point % 16) (g.gone % 16) (other g.released s.point g.gone u.point_ge again (omega arith)) in
        cond_false (is_next g (s.point % 16)) (g.gone + 1) g.gone (not_second (ltb g.gone (length g.accepted)) _ no) ∙ omega arith)
        (λ p.
        let next = ltb-false s.point g.gone p in
        let at : s.point ≡ g.gone = omega arith in
        cond_true (is_next g (s.point % 16)) (g.gone + 1) g.gone
        (both_true (ltb g.gone (length g.accepted)) _ (lt-ltb g.gone (length g.accepted) (omega arith))
        (eq-eqb (s.point % 16) (g.gone % 16) (ap (λ (n : ℕ). n % 16) at)))
        ∙ omega arith)

    -- the segment at the send point is one that was accepted
    pub due_is : w.sender.point < w.sender.released + w.sender.stored
        → get_or w.sender.held (w.sender.point % 8) no_content ≡ get_or w.seen.accepted w.sender.point no_content
    due_is h =
        let s = w.sender in
        let g = w.seen in
        let u = v.counts in
        let at : g.released + (s.point - g.released) ≡ s.point = omega arith in
        subst (λ (p : ℕ). get_or s.held (p % 8) no_content ≡ get_or g.accepted p no_content) at (v.holds_it (s.point - g.released) (omega arith))

    goes_inv : w.sender.point < w.sender.released + w.sender.stored → Inv (sent (plain (rule_choice really)) w (plain_goes (rule_choice really) w.sender))
    goes_inv h =
        let s = w.sender in
        let u = v.counts in
        let gone = gone_is h in
        record {
          counts = omega arith;
          eight = v.eight;
          prefix = v.prefix;
          holds_it = v.holds_it;
          items = snoc _ s.point (refl, due_is h) (omega arith) (omega arith) (omega arith) (lower (omega arith) (omega arith) v.items);
          replies = v.replies;
        }

    send_inv : (output : List ℕ) → Inv (sent (plain (rule_choice really)) w (plain_send (rule_choice really) w.sender w.buffers output))
    unfolding plain_send
    send_inv output =
        let s = w.sender in
        by_cases (λ (a : Sending PlainSender). Inv (sent (plain (rule_choice really)) w a)) (not (fallen s) && ltb s.point (s.released + s.stored))
        (λ t. goes_inv (ltb-true s.point (s.released + s.stored) (second_true (not (fallen s)) _ t))) (λ _. v)

    -- arrivals
    lined_inv :
        (f : List Item) (b : List Reply) → Line (IsItem w.seen.accepted) IsDamaged w.seen.gone (length w.seen.delivered) f
        → Line IsAck IsIdle (length w.seen.delivered) w.seen.released b → Inv (lined (plain (rule_choice really)) w f b)
    lined_inv f b p q = record { counts = v.counts; eight = v.eight; prefix = v.prefix; holds_it = v.holds_it; items = p; replies = q }

    denies_inv :
        (i : Item) (rest : List Item) → Line (IsItem w.seen.accepted) IsDamaged w.seen.gone (length w.seen.delivered) (i ∷ rest)
        → Inv (arrived (plain (rule_choice really)) w rest (replied (nack (w.receiver.taken % 16)) w.receiver))
    denies_inv i rest l =
        lined_inv rest _ (tail l) (snoc_skip (nack (w.receiver.taken % 16)) (omega arith) v.replies)

    arrived_inv :
        (i : Item) (rest : List Item) (room : Bool) (output : List ℕ)
        → Line (IsItem w.seen.accepted) IsDamaged w.seen.gone (length w.seen.delivered) (i ∷ rest)
        → Inv (arrived (plain (rule_choice really)) w rest (plain_arrive (rule_choice really) w.receiver i room output))
    unfolding plain_arrive among_last
    arrived_inv (segment k x) rest room output l =
        let r = w.receiver in
        let g = w.seen in
        let u = v.counts in
        let e : ℕ = length g.delivered in
        let a = first (λ q. q) l in
        let is : k ≡ a.j % 16 = a.stands.0 in
        let low : a.j < e + 8 = omega arith in
        let expected : r.taken % 16 ≡ e % 16 = ap (λ (n : ℕ). n % 16) u.taken in
        let P : Arriving PlainReceiver → Type 0 = λ b. Inv (arrived (plain (rule_choice really)) w rest b) in
        by_cases P (eqb k (r.taken % 16))
        (λ t. by_cases P room
        (λ _.
        let j_is : a.j ≡ e = near_is a.j e a.near low (sym is ∙ eqb-true k (r.taken % 16) t ∙ expected) in
        let more : length (g.delivered ++ x ∷ []) ≡ e + 1 = length-append g.delivered (x ∷ []) in
        let content : x ≡ get_or g.accepted e no_content = a.stands.1 ∙ ap (λ (i : ℕ). get_or g.accepted i no_content) j_is in
        record {
          counts = omega arith;
          eight = v.eight;
          prefix = one_more g.delivered g.accepted x v.prefix (omega arith) content;
          holds_it = v.holds_it;
          items = lower (omega arith) (omega arith) a.rest;
          replies = snoc (ack k) a.j is (omega arith) (omega arith) (omega arith) (lower (omega arith) (omega arith) v.replies);
        })
        (λ _. denies_inv (segment k x) rest l))
        (λ t. by_cases P (ltb (between k (r.taken % 16)) (eight_of (rule_choice really) r.taken))
        (λ last.
        let ne = eqb-false k (r.taken % 16) t in
        let lt = ltb-true (between k (r.taken % 16)) (eight_of (rule_choice really) r.taken) last in
        let lt' : between (a.j % 16) (e % 16) < 8 = among_at k a.j r.taken e is u.taken (omega (arith, lt, eight_le r.taken)) in
        let before : a.j < e = among_is a.j e low (λ p. ne (is ∙ ap (λ (j : ℕ). j % 16) p ∙ sym expected)) lt' in
        lined_inv rest _ (tail l) (snoc (ack k) a.j is (omega arith) (omega arith) (omega arith) v.replies))
        (λ _. denies_inv (segment k x) rest l))
    arrived_inv damaged rest room output l = denies_inv damaged rest l

    arrives_inv :
        (room : Bool) (output : List ℕ) (l : List Item) → Line (IsItem w.seen.accepted) IsDamaged w.seen.gone (length w.seen.delivered) l
        → Inv (arrives (plain (rule_choice really)) w room output l)
    arrives_inv room output [] l = v
    arrives_inv room output (i ∷ rest) l = arrived_inv i rest room output l

  pub step_inv : (e : Event) (w : World (plain (rule_choice really))) → Inv w → Inv (step (plain (rule_choice really)) e w)
  unfolding step
  step_inv (offer x) w v = offer_inv w v x
  step_inv (send output) w v = send_inv w v output
  step_inv (arrive room output) w v = arrives_inv w v room output w.forward v.items
  step_inv (lose n) w v = lined_inv w v (without w.forward n) w.backward (lost n v.items) v.replies
  step_inv (damage n) w v = lined_inv w v (set w.forward n damaged) w.backward (damaged_at n damaged tt v.items) v.replies
  step_inv hear w v = hears_inv really w v w.backward v.replies
  step_inv (lose_reply n) w v = lined_inv w v w.forward (without w.backward n) v.items (lost n v.replies)
  step_inv (damage_reply n) w v = lined_inv w v w.forward (set w.backward n damaged_reply) v.items (damaged_at n damaged_reply tt v.replies)
  step_inv tick w v = tick_inv really w v

  pub run_inv : (es : List Event) (w : World (plain (rule_choice really))) → Inv w → Inv (run (plain (rule_choice really)) es w)
  unfolding run
  run_inv [] w v = v
  run_inv (e ∷ es) w v = run_inv es (step (plain (rule_choice really)) e w) (step_inv e w v)

  pub start_inv : (T S : ℕ) (lent : List ℕ) → 0 < T → Inv (start (plain (rule_choice really)) T S lent)
  start_inv T S lent h =
      record {
        counts = omega arith;
        eight = refl;
        prefix = refl;
        holds_it = λ i l. absurd (omega arith);
        items = empty;
        replies = empty;
      }
