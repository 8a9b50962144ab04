-- What each call of our ends comes to, by cases.
-- Assumes nothing.
use mathlib.Core.Path.{◌≡◌, refl, sym, ◌∙◌, ap, subst}
use mathlib.Core.Bool.{Bool, true, false, cond, ◌&&◌}
use mathlib.Core.List.{List}
use Prim.Native.Nat.{ℕ}
use native.Mathlib.Omega.{arith}
use lib.Dec.{eqb}
use lib.ListN.{length, take, drop}
use lib.Seq.{take_at}
use borrow.Author.Tests.{eqb-true, eqb-false, ltb-true}
use Rattle.laws.proofs.Cases.{by_cases, both_true, false_is_not_true}
use Rattle.refusal.specs.Order.{refusal_of}
use Rattle.refusal.proofs.Laws.{refused}
use Rattle.retry_rules.specs.declared.Sender.{Sender}
use Rattle.retry_rules.specs.declared.Receiver.{Receiver}
use Rattle.retry_rules.specs.Answers.{Answered, Offered, Sent, Ticked, Arrived}
use Rattle.retry_rules.specs.Numbers.{among_last}
use Rattle.retry_rules.specs.States.{is_down, receiver_rule, slot_in}
use Rattle.retry_rules.specs.Lent.{Content, laid, buffer_at, held_length, held_bytes, held_content}
use Rattle.retry_rules.specs.Refused.{refused_sender, refused_tick}
use Rattle.retry_rules.specs.Offer.{offer_checks, free_slot, stored_in, offer_of, offer_buffers}
use Rattle.retry_rules.specs.Send.{to_send, due_slot, send_point, send_checks, one_sent, due_sent, send_of, send_output}
use Rattle.retry_rules.specs.Reply.{heard, sender_checks, reply_checks, with_counters, reply_of, damaged_reply_of}
use Rattle.retry_rules.specs.Tick.{ticked, tick_of}
use Rattle.retry_rules.specs.Arrival.{arrival_checks, advanced, delivery, answer_to, arrival_of, arrival_output}
use Rattle.retry_rules.proofs.StoredSlots.{stored_slot}
use Rattle.retry_rules.proofs.Laid.{laid_first}
use Rattle.retry_rules.proofs.Held.{held_length_lem}
use Rattle.retry_rules.proofs.Done.{reply_done, tick_done, damaged_arrival_done}
use Rattle.retry_rules.proofs.Seen.{Sound, sender_seen, Hears, reply_seen, Offers, offer_seen, offer_passes, Sends, send_seen}
use Rattle.delivery_rules.specs.Ends.{segment, damaged, Reply, ack, nack, damaged_reply, Offering, Sending, Arriving}
use Rattle.delivery_rules.specs.Demand.{no_content}
use Rattle.delivery_rules.specs.Ours.{offering_of, sending_of, arriving_of, hearing, arriving, ours}

true_is_not_false : {b : Bool} → b ≡ false → b ≡ true → ⊥
true_is_not_false p q = false_is_not_true (sym p ∙ q)

-- what is laid at the front of an output stands there
laid_front : (old bytes : List ℕ) → take (length bytes) (laid old 0 bytes) ≡ bytes
laid_front old bytes = ap (take (length bytes)) (laid_first old bytes) ∙ take_at bytes (drop (length bytes) old) (length bytes) refl

-- two things that turn on one test
by_one :
    {A B : Type 0} (P : A → B → Type 0) (b : Bool) {x y : A} {u v : B} → (b ≡ true → P x u) → (b ≡ false → P y v)
    → P (cond b x y) (cond b u v)
by_one P true f g = f refl
by_one P false f g = g refl

-- an offer
abbrev pub taken : Sender → List ℕ → Content → Offering Sender
taken s buffers x =
    record {
      accepted = true;
      state = stored_in s x.channel x.bad (length x.bytes);
      buffers = laid buffers (buffer_at s (free_slot s.counters)) x.bytes;
    }

abbrev pub turned_down : Sender → List ℕ → Offering Sender
turned_down s buffers = record { accepted = false; state = s; buffers = buffers }

pub offer_either :
    (s : Sender) (buffers : List ℕ) (x : Content) (P : Offering Sender → Type 0)
    → (Offers s (length buffers) x.channel (length x.bytes) → P (taken s buffers x))
    → ((Offers s (length buffers) x.channel (length x.bytes) → ⊥) → P (turned_down s buffers))
    → P (ours.offer s buffers x)
unfolding offer_of offer_buffers
offer_either s buffers x P f g =
    let cs = offer_checks s (length buffers) x.channel (length x.bytes) in
    by_one (λ (a : Offered) (l : List ℕ). P (offering_of a l)) (eqb (refusal_of cs) 0)
    (λ t. f (offer_seen s (length buffers) x.channel (length x.bytes) (eqb-true (refusal_of cs) 0 t)))
    (λ t. subst (λ (b : Bool). P (record { accepted = b; state = s; buffers = buffers })) (sym t)
    (g (λ o. eqb-false (refusal_of cs) 0 t (offer_passes s (length buffers) x.channel (length x.bytes) o))))

-- a send
abbrev pub goes : Sender → List ℕ → Sending Sender
goes s buffers =
    record {
      sent = true;
      number = send_point s.counters;
      content = held_content s buffers (due_slot s.counters);
      state = record { counters = one_sent s.counters; slots = s.slots };
    }

abbrev pub stays : Sender → Sending Sender
stays s = record { sent = false; number = 0; content = no_content; state = s }

-- what goes out is what the buffer at the send point holds
goes_out :
    (s : Sender) (buffers output : List ℕ) (P : Sending Sender → Type 0) → Sends s (length buffers) (length output)
    → to_send s.counters ≡ true → P (goes s buffers)
    → P (sending_of (due_sent s) (laid output 0 (held_bytes s buffers (due_slot s.counters))))
unfolding held_content
goes_out s buffers output P o t p =
    let c = s.counters in
    let i = due_slot c in
    let held = held_bytes s buffers i in
    let most = (stored_slot s c.point o.sound.slots (ltb-true c.point c.stored t)).most in
    let n = held_length_lem s buffers i o.buffers (omega arith) most in
    let same : take (held_length s i) (laid output 0 held) ≡ held =
    ap (λ (k : ℕ). take k (laid output 0 held)) (sym n) ∙ laid_front output held in
    subst
    (λ (l : List ℕ).
    P
    (record {
      sent = true;
      number = send_point c;
      content = record { channel = (slot_in s i).channel; bad = (slot_in s i).bad; bytes = l };
      state = record { counters = one_sent c; slots = s.slots };
    }))
    (sym same) p

pub send_either :
    (s : Sender) (buffers output : List ℕ) (P : Sending Sender → Type 0)
    → (refusal_of (send_checks s (length buffers) (length output)) ≡ 0 → to_send s.counters ≡ true → P (goes s buffers))
    → ((refusal_of (send_checks s (length buffers) (length output)) ≡ 0 → to_send s.counters ≡ true → ⊥) → P (stays s))
    → P (ours.send s buffers output)
unfolding send_of send_output
send_either s buffers output P f g =
    let cs = send_checks s (length buffers) (length output) in
    by_one (λ (a : Sent) (l : List ℕ). P (sending_of a l)) (eqb (refusal_of cs) 0)
    (λ t.
    let q = eqb-true (refusal_of cs) 0 t in
    by_one (λ (a : Sent) (l : List ℕ). P (sending_of a l)) (to_send s.counters)
    (λ u. goes_out s buffers output P (send_seen s (length buffers) (length output) q) u (f q u))
    (λ u. g (λ _ v. absurd (true_is_not_false u v))))
    (λ t. g (λ q _. eqb-false (refusal_of cs) 0 t q))

-- an arrival
abbrev pub drops : Receiver → Arriving Receiver
drops r = record { answered = false; reply = ack 0; delivered = false; content = no_content; state = r }

abbrev pub takes : Receiver → ℕ → Content → Arriving Receiver
takes r k x = record { answered = true; reply = ack k; delivered = true; content = x; state = advanced r }

abbrev pub repeats : Receiver → ℕ → Arriving Receiver
repeats r k = record { answered = true; reply = ack k; delivered = false; content = no_content; state = r }

abbrev pub denies : Receiver → Arriving Receiver
denies r = record { answered = true; reply = nack r.expected; delivered = false; content = no_content; state = r }

pub arrive_either :
    (r : Receiver) (k : ℕ) (x : Content) (room : Bool) (output : List ℕ) (P : Arriving Receiver → Type 0)
    → ((refusal_of (arrival_checks r k x.channel (length x.bytes) room (length output)) ≡ 0 → ⊥) → P (drops r))
    → (k ≡ r.expected → room ≡ true → P (takes r k x))
    → ((k ≡ r.expected → ⊥) → among_last r.received r.expected k ≡ true → P (repeats r k))
    → ((k ≡ r.expected → room ≡ true → ⊥)
    → ((k ≡ r.expected → ⊥) → among_last r.received r.expected k ≡ true → ⊥)
    → P (denies r))
    → P (ours.arrive r (segment k x) room output)
unfolding arriving arrival_of arrival_output answer_to
arrive_either r k x room output P f g h i =
    let n = length x.bytes in
    let cs = arrival_checks r k x.channel n room (length output) in
    let Q : Arrived → List ℕ → Type 0 = λ a l. P (arriving_of a l) in
    by_one Q (eqb (refusal_of cs) 0)
    (λ t. by_cases (λ (a : Arrived). Q a (cond (eqb k r.expected && room) (laid output 0 x.bytes) output)) (eqb k r.expected)
    (λ u. by_cases (λ (a : Arrived). Q a (cond (eqb k r.expected && room) (laid output 0 x.bytes) output)) room
    (λ v.
    let both = both_true (eqb k r.expected) room u v in
    subst (λ (b : Bool). Q (delivery r k x.channel x.bad n) (cond b (laid output 0 x.bytes) output)) (sym both)
    (subst
    (λ (l : List ℕ).
    P
    (record {
      answered = true;
      reply = ack k;
      delivered = true;
      content = record { channel = x.channel; bad = x.bad; bytes = l };
      state = advanced r;
    }))
    (sym (laid_front output x.bytes)) (g (eqb-true k r.expected u) v)))
    (λ v. i (λ _ z. true_is_not_false v z) (λ ne _. ne (eqb-true k r.expected u))))
    (λ u. by_cases (λ (a : Arrived). Q a (cond (eqb k r.expected && room) (laid output 0 x.bytes) output)) (among_last r.received r.expected k)
    (λ v. h (eqb-false k r.expected u) v) (λ v. i (λ e _. eqb-false k r.expected u e) (λ _ z. true_is_not_false v z))))
    (λ t. subst
    (λ (b : Bool).
    P (record { answered = b; reply = ack 0; delivered = false; content = no_content; state = r }))
    (sym t) (f (eqb-false (refusal_of cs) 0 t)))

-- a damaged arrival is answered with NACK, since the receiver keeps its rule
pub damaged_is : (r : Receiver) (room : Bool) (output : List ℕ) → receiver_rule r ≡ true → ours.arrive r damaged room output ≡ denies r
unfolding arriving
damaged_is r room output q =
    ap (λ (a : Arrived). arriving_of a output) (damaged_arrival_done r q)

-- replies and ticks: on a link that is up they are heard, on one that is down they change nothing
pub ack_heard : (s : Sender) (k : ℕ) → Hears s k → hearing s (ack k) ≡ with_counters s (heard s.counters false k)
unfolding hearing
ack_heard s k h = ap (λ (a : Answered). a.sender) (reply_done s false k h)

pub nack_heard : (s : Sender) (k : ℕ) → Hears s k → hearing s (nack k) ≡ with_counters s (heard s.counters true k)
unfolding hearing
nack_heard s k h = ap (λ (a : Answered). a.sender) (reply_done s true k h)

pub damaged_heard : (s : Sender) → hearing s damaged_reply ≡ s
unfolding hearing damaged_reply_of
damaged_heard s =
    by_cases (λ (a : Answered). a.sender ≡ s)
    (eqb (refusal_of (sender_checks s)) 0) {x = record { refusal = 0; sender = s }} {y = refused_sender s (refusal_of (sender_checks s))} (λ _. refl)
    (λ _. refl)

pub ticks : (s : Sender) → Sound s → (tick_of s).sender ≡ with_counters s (ticked s.counters)
ticks s h = ap (λ (a : Ticked). a.sender) (tick_done s h)

-- a tick says whether it took the link down
pub tick_fell : (s : Sender) → Sound s → (tick_of s).fell ≡ is_down (tick_of s).sender.counters
tick_fell s h =
    ap (λ (a : Ticked). a.fell) (tick_done s h) ∙ sym (ap (λ (a : Ticked). is_down a.sender.counters) (tick_done s h))

module _ (s : Sender) (down : s.counters.link ≡ 2) where
  refused_tick_lem : tick_of s ≡ refused_tick s (refusal_of (sender_checks s))
  unfolding tick_of
  refused_tick_lem = refused (sender_checks s) (refused_tick s) _ (λ q. omega (arith, down, (sender_seen s q).up))

  pub down_fell : (tick_of s).fell ≡ false
  down_fell = ap (λ (a : Ticked). a.fell) refused_tick_lem

  pub down_reply : (y : Reply) → hearing s y ≡ s
  unfolding hearing reply_of
  down_reply (ack k) =
      ap (λ (a : Answered). a.sender)
      (refused (reply_checks s k) (refused_sender s) _ (λ q. omega (arith, down, (reply_seen s k q).sound.up)))
  down_reply (nack k) =
      ap (λ (a : Answered). a.sender)
      (refused (reply_checks s k) (refused_sender s) _ (λ q. omega (arith, down, (reply_seen s k q).sound.up)))
  down_reply damaged_reply = damaged_heard s

  pub down_tick : (tick_of s).sender ≡ s
  down_tick = ap (λ (a : Ticked). a.sender) refused_tick_lem
