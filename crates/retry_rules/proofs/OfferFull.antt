-- An offer is refused with 5 exactly if eight segments are stored and no refusal that comes earlier fits.
-- Assumes nothing.
use mathlib.Core.Path.{◌≡◌, refl, sym, ◌∙◌}
use mathlib.Core.Bool.{Bool, true, false, not, ◌||◌}
use mathlib.Core.Logic.{◌↔◌}
use Prim.Native.Nat.{ℕ, ◌*◌, ◌≤◌, ◌<◌}
use native.Mathlib.Omega.{arith}
use lib.Dec.{ltb, eqb}
use borrow.Author.Tests.{ltb-true, ltb-false, eqb-true, eqb-false, lt-ltb, le-ltb, eq-eqb, ne_eqb, not-false}
use Rattle.laws.proofs.Cases.{by_cases, false_is_not_true}
use Rattle.refusal.specs.Order.{refusal_of}
use Rattle.retry_rules.specs.declared.Sender.{Sender}
use Rattle.retry_rules.specs.States.{is_down, sender_rule, buffers_rule}
use Rattle.retry_rules.specs.Offer.{offer_checks, offer_of}
use Rattle.retry_rules.proofs.Seen.{Sound, sound, sound_rule}
use Rattle.retry_rules.proofs.Refusals.{offer_number}

pub record Full (s : Sender) (lent channel n : ℕ) : Type 0 where
  pub sound : Sound s
  pub buffers : lent ≡ 8 * s.counters.size
  pub channel_lt : channel < 16
  pub most : n ≤ s.counters.size
  pub some : 0 < n
  pub full : s.counters.stored ≡ 8

pub full_five : (s : Sender) (lent channel n : ℕ) → Full s lent channel n → refusal_of (offer_checks s lent channel n) ≡ 5
unfolding offer_checks
full_five s lent channel n f =
    simp (
      ne_eqb s.counters.link 2 (λ p. omega (arith, f.sound.up)),
      sound_rule s f.sound,
      eq-eqb lent (8 * s.counters.size) f.buffers,
      lt-ltb channel 16 f.channel_lt,
      le-ltb s.counters.size n f.most,
      ne_eqb n 0 (λ p. omega (arith, f.some)),
      eq-eqb s.counters.stored 8 f.full,
    )

neither : (a b : Bool) → a || b ≡ false → (a ≡ false) × (b ≡ false)
neither true b q = absurd (false_is_not_true (sym q))
neither false b q = (refl, q)

five_full : (s : Sender) (lent channel n : ℕ) → refusal_of (offer_checks s lent channel n) ≡ 5 → Full s lent channel n
unfolding offer_checks
five_full s lent channel n =
    let c = s.counters in
    let P : ℕ → Type 0 = λ x. x ≡ 5 → Full s lent channel n in
    by_cases P (is_down c) (λ _ q. absurd (omega arith))
    (λ d. by_cases P ((not (ltb channel 16) || not (buffers_rule s lent)) || not (sender_rule s)) (λ _ q. absurd (omega arith))
    (λ t. by_cases P (ltb c.size n) (λ _ q. absurd (omega arith))
    (λ e. by_cases P (eqb n 0) (λ _ q. absurd (omega arith))
    (λ f. by_cases P (eqb c.stored 8)
    (λ g _.
    let r = neither (not (ltb channel 16) || not (buffers_rule s lent)) (not (sender_rule s)) t in
    let b = neither (not (ltb channel 16)) (not (buffers_rule s lent)) r.0 in
    record {
      sound = sound s d (not-false (sender_rule s) r.1);
      buffers = eqb-true lent (8 * c.size) (not-false (buffers_rule s lent) b.1);
      channel_lt = ltb-true channel 16 (not-false (ltb channel 16) b.0);
      most = ltb-false c.size n e;
      some = omega (arith, eqb-false n 0 f);
      full = eqb-true c.stored 8 g;
    })
    (λ _ q. absurd (omega arith))))))

pub refused_five :
    (s : Sender) (lent channel : ℕ) (bad : Bool) (n : ℕ) → ((offer_of s lent channel bad n).refusal ≡ 5) ↔ Full s lent channel n
refused_five s lent channel bad n = (
  λ q. five_full s lent channel n (sym (offer_number s lent channel bad n) ∙ q),
  λ f. offer_number s lent channel bad n ∙ full_five s lent channel n f,
)
