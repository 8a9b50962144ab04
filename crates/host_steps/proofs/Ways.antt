-- Each way out of a step over bytes, by what led there.
-- Assumes nothing.
use Prim.Native.Nat.{ℕ}
use mathlib.Core.Path.{◌≡◌, sym, ap, ◌∙◌}
use mathlib.Core.List.{List}
use Rattle.std.specs.Prelude.{Result, Err}
use Rattle.std.specs.Result.{IsErrAnd}
use Rattle.std.proofs.lemmas.Result.{err_from_is_err_and}
use Rattle.refusal.specs.declared.Refusal.{Refusal}
use Rattle.refusal.specs.Order.{number_of}
use Rattle.character_rules.specs.declared.Decoded.{Decoded}
use Rattle.character_rules.specs.Answers.{not_read, decoded_says}
use Rattle.packet_rules.specs.declared.Event.{Event}
use Rattle.packet_rules.specs.declared.Reader.{Reader}
use Rattle.packet_rules.specs.Answers.{Answer, made, not_made, refused, event_says, answer_says}
use Rattle.packet_rules.specs.Step.{step_of}
use Rattle.host_rules.specs.ReaderBytes.{reader_bytes, loaded}
use Rattle.host_rules.specs.Stepping.{numbers_read, step_numbers, step_leaves}
use Rattle.host_rules.proofs.Stepping.{step_no_reader, step_read, step_unread, loads, loads_none, leaves_old, leaves_new}

module _ (bytes : List ℕ) (violation byte control : ℕ) where
  abbrev answer : Answer
  answer = step_numbers bytes violation byte control

  abbrev pub Refuses : Result Event Refusal → Type 0
  Refuses a = (answer_says a ≡ answer.said) × (bytes ≡ step_leaves bytes violation byte control)

  refuses : (a : Result Event Refusal) (r : Refusal) → refused (number_of r) ≡ answer.said → IsErrAnd a (λ s. s ≡ r) → Refuses a
  refuses a r e f =
      let p = err_from_is_err_and a f in
      (ap answer_says (p.1 ∙ ap (λ s. Err s) p.2) ∙ e, sym (leaves_old bytes violation byte control r e))

  pub no_reader : (a : Result Event Refusal) (r : Refusal) → not_made (number_of r) ≡ loaded bytes → IsErrAnd a (λ s. s ≡ r) → Refuses a
  no_reader a r e f =
      let h = loads_none bytes (number_of r) e in
      refuses a r (ap refused h.1 ∙ sym (ap (λ (x : Answer). x.said) (step_no_reader bytes violation byte control h.0))) f

  module _ (reader : Reader) (e : made reader ≡ loaded bytes) where
    pub no_result :
        (a : Result Event Refusal) (r : Refusal) → not_read (number_of r) ≡ numbers_read violation byte control → IsErrAnd a (λ s. s ≡ r) → Refuses a
    no_result a r g f =
        refuses a r
        (sym (ap (λ (x : Answer). x.said) (step_unread bytes violation byte control (loads bytes reader e).0 (number_of r) g))) f

    module _ (d : Decoded) (g : decoded_says d ≡ numbers_read violation byte control) where
      same : step_of reader (decoded_says d) ≡ answer
      same =
          let h = loads bytes reader e in
          ap (λ (r : Reader). step_of r (decoded_says d)) h.1 ∙ sym (step_read bytes violation byte control h.0 d g)

      pub no_step :
          (a : Result Event Refusal) (r : Refusal) → refused (number_of r) ≡ (step_of reader (decoded_says d)).said
          → IsErrAnd a (λ s. s ≡ r) → Refuses a
      no_step a r k f = refuses a r (k ∙ ap (λ (x : Answer). x.said) same) f

      pub steps :
          (event : Event) (after : Reader) (left : List ℕ) → event_says event ≡ (step_of reader (decoded_says d)).said
          → after ≡ (step_of reader (decoded_says d)).reader → left ≡ reader_bytes after
          → (event_says event ≡ answer.said) × (left ≡ step_leaves bytes violation byte control)
      steps event after left k m n =
          let said = k ∙ ap (λ (x : Answer). x.said) same in
          (said, n ∙ ap reader_bytes (m ∙ ap (λ (x : Answer). x.reader) same) ∙ sym (leaves_new bytes violation byte control event said))
