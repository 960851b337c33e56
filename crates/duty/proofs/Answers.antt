-- A change of duty that is refused, and one that is not: from what was left to what `change_duty` promises. Assumes nothing.
use Rattle.std.proofs.Common.{◌≡◌, sym, ap, ◌∙◌, ℕ, suc, Result, Ok, Err}
use Rattle.base.specs.declared.refusal.Refusal.{Refusal}
use Rattle.base.specs.Refusals.{number, number_of}
use Rattle.labelling.specs.declared.Tally.{Tally}
use Rattle.labelling.specs.Operators.{on_duty}
use Rattle.labelling.specs.Machine.{with_operators}
use Rattle.labelling.specs.Order.{in_order}
use Rattle.labelling.specs.Calls.{duty_refusal, duty_answer}
use Rattle.labelling.proofs.CallLaws.{duty_refused, duty_accepted, duty_ordered}
use Rattle.duty.specs.Change.{duty_call_of, left_on_duty, DutyPromise}

module _ {t : Tally} {k : ℕ} where
  duty_promise : (r : Result Tally Refusal) → duty_refusal (duty_call_of t k) ≡ number_of r
      → left_on_duty (duty_call_of t k) r ≡ duty_answer (duty_call_of t k) → DutyPromise (duty_call_of t k) r
  duty_promise r q e = record { refusal_is = sym q; tally_is = e; stays_ordered = λ o. ap in_order e ∙ duty_ordered (duty_call_of t k) o }

  pub unchanged : (e : Refusal) (n : ℕ) → number e ≡ suc n → duty_refusal (duty_call_of t k) ≡ number e → DutyPromise (duty_call_of t k) (Err e)
  unchanged e n some q = duty_promise (Err e) q (sym (duty_refused (duty_call_of t k) n (q ∙ some)))

  pub changed : {u : Tally} → duty_refusal (duty_call_of t k) ≡ 0 → u ≡ with_operators (on_duty k t.operators) t
      → DutyPromise (duty_call_of t k) (Ok u)
  changed {u} q e = duty_promise (Ok u) q (e ∙ sym (duty_accepted (duty_call_of t k) q))
