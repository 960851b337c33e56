-- What `change_duty` promises, in the terms of the labelling. Definitions only.
use Rattle.std.specs.Prelude.{◌≡◌, true, ℕ, Result}
use Rattle.base.specs.declared.refusal.Refusal.{Refusal}
use Rattle.base.specs.Refusals.{number_of, given_or}
use Rattle.labelling.specs.declared.Tally.{Tally}
use Rattle.labelling.specs.Order.{in_order}
use Rattle.labelling.specs.Calls.{DutyCall, duty_refusal, duty_answer}

abbrev pub duty_call_of : Tally → ℕ → DutyCall
duty_call_of t k = record { tally = t; operator = k }

-- the tally that the call d leaves where it answers r: the one that it gives, and after a refusal the one that it was given
abbrev pub left_on_duty : DutyCall → Result Tally Refusal → Tally
left_on_duty d r = given_or d.tally r

-- `change_duty` of the call d answers r
pub record DutyPromise (d : DutyCall) (r : Result Tally Refusal) : Type 0 where
  pub refusal_is : number_of r ≡ duty_refusal d
  pub tally_is : left_on_duty d r ≡ duty_answer d
  -- from a tally in order a tally in order is left
  pub stays_ordered : in_order d.tally ≡ true → in_order (left_on_duty d r) ≡ true
