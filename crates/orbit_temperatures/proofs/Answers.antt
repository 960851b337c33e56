-- The promise of `read`, on each way out: what is refused is refused by the lines, and what is given is given where none of them holds.
-- Assumes nothing.
use Rattle.std.proofs.Common.{◌≡◌, sym, ap, ◌∙◌, List, ℕ, Result, Ok, Err, IsErrAnd}
use Rattle.base.specs.declared.refusal.Refusal.{Refusal}
use Rattle.base.specs.Refusals.{number_of, answered, permitted}
use Rattle.base.proofs.Lines.{answered-append, numbered}
use Rattle.cycle_records.specs.Columns.{column_of}
use Rattle.cycle_records.specs.Lines.{cycle_lines}
use Rattle.cycle_records.proofs.Refusals.{refused-first, left_over}
use Rattle.orbit_temperatures.specs.declared.Temperatures.{Temperatures}
use Rattle.orbit_temperatures.specs.Record.{clear_line, temperature_lines, temperatures_in, temperatures_of}
use Rattle.orbit_temperatures.specs.Promise.{TemperaturesIn, TemperaturesPromise}

module _ (cycle : List ℕ) (y k : ℕ) (p : Result Unit Refusal) (is : p ≡ permitted (cycle_lines cycle y k)) where
  abbrev given : Temperatures
  given = temperatures_in (column_of cycle k)

  -- what the column answers
  abbrev own : Result Temperatures Refusal
  own = answered Err (clear_line (column_of cycle k)) (Ok given)

  joined : answered Err (cycle_lines cycle y k) own ≡ answered Err (temperature_lines cycle y k) (Ok given)
  joined = sym (answered-append Err (cycle_lines cycle y k) (clear_line (column_of cycle k)) (Ok given))

  pub temperatures_refused : (e : Refusal) (r : Result Temperatures Refusal) → p ≡ Err e → IsErrAnd r (λ (f : Refusal). f ≡ e) → TemperaturesPromise cycle y k r
  unfolding temperatures_of
  temperatures_refused e (Ok a) f h = absurd h
  temperatures_refused e (Err g) f h =
      let answer = refused-first (cycle_lines cycle y k) tt own e (Err g) (sym is ∙ f) h ∙ joined in
      record { answer = answer; refusal_is = ap number_of answer ∙ numbered (temperature_lines cycle y k) given; exact = tt }

  pub temperatures_given : (c : List ℕ) (r : Result Temperatures Refusal) → p ≡ Ok tt → c ≡ column_of cycle k → TemperaturesIn c r → TemperaturesPromise cycle y k r
  unfolding temperatures_of
  temperatures_given c r e f h =
      let same : TemperaturesIn (column_of cycle k) r = rw f at h in
      let answer = same.answer ∙ left_over (cycle_lines cycle y k) tt own tt (sym is ∙ e) ∙ joined in
      record { answer = answer; refusal_is = ap number_of answer ∙ numbered (temperature_lines cycle y k) given; exact = same.exact }
