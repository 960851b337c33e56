-- The promise of `read`, on each way out: what is refused is refused by the lines, and what is given is given where none of them holds.
-- Assumes nothing.
use Rattle.std.proofs.Common.{◌≡◌, sym, ap, ◌∙◌, List, ℕ, Result, Ok, Err, IsErrAnd}
use Rattle.base.specs.declared.refusal.Refusal.{Refusal}
use Rattle.base.specs.Refusals.{number_of, answered, permitted}
use Rattle.base.proofs.Lines.{answered-append, numbered}
use Rattle.cycle_records.specs.Columns.{column_of}
use Rattle.cycle_records.specs.Lines.{cycle_lines}
use Rattle.cycle_records.proofs.Refusals.{refused-first, left_over}
use Rattle.orbit_clock.specs.declared.Clock.{Clock}
use Rattle.orbit_clock.specs.Record.{normal_line, clock_lines, clock_in, clock_of}
use Rattle.orbit_clock.specs.Promise.{ClockIn, ClockPromise}

module _ (cycle : List ℕ) (y : ℕ) (p : Result Unit Refusal) (is : p ≡ permitted (cycle_lines cycle y 0)) where
  abbrev given : Clock
  given = clock_in (column_of cycle 0)

  -- what the column answers
  abbrev own : Result Clock Refusal
  own = answered Err (normal_line (column_of cycle 0)) (Ok given)

  joined : answered Err (cycle_lines cycle y 0) own ≡ answered Err (clock_lines cycle y) (Ok given)
  joined = sym (answered-append Err (cycle_lines cycle y 0) (normal_line (column_of cycle 0)) (Ok given))

  pub clock_refused : (e : Refusal) (r : Result Clock Refusal) → p ≡ Err e → IsErrAnd r (λ (f : Refusal). f ≡ e) → ClockPromise cycle y r
  unfolding clock_of
  clock_refused e (Ok a) f h = absurd h
  clock_refused e (Err g) f h =
      let answer = refused-first (cycle_lines cycle y 0) tt own e (Err g) (sym is ∙ f) h ∙ joined in
      record { answer = answer; refusal_is = ap number_of answer ∙ numbered (clock_lines cycle y) given; exact = tt }

  pub clock_given : (c : List ℕ) (r : Result Clock Refusal) → p ≡ Ok tt → c ≡ column_of cycle 0 → ClockIn c r → ClockPromise cycle y r
  unfolding clock_of
  clock_given c r e f h =
      let same : ClockIn (column_of cycle 0) r = rw f at h in
      let answer = same.answer ∙ left_over (cycle_lines cycle y 0) tt own tt (sym is ∙ e) ∙ joined in
      record { answer = answer; refusal_is = ap number_of answer ∙ numbered (clock_lines cycle y) given; exact = same.exact }
