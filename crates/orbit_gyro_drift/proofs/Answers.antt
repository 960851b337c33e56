-- The promise of `read`, on each way out: what is refused is refused by the lines, and what is given is given where none of them holds.
-- Assumes nothing.
use Rattle.std.proofs.Common.{◌≡◌, sym, ap, ◌∙◌, List, ℕ, Result, Ok, Err, IsErrAnd}
use Rattle.base.specs.declared.refusal.Refusal.{Refusal}
use Rattle.base.specs.Refusals.{number_of}
use Rattle.base.proofs.Lines.{numbered}
use Rattle.cycle_records.specs.Columns.{column_of}
use Rattle.cycle_records.specs.Lines.{dated_lines}
use Rattle.cycle_records.proofs.Known.{i, instant_answer, Dated}
use Rattle.cycle_records.proofs.Refusals.{refused-first, left_over}
use Rattle.orbit_gyro_drift.specs.declared.GyroDrift.{GyroDrift}
use Rattle.orbit_gyro_drift.specs.Record.{gyro_drift_in, gyro_drift_of}
use Rattle.orbit_gyro_drift.specs.Promise.{DriftIn, GyroDriftPromise}

module _ (cycle : List ℕ) (y : ℕ) (d : Result ℕ Refusal) (is : d ≡ instant_answer cycle y 0) where
  abbrev given : GyroDrift
  given = gyro_drift_in (i cycle y 0) (column_of cycle 0)

  pub drift_refused : (e : Refusal) (r : Result GyroDrift Refusal) → d ≡ Err e → IsErrAnd r (λ (f : Refusal). f ≡ e) → GyroDriftPromise cycle y r
  unfolding gyro_drift_of
  drift_refused e (Ok a) f h = absurd h
  drift_refused e (Err g) f h =
      let answer = refused-first (dated_lines cycle y 0) (i cycle y 0) (Ok given) e (Err g) (sym is ∙ f) h in
      record { answer = answer; refusal_is = ap number_of answer ∙ numbered (dated_lines cycle y 0) given; in_step = tt; exact = tt }

  pub drift_given : (s t : ℕ) (c : List ℕ) (a : GyroDrift) → d ≡ Ok s → Dated cycle y 0 s → t ≡ i cycle y 0 → c ≡ column_of cycle 0
      → DriftIn t c a → GyroDriftPromise cycle y (Ok a)
  unfolding gyro_drift_of
  drift_given s t c a e known timed f h =
      let same : DriftIn (i cycle y 0) (column_of cycle 0) a = rw (timed, f) at h in
      let answer = ap Ok same.answer ∙ left_over (dated_lines cycle y 0) (i cycle y 0) (Ok given) s (sym is ∙ e) in
      record {
        answer = answer;
        refusal_is = ap number_of answer ∙ numbered (dated_lines cycle y 0) given;
        in_step = rw same.answer known.in_step_fact;
        exact = same.exact;
      }
