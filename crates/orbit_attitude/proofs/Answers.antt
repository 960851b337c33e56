-- The promise of `read`, on each way out: what is refused is refused by the lines, and what is given is given where none of them holds.
-- Assumes nothing.
use Rattle.std.proofs.Common.{◌≡◌, sym, ap, ◌∙◌, List, ℕ, Result, Ok, Err, IsErrAnd}
use Rattle.base.specs.declared.refusal.Refusal.{Refusal}
use Rattle.base.specs.Refusals.{number_of}
use Rattle.base.proofs.Lines.{numbered}
use Rattle.cycle_records.specs.Columns.{column_of}
use Rattle.cycle_records.specs.Lines.{dated_lines}
use Rattle.cycle_records.proofs.Known.{i, instant_answer, Dated}
use Rattle.cycle_records.proofs.Refusals.{refused-first, left_over}
use Rattle.orbit_attitude.specs.declared.Attitude.{Attitude}
use Rattle.orbit_attitude.specs.Record.{attitude_in, attitude_of}
use Rattle.orbit_attitude.specs.Promise.{AttitudePromise}

module _ (cycle : List ℕ) (y k : ℕ) (d : Result ℕ Refusal) (is : d ≡ instant_answer cycle y k) where
  abbrev given : Attitude
  given = attitude_in (i cycle y k) (column_of cycle k)

  pub attitude_refused : (e : Refusal) (r : Result Attitude Refusal) → d ≡ Err e → IsErrAnd r (λ (f : Refusal). f ≡ e) → AttitudePromise cycle y k r
  unfolding attitude_of
  attitude_refused e (Ok a) f h = absurd h
  attitude_refused e (Err g) f h =
      let answer = refused-first (dated_lines cycle y k) (i cycle y k) (Ok given) e (Err g) (sym is ∙ f) h in
      record { answer = answer; refusal_is = ap number_of answer ∙ numbered (dated_lines cycle y k) given; in_step = tt }

  pub attitude_given : (t : ℕ) (c : List ℕ) (a : Attitude) → d ≡ Ok t → Dated cycle y k t → c ≡ column_of cycle k → a ≡ attitude_in t c
      → AttitudePromise cycle y k (Ok a)
  unfolding attitude_of
  attitude_given t c a e known f h =
      let same : a ≡ given = rw (sym known.is, f) at h in
      let answer = ap Ok same ∙ left_over (dated_lines cycle y k) (i cycle y k) (Ok given) t (sym is ∙ e) in
      record {
        answer = answer;
        refusal_is = ap number_of answer ∙ numbered (dated_lines cycle y k) given;
        in_step = rw same known.in_step_fact;
      }
