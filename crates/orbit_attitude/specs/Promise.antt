-- What `read` promises: its complete answer; and that its instant is in step with the cycle's time code. Nothing is written. Definitions only.
use Rattle.std.specs.Prelude.{◌≡◌, List, ℕ, Result, IfOk}
use Rattle.base.specs.declared.refusal.Refusal.{Refusal}
use Rattle.base.specs.Refusals.{refusal, number_of}
use Rattle.cycle_records.specs.Lines.{dated_lines}
use Rattle.cycle_columns.specs.Steps.{InStep}
use Rattle.orbit_attitude.specs.declared.Attitude.{Attitude}
use Rattle.orbit_attitude.specs.Record.{attitude_of}

-- of a cycle's bytes, the year y, and major frame k
pub record AttitudePromise (cycle : List ℕ) (y k : ℕ) (r : Result Attitude Refusal) : Type 0 where
  pub answer : r ≡ attitude_of cycle y k
  pub refusal_is : number_of r ≡ refusal (dated_lines cycle y k)
  pub in_step : IfOk r (λ (given : Attitude). InStep cycle y k given.instant)
