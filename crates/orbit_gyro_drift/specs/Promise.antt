-- What `read` promises: its complete answer; that its instant is in step with the cycle's time code; and that its doubles are exact, said over whole
-- numbers. Nothing is written. Definitions only.
use Rattle.std.specs.Prelude.{◌≡◌, List, ℕ, Result, IfOk}
use Rattle.base.specs.declared.refusal.Refusal.{Refusal}
use Rattle.base.specs.Refusals.{refusal, number_of}
use Rattle.cycle_records.specs.Columns.{column_of}
use Rattle.cycle_records.specs.Lines.{dated_lines}
use Rattle.cycle_columns.specs.Values.{word}
use Rattle.cycle_columns.specs.Steps.{InStep}
use Rattle.fixed_point.specs.Counts.{Exact}
use Rattle.orbit_gyro_drift.specs.declared.GyroDrift.{GyroDrift}
use Rattle.orbit_gyro_drift.specs.Record.{gyro_drift_in, gyro_drift_of}

-- the doubles of a record, one by one
pub record ExactDrift (c : List ℕ) (r : GyroDrift) : Type 0 where
  pub x : Exact 47 (word c 16) r.x
  pub y : Exact 47 (word c 20) r.y
  pub z : Exact 47 (word c 24) r.z

-- inside: of a column of 128 places, and an instant
pub record DriftIn (i : ℕ) (c : List ℕ) (r : GyroDrift) : Type 0 where
  pub answer : r ≡ gyro_drift_in i c
  pub exact : ExactDrift c r

-- of a cycle's bytes and the year y
pub record GyroDriftPromise (cycle : List ℕ) (y : ℕ) (r : Result GyroDrift Refusal) : Type 0 where
  pub answer : r ≡ gyro_drift_of cycle y
  pub refusal_is : number_of r ≡ refusal (dated_lines cycle y 0)
  pub in_step : IfOk r (λ (given : GyroDrift). InStep cycle y 0 given.instant)
  pub exact : IfOk r (ExactDrift (column_of cycle 0))
