-- What `read` promises: its complete answer; that its instant is in step with the cycle's time code; and that its doubles are exact, said over whole
-- numbers. Nothing is written. Definitions only.
use Rattle.std.specs.Prelude.{◌≡◌, List, ℕ, ◌+◌, Result, IfOk}
use Rattle.base.specs.declared.refusal.Refusal.{Refusal}
use Rattle.base.specs.Refusals.{refusal, number_of}
use Rattle.cycle_records.specs.Columns.{column_of}
use Rattle.cycle_records.specs.Lines.{dated_lines}
use Rattle.cycle_columns.specs.Values.{word}
use Rattle.cycle_columns.specs.Steps.{InStep}
use Rattle.fixed_point.specs.Counts.{Exact}
use Rattle.orbit_ephemeris.specs.declared.Ephemeris.{Ephemeris}
use Rattle.orbit_ephemeris.specs.Record.{ephemeris_place, ephemeris_in, ephemeris_of}

-- the doubles of a record, one by one
pub record ExactEphemeris (c : List ℕ) (p : ℕ) (r : Ephemeris) : Type 0 where
  pub x : Exact 8 (word c p) r.x
  pub y : Exact 8 (word c (p + 4)) r.y
  pub z : Exact 8 (word c (p + 8)) r.z
  pub vx : Exact 28 (word c (p + 12)) r.vx
  pub vy : Exact 28 (word c (p + 16)) r.vy
  pub vz : Exact 28 (word c (p + 20)) r.vz

-- inside: of a column of 128 places, its first place, and an instant
pub record EphemerisIn (i : ℕ) (c : List ℕ) (p : ℕ) (r : Ephemeris) : Type 0 where
  pub answer : r ≡ ephemeris_in i c p
  pub exact : ExactEphemeris c p r

-- of a cycle's bytes, the year y, and major frame k
pub record EphemerisPromise (cycle : List ℕ) (y k : ℕ) (r : Result Ephemeris Refusal) : Type 0 where
  pub answer : r ≡ ephemeris_of cycle y k
  pub refusal_is : number_of r ≡ refusal (dated_lines cycle y k)
  pub in_step : IfOk r (λ (given : Ephemeris). InStep cycle y k given.instant)
  pub exact : IfOk r (ExactEphemeris (column_of cycle k) (ephemeris_place k))
