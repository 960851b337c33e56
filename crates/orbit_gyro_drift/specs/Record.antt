-- The gyro drift (DFCB 3.2.7.4.4): places 16 to 27 of major frame 0, 2^−47 rad/s, at the time of its records.
-- Definitions only.
use Rattle.std.specs.Prelude.{List, ℕ, Result, Ok, Err}
use Rattle.base.specs.declared.refusal.Refusal.{Refusal}
use Rattle.base.specs.Refusals.{answered}
use Rattle.cycle.specs.Cycle.{instant_of}
use Rattle.cycle_records.specs.Columns.{column_of}
use Rattle.cycle_records.specs.Instants.{record_instant}
use Rattle.cycle_records.specs.Lines.{dated_lines}
use Rattle.cycle_columns.specs.Values.{word}
use Rattle.fixed_point.specs.Counts.{scaled}
use Rattle.orbit_gyro_drift.specs.declared.GyroDrift.{GyroDrift}

abbrev pub gyro_drift_in : ℕ → List ℕ → GyroDrift
gyro_drift_in i c = record { instant = i; x = scaled 47 (word c 16); y = scaled 47 (word c 20); z = scaled 47 (word c 24) }

unfoldable pub gyro_drift_of : List ℕ → ℕ → Result GyroDrift Refusal
gyro_drift_of cycle y =
    answered Err (dated_lines cycle y 0) (Ok (gyro_drift_in (record_instant (instant_of y cycle) 0) (column_of cycle 0)))
