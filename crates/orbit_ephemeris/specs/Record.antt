-- The ephemeris (DFCB 3.2.7.4.8, figure 24): places 50 to 73 of the major frames 0 and 2, 16 to 39 of 1 and 3; 2^−8 m and 2^−28 m/ms. Definitions only.
use Rattle.std.specs.Prelude.{cond, List, ℕ, ◌+◌, ◌%◌, eqb, Result, Ok, Err}
use Rattle.base.specs.declared.refusal.Refusal.{Refusal}
use Rattle.base.specs.Refusals.{answered}
use Rattle.cycle.specs.Cycle.{instant_of}
use Rattle.cycle_records.specs.Columns.{column_of}
use Rattle.cycle_records.specs.Instants.{record_instant}
use Rattle.cycle_records.specs.Lines.{dated_lines}
use Rattle.cycle_columns.specs.Values.{word}
use Rattle.fixed_point.specs.Counts.{scaled}
use Rattle.orbit_ephemeris.specs.declared.Ephemeris.{Ephemeris}

abbrev pub ephemeris_place : ℕ → ℕ
ephemeris_place k = cond (eqb (k % 2) 0) 50 16

abbrev pub ephemeris_in : ℕ → List ℕ → ℕ → Ephemeris
ephemeris_in i c p = record {
  instant = i;
  x = scaled 8 (word c p);
  y = scaled 8 (word c (p + 4));
  z = scaled 8 (word c (p + 8));
  vx = scaled 28 (word c (p + 12));
  vy = scaled 28 (word c (p + 16));
  vz = scaled 28 (word c (p + 20));
}

unfoldable pub ephemeris_of : List ℕ → ℕ → ℕ → Result Ephemeris Refusal
ephemeris_of cycle y k =
    answered Err (dated_lines cycle y k) (Ok (ephemeris_in (record_instant (instant_of y cycle) k) (column_of cycle k) (ephemeris_place k)))
