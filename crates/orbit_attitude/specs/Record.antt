-- The attitude (DFCB 3.2.7.4.5): places 0 to 15 of every major frame; signed counts, whose weight no table tells.
-- Definitions only.
use Rattle.std.specs.Prelude.{List, ℕ, Result, Ok, Err}
use Rattle.base.specs.declared.refusal.Refusal.{Refusal}
use Rattle.base.specs.Refusals.{answered}
use Rattle.cycle.specs.Cycle.{instant_of}
use Rattle.cycle_records.specs.Columns.{column_of}
use Rattle.cycle_records.specs.Instants.{record_instant}
use Rattle.cycle_records.specs.Lines.{dated_lines}
use Rattle.cycle_columns.specs.Values.{word}
use Rattle.fixed_point.specs.Counts.{signed}
use Rattle.orbit_attitude.specs.declared.Attitude.{Attitude}

abbrev pub attitude_in : ℕ → List ℕ → Attitude
attitude_in i c = record {
  instant = i;
  epa1 = signed (word c 0);
  epa2 = signed (word c 4);
  epa3 = signed (word c 8);
  epa4 = signed (word c 12);
}

unfoldable pub attitude_of : List ℕ → ℕ → ℕ → Result Attitude Refusal
attitude_of cycle y k =
    answered Err (dated_lines cycle y k) (Ok (attitude_in (record_instant (instant_of y cycle) k) (column_of cycle k)))
