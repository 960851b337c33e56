-- What `read` promises: its complete answer; and that its doubles are exact, said over whole numbers. Nothing is written. Definitions only.
use Rattle.std.specs.Prelude.{◌≡◌, List, ℕ, Result, Ok, Err, IfOk}
use Rattle.base.specs.declared.refusal.Refusal.{Refusal}
use Rattle.base.specs.Refusals.{answered, refusal, number_of}
use Rattle.cycle_records.specs.Columns.{column_of}
use Rattle.fixed_point.specs.Counts.{Exact}
use Rattle.orbit_temperatures.specs.declared.Temperatures.{Temperatures}
use Rattle.orbit_temperatures.specs.Record.{twelve_at, temperature_count, clear_line, temperature_lines, temperatures_in, temperatures_of}

-- the doubles of a record, one by one
pub record ExactTemperatures (c : List ℕ) (r : Temperatures) : Type 0 where
  pub temp1 : Exact 11 (temperature_count (twelve_at c 108)) r.temp1
  pub temp2 : Exact 11 (temperature_count (twelve_at c 110)) r.temp2
  pub temp3 : Exact 11 (temperature_count (twelve_at c 112)) r.temp3
  pub temp4 : Exact 11 (temperature_count (twelve_at c 114)) r.temp4

-- inside: of a column of 128 places, with its own line
pub record TemperaturesIn (c : List ℕ) (r : Result Temperatures Refusal) : Type 0 where
  pub answer : r ≡ answered Err (clear_line c) (Ok (temperatures_in c))
  pub exact : IfOk r (ExactTemperatures c)

-- of a cycle's bytes, the year y, and major frame k
pub record TemperaturesPromise (cycle : List ℕ) (y k : ℕ) (r : Result Temperatures Refusal) : Type 0 where
  pub answer : r ≡ temperatures_of cycle y k
  pub refusal_is : number_of r ≡ refusal (temperature_lines cycle y k)
  pub exact : IfOk r (ExactTemperatures (column_of cycle k))
