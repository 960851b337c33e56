-- What `read` promises: its complete answer; and that its double is exact, said over whole numbers. Nothing is written. Definitions only.
use Rattle.std.specs.Prelude.{◌≡◌, List, ℕ, Result, Ok, Err, IfOk}
use Rattle.base.specs.declared.refusal.Refusal.{Refusal}
use Rattle.base.specs.Refusals.{answered, refusal, number_of}
use Rattle.cycle_records.specs.Columns.{column_of}
use Rattle.float1750.specs.Double as number
use Rattle.orbit_clock.specs.declared.Clock.{Clock}
use Rattle.orbit_clock.specs.Record.{clock_update, normal_line, clock_lines, clock_in, clock_of}

-- inside: of a column of 128 places, with its own line
pub record ClockIn (c : List ℕ) (r : Result Clock Refusal) : Type 0 where
  pub answer : r ≡ answered Err (normal_line c) (Ok (clock_in c))
  pub exact : IfOk r (λ (given : Clock). number.Exact (clock_update c) given.updated)

-- of a cycle's bytes and the year y
pub record ClockPromise (cycle : List ℕ) (y : ℕ) (r : Result Clock Refusal) : Type 0 where
  pub answer : r ≡ clock_of cycle y
  pub refusal_is : number_of r ≡ refusal (clock_lines cycle y)
  pub exact : IfOk r (λ (given : Clock). number.Exact (clock_update (column_of cycle 0)) given.updated)
