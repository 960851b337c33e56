-- The clock (DFCB 3.2.7.4.6, 3.2.7.4.7): places 28 to 33 and 36 to 41 of major frame 0; seconds from midnight of the year's first day, and counts in
-- ms, ms/day and ms/day², whose weight and sign no table tells. Definitions only.
use Rattle.std.specs.Prelude.{not, ◌||◌, List, [], ◌∷◌, ◌++◌, ℕ, Result, Ok, Err}
use Rattle.base.specs.declared.refusal.Refusal.{Refusal}
use Rattle.base.specs.declared.refusal.Refusal.TheVariants.{NotNormalised}
use Rattle.base.specs.Refusals.{Line, ◌when◌, answered}
use Rattle.cycle_records.specs.Columns.{column_of, count_at}
use Rattle.cycle_records.specs.Lines.{cycle_lines}
use Rattle.float1750.specs.Word.{is_zero, normalised, value}
use Rattle.word72_column.specs.Columns.{between}
use Rattle.orbit_clock.specs.declared.Clock.{Clock}

-- the six bytes of the last clock update
abbrev pub clock_update : List ℕ → List ℕ
clock_update column = between 28 34 column

abbrev pub normal_line : List ℕ → List Line
normal_line column = NotNormalised when not (is_zero (clock_update column) || normalised (clock_update column)) ∷ []

abbrev pub clock_lines : List ℕ → ℕ → List Line
clock_lines cycle y = cycle_lines cycle y 0 ++ normal_line (column_of cycle 0)

abbrev pub clock_in : List ℕ → Clock
clock_in c = record {
  updated = value (clock_update c);
  bias = count_at 2 c 36;
  rate = count_at 2 c 38;
  acceleration = count_at 2 c 40;
}

unfoldable pub clock_of : List ℕ → ℕ → Result Clock Refusal
clock_of cycle y = answered Err (clock_lines cycle y) (Ok (clock_in (column_of cycle 0)))
