-- The temperatures (DFCB 3.2.7.4.2, table 11): places 108 to 115 of every major frame. Definitions only.
use Rattle.std.specs.Prelude.{Bool, not, ◌&&◌, List, [], ◌∷◌, ◌++◌, ℕ, ◌+◌, ◌-◌, ◌*◌, ◌/◌, ◌%◌, eqb, Float, get_or, Result, Ok, Err}
use Rattle.base.specs.declared.refusal.Refusal.{Refusal}
use Rattle.base.specs.declared.refusal.Refusal.TheVariants.{UpperBitsSet}
use Rattle.base.specs.Refusals.{Line, ◌when◌, answered}
use Rattle.cycle_records.specs.Columns.{column_of}
use Rattle.cycle_records.specs.Lines.{cycle_lines}
use Rattle.fixed_point.specs.Counts.{scaled}
use Rattle.orbit_temperatures.specs.declared.Temperatures.{Temperatures}

-- the low four bits of the first byte, then the second byte
abbrev pub twelve_bits : ℕ → ℕ → ℕ
twelve_bits high low = high % 16 * 256 + low

abbrev pub twelve_at : List ℕ → ℕ → ℕ
twelve_at column place = twelve_bits (get_or column place 0) (get_or column (place + 1) 0)

-- 50 − DN × 50/4096 °C is (102,400 − 25 × DN) / 2^11
abbrev pub temperature_count : ℕ → ℕ
temperature_count dn = 102400 - 25 * dn

abbrev pub celsius : ℕ → Float
celsius dn = scaled 11 (temperature_count dn)

-- the upper four bits of each are 0
abbrev pub is_clear : ℕ → Bool
is_clear high = eqb (high / 16) 0

abbrev pub upper_clear : List ℕ → Bool
upper_clear c = is_clear (get_or c 108 0) && is_clear (get_or c 110 0) && is_clear (get_or c 112 0) && is_clear (get_or c 114 0)

-- the line of a column
abbrev pub clear_line : List ℕ → List Line
clear_line column = UpperBitsSet when not (upper_clear column) ∷ []

abbrev pub temperature_lines : List ℕ → ℕ → ℕ → List Line
temperature_lines cycle y k = cycle_lines cycle y k ++ clear_line (column_of cycle k)

abbrev pub temperatures_in : List ℕ → Temperatures
temperatures_in c = record {
  temp1 = celsius (twelve_at c 108);
  temp2 = celsius (twelve_at c 110);
  temp3 = celsius (twelve_at c 112);
  temp4 = celsius (twelve_at c 114);
}

unfoldable pub temperatures_of : List ℕ → ℕ → ℕ → Result Temperatures Refusal
temperatures_of cycle y k = answered Err (temperature_lines cycle y k) (Ok (temperatures_in (column_of cycle k)))
