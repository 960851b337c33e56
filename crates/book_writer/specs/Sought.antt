-- What the code looks at: the instants of bodies end to end, as rows. Definitions only.
use Rattle.std.specs.Prelude.{Bool, ◌&&◌, List, ℕ, ◌-◌, leb, ltb}
use Rattle.base.specs.Rows.{row}
use Rattle.cycle.specs.Cycle.{cycle_length, instant_of}

-- body i's instant
unfoldable pub row_instant : ℕ → List ℕ → ℕ → ℕ
row_instant y bodies i = instant_of y (row cycle_length bodies i)

-- it does not rise
unfoldable pub falling_row : ℕ → List ℕ → ℕ → Bool
falling_row y bodies i = ltb 0 i && leb (row_instant y bodies i) (row_instant y bodies (i - 1))
