-- The values of a cycle's records. Definitions only.
use Rattle.std.specs.Prelude.{cond, ◌&&◌, List, ℕ, eqb, leb, length, replicate}
use Rattle.cycle.specs.Cycle.{cycle_length}
use Rattle.cycle_records.specs.Columns.{column_of, count_at}

-- the column of major frame k; zeros where the bytes are no cycle's body or it has no such frame
unfoldable pub column_in : List ℕ → ℕ → List ℕ
column_in body k = cond (eqb (length body) cycle_length && leb k 3) (column_of body k) (replicate 128 0)

-- a 32-bit count
abbrev pub word : List ℕ → ℕ → ℕ
word column place = count_at 4 column place
