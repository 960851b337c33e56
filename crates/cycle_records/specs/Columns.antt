-- Word 72 of a cycle's major frames, and the counts in it, the first byte highest. Definitions only.
use Rattle.std.specs.Prelude.{List, ℕ, ◌+◌}
use Rattle.base.specs.Format.{major_frame}
use Rattle.base.specs.Numbers.{big_endian}
use Rattle.base.specs.Rows.{row}
use Rattle.word72_column.specs.Columns.{gathered, between}

-- the column of major frame k
unfoldable pub column_of : List ℕ → ℕ → List ℕ
column_of cycle k = gathered (row major_frame cycle k)

-- the count of so many bytes from a place on
unfoldable pub count_at : ℕ → List ℕ → ℕ → ℕ
count_at width column place = big_endian (between place (place + width) column)
