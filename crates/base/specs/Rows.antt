-- A list as rows of one width. Definitions only.
use Rattle.std.specs.Prelude.{List, ℕ, ◌*◌, ◌/◌, length, take, drop}
use Rattle.base.specs.Ranges.{tabulate}

-- row k of the list
unfoldable pub row : ℕ → List ℕ → ℕ → List ℕ
row width l k = take width (drop (width * k) l)

-- all of its rows that are whole
unfoldable pub rows : ℕ → List ℕ → List (List ℕ)
rows width l = tabulate (row width l) 0 (length l / width)
