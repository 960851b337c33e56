-- The cells of a map: numbers from 0, where nothing ended, to 5, stray bytes and split words. Definitions only.
use Rattle.std.specs.Prelude.{◌≡◌, cond, ◌&&◌, List, [], ◌∷◌, ℕ, ◌+◌, ◌*◌, ◌≤◌, ◌<◌, leb, length, take, drop, get_or}
use Rattle.base.specs.Ranges.{tabulate}

abbrev pub higher : ℕ → ℕ → ℕ
higher a b = cond (leb a b) b a

-- ---- what a stretch of the reel gave

-- the highest of the classes of its bytes
abbrev pub highest : List ℕ → ℕ
highest [] = 0
highest (x ∷ xs) = higher x (highest xs)

-- cell k of those of n bytes each
abbrev pub cell_of : ℕ → List ℕ → ℕ → ℕ
cell_of n classes k = highest (take n (drop (k * n) classes))

-- ---- cells

-- the cells from one to another have this class at least
abbrev pub raised_at : List ℕ → ℕ → ℕ → ℕ → ℕ → ℕ
raised_at cells from to class k = cond (leb from k && leb k to) (higher (get_or cells k 0) class) (get_or cells k 0)

abbrev pub raised : List ℕ → ℕ → ℕ → ℕ → List ℕ
raised cells from to class = tabulate (raised_at cells from to class) 0 (length cells)

-- a cell and its neighbour; where the map ends there is nothing
abbrev pub pair_in : List ℕ → ℕ → ℕ
pair_in cells k = higher (get_or cells (2 * k) 0) (get_or cells (2 * k + 1) 0)

-- the cells joined in pairs, as many as there were
abbrev pub halved : List ℕ → List ℕ
halved cells = tabulate (pair_in cells) 0 (length cells)

-- equal cells stand from one place to another, and they end there or at `end`
pub record RunEnd (cells : List ℕ) (from end r : ℕ) : Type 0 where
  pub beyond : from ≤ r
  pub within : from ≤ end → r ≤ end
  pub goes_on : from < end → from < r
  pub equal : (k : ℕ) → from ≤ k → k < r → get_or cells k 0 ≡ get_or cells from 0
