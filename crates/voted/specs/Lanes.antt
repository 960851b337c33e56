-- The copies of many groups in three columns, a lane for each group. Definitions only.
use Rattle.std.specs.Prelude.{◌≡◌, List, ℕ, zero, suc, ◌+◌, ◌*◌, ◌≤◌, ◌<◌, length, get_or, set}
use Rattle.voted.specs.declared.blocks.Told.{Told}
use Rattle.voted.specs.Copies.{Copies, copies, copies_at, IsVoted, word_of, agreement}
use Rattle.voted.specs.Stretches.{Spaced}

pub record Columns : Type 0 where
  pub firsts : List ℕ
  pub seconds : List ℕ
  pub thirds : List ℕ

abbrev pub columns : List ℕ → List ℕ → List ℕ → Columns
columns a b c = record { firsts = a; seconds = b; thirds = c }

abbrev pub lane : Columns → ℕ → Copies
lane l k = copies (get_or l.firsts k 0) (get_or l.seconds k 0) (get_or l.thirds k 0)

-- as many as a block has
abbrev pub lanes : ℕ
lanes = 64

-- f of each of the first n lanes, added up
unfoldable pub total : (Copies → ℕ) → Columns → ℕ → ℕ
total f l zero = 0
total f l (suc n) = total f l n + f (lane l n)

-- ---- gathered

pub record Sized (l : Columns) : Type 0 where
  pub firsts_sized : length l.firsts ≡ lanes
  pub seconds_sized : length l.seconds ≡ lanes
  pub thirds_sized : length l.thirds ≡ lanes

-- the first n lanes hold the copies of n cells from i on, and the others hold nothing
pub record Gathered (p : List ℕ) (i n : ℕ) (l : Columns) : Type 0 where
  pub sized : Sized l
  pub spaced : (k : ℕ) → k < n → Spaced p (i + 9 * k)
  pub held : (k : ℕ) → k < n → lane l k ≡ copies_at p (i + 9 * k)
  pub free : (k : ℕ) → n ≤ k → lane l k ≡ copies 0 0 0

-- nothing is gathered
pub record Blank (l : Columns) : Type 0 where
  pub sized : Sized l
  pub free : (k : ℕ) → lane l k ≡ copies 0 0 0

-- ---- voted

-- the first n lanes: how often copies agree in them, and where none is split, the word of each in w
pub record Counts (l : Columns) (n : ℕ) (w : List ℕ) (r : Told) : Type 0 where
  pub sums_are : r.sums ≡ total agreement l n
  pub voted : r.split ≡ 0 → (k : ℕ) → k < n → IsVoted (lane l k)
  pub words_are : (k : ℕ) → k < n → IsVoted (lane l k) → get_or w k 0 ≡ word_of (lane l k)

-- the frame f with the first n of the words w from place q on
unfoldable pub copied : List ℕ → ℕ → List ℕ → ℕ → List ℕ
copied f q w zero = f
copied f q w (suc n) = set (copied f q w n) (q + n) (get_or w n 0)
