-- How the code goes: two books are merged by rising instant, one step at a time, and two bodies are looked at byte by byte. Definitions only.
use Rattle.std.specs.Prelude.{◌≡◌, true, cond, List, [], ◌∷◌, ◌++◌, map, ℕ, ◌+◌, ◌-◌, ◌≤◌, ◌<◌, eqb, leb, ltb, length, get_or, Option, Some, None}
use Rattle.base.specs.Ranges.{tabulate}
use Rattle.cycle.specs.Cycle.{cycle_length}
use Rattle.book.specs.Layout.{cycles_said}
use Rattle.book.specs.Header.{has_size}
use Rattle.book_compare.specs.declared.merge.Line.{Line}
use Rattle.book_compare.specs.declared.merge.Step.{Step}
use Rattle.book_compare.specs.Differences.{Cycle, Difference, cycle_at, only_first, only_second, in_both, first_differing}
use Rattle.book_compare.specs.Answer.{numbers, listed}

-- ---- the merge

-- two cycles of one instant: nothing where their bodies are the same
abbrev pub together : Cycle → Cycle → List Difference
together c d =
    let place = first_differing c.body d.body in
    cond (eqb place (length c.body)) [] (in_both c.instant place ∷ [])

-- c and what follows it against ds: the lower instant comes first
abbrev pub against : Cycle → (List Cycle → List Difference) → List Cycle → List Difference
against c rest [] = only_first c.instant ∷ rest []
against c rest (d ∷ ds) =
    cond (ltb c.instant d.instant) (only_first c.instant ∷ rest (d ∷ ds))
    (cond (ltb d.instant c.instant) (only_second d.instant ∷ against c rest ds) (together c d ++ rest ds))

abbrev pub merged : List Cycle → List Cycle → List Difference
merged [] ds = map (λ (d : Cycle). only_second d.instant) ds
merged (c ∷ cs) ds = against c (λ es. merged cs es) ds

abbrev pub cycle_instants : List Cycle → List ℕ
cycle_instants cs = map (λ (c : Cycle). c.instant) cs

-- the cycles of a book from the i-th on, and the merge of two books from there
abbrev pub cycles_from : List ℕ → ℕ → List Cycle
cycles_from b i = tabulate (cycle_at b) i (cycles_said b - i)

abbrev pub merged_from : List ℕ → List ℕ → ℕ → ℕ → List Difference
merged_from a b i j = merged (cycles_from a i) (cycles_from b j)

-- ---- a step of it

-- both books have their length, and cycles i and j are to come, or none is
pub record Placed (a b : List ℕ) (i j : ℕ) : Type 0 where
  pub first_sized : has_size a ≡ true
  pub second_sized : has_size b ≡ true
  pub first_within : i ≤ cycles_said a
  pub second_within : j ≤ cycles_said b

-- a step to the cycles i and j with this line, and one with none
abbrev pub step_to : ℕ → ℕ → Difference → Step
step_to i j l = record { i = i; j = j; line = Some (record { instant = l.instant; case = l.case; place = l.place }) }

abbrev pub bare_step_to : ℕ → ℕ → Step
bare_step_to i j = record { i = i; j = j; line = None }

abbrev pub difference_in : Line → Difference
difference_in l = record { instant = l.instant; case = l.case; place = l.place }

abbrev pub lines_in : Option Line → List Difference
lines_in None = []
lines_in (Some l) = difference_in l ∷ []

-- past two cycles of the instant t whose bodies differ first at this place
abbrev pub past_both : ℕ → ℕ → ℕ → ℕ → Step
past_both i j t place = cond (leb cycle_length place) (bare_step_to (i + 1) (j + 1)) (step_to (i + 1) (j + 1) (in_both t place))

abbrev pub line_numbers : Line → List ℕ
line_numbers l = numbers (difference_in l)

-- from cycles i and j on, a step gives at most one line and goes on
pub record Stepped (a b : List ℕ) (i j : ℕ) (s : Step) : Type 0 where
  pub goes_on : merged_from a b i j ≡ lines_in s.line ++ merged_from a b s.i s.j
  pub onward : i + j < s.i + s.j
  pub first_within : s.i ≤ cycles_said a
  pub second_within : s.j ≤ cycles_said b

-- all steps: as many lines as there are, in the table
pub record PutPromise (a b table new : List ℕ) (r : ℕ) : Type 0 where
  pub count : r ≡ length (merged_from a b 0 0)
  pub after : new ≡ listed (merged_from a b 0 0) table

-- ---- two bodies

-- the first `at` bytes are equal
pub record Alike (c d : List ℕ) (at : ℕ) : Type 0 where
  pub within : at ≤ length c
  pub equal : (k : ℕ) → k < at → get_or c k 0 ≡ get_or d k 0

-- so are the `width` bytes from `at` on
abbrev pub AlikeFrom : List ℕ → List ℕ → ℕ → ℕ → Type 0
AlikeFrom c d at width = (k : ℕ) → k < width → get_or c (at + k) 0 ≡ get_or d (at + k) 0
