-- What a comparison answers and leaves in the lent table (02, request 9; 01, "Refusal numbers"). Definitions only.
use Rattle.std.specs.Prelude.{not, List, [], ◌∷◌, ◌++◌, ℕ, ◌*◌, eqb, length, drop, Result, Ok, Err}
use Rattle.base.specs.declared.refusal.Refusal.{Refusal}
use Rattle.base.specs.declared.refusal.Refusal.TheVariants.{WrongLength, YearsDiffer}
use Rattle.base.specs.Lists.{concat_map}
use Rattle.base.specs.Refusals.{number as number_in_papers, Line, ◌when◌}
use Rattle.book.specs.Layout.{year_said}
use Rattle.book.specs.Faults.{book_faults, lines_of}
use Rattle.book_compare.specs.Differences.{Difference}

-- 510 lines of three numbers
abbrev pub table_length : ℕ
table_length = 1530

-- the faults of request 8: the first that a book has
abbrev pub faults_of : List ℕ → List Line
faults_of b = lines_of (book_faults b)

-- another size of the table; the first book's faults, then the second's; years that differ
abbrev pub compare_lines : List ℕ → List ℕ → List ℕ → List Line
compare_lines a b table =
    WrongLength when not (eqb (length table) table_length)
    ∷ (faults_of a
    ++ (faults_of b ++ (YearsDiffer when not (eqb (year_said a) (year_said b)) ∷ [])))

-- ---- the table

abbrev pub numbers : Difference → List ℕ
numbers l = l.instant ∷ l.case ∷ l.place ∷ []

-- the lines from the start on; unused lines stay
abbrev pub listed : List Difference → List ℕ → List ℕ
listed ls table = concat_map numbers ls ++ drop (3 * length ls) table

-- ---- the answer in the paper's own values

-- the number of the refusal, 0 for none, and the number of lines, 0 where it is refused
pub record Values : Type 0 where
  pub number : ℕ
  pub lines : ℕ

abbrev pub values : ℕ → ℕ → Values
values number lines = record { number = number; lines = lines }

abbrev pub values_of : Result ℕ Refusal → Values
values_of (Ok n) = values 0 n
values_of (Err k) = values (number_in_papers k) 0
