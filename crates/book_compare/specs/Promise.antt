-- What `compare` promises: the complete answer and every number of the lent table, refused calls too. Definitions only.
use Rattle.std.specs.Prelude.{◌≡◌, List, ℕ, length, Result, Ok, Err}
use Rattle.base.specs.declared.refusal.Refusal.{Refusal}
use Rattle.base.specs.Refusals.{number, answered, refusal}
use Rattle.book.specs.Faults.{view_refusal}
use Rattle.book_compare.specs.Differences.{Difference, Lists}
use Rattle.book_compare.specs.Answer.{table_length, compare_lines, listed, values, values_of}

-- both books are accepted, and equal byte for byte
pub record SameBooks (a b : List ℕ) : Type 0 where
  pub first_accepted : view_refusal a ≡ 0
  pub second_accepted : view_refusal b ≡ 0
  pub equal : a ≡ b

-- `compare` of the books a and b into the table answers r and leaves new
pub record ComparePromise (a b table new : List ℕ) (r : Result ℕ Refusal) : Type 0 where
  -- where it is not refused, these are the differences of the two books, and no other list is
  pub differences : List Difference
  pub are : refusal (compare_lines a b table) ≡ 0 → Lists a b differences
  pub no_other : refusal (compare_lines a b table) ≡ 0 → (ls : List Difference) → Lists a b ls → ls ≡ differences
  -- the answer is the refusal table's, and where it has none the number of lines
  pub answer : r ≡ answered Err (compare_lines a b table) (Ok (length differences))
  pub told : values_of r ≡ answered (λ k. values (number k) 0) (compare_lines a b table) (values 0 (length differences))
  pub after : new ≡ answered (λ k. table) (compare_lines a b table) (listed differences table)
  -- no refusal and no line comes exactly when both books are accepted and equal
  pub none_same : r ≡ Ok 0 → SameBooks a b
  pub same_none : length table ≡ table_length → SameBooks a b → r ≡ Ok 0
