-- What comparing two books leaves in the lent table and in the lent place. Definitions only.
use Rattle.std.specs.Prelude.{◌≡◌, List, ℕ, Result}
use Rattle.base.specs.declared.refusal.Refusal.{Refusal}
use Rattle.base.specs.Refusals.{given_or, refusal}
use Rattle.book_compare.specs.Answer.{compare_lines}
use Rattle.book_compare.specs.Promise.{ComparePromise}

-- `pcd_book_compare` of the books a and b returns r; the lent table held table and holds new, and the lent place held old and holds lines
pub record CompareCrossed (a b : List ℕ) (r : ℕ) (table new : List ℕ) (old lines : ℕ) : Type 0 where
  pub refusal_is : r ≡ refusal (compare_lines a b table)
  -- what crosses is an answer of which all that `compare` promises holds
  pub compared : Result ℕ Refusal
  pub promised : ComparePromise a b table new compared
  -- the number of lines, or what was there
  pub lines_are : lines ≡ given_or old compared
