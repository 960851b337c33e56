-- What the writer promises: the complete answer and every lent byte, refused calls too. Definitions only.
use Rattle.std.specs.Prelude.{◌≡◌, List, ℕ, Result}
use Rattle.base.specs.declared.refusal.Refusal.{Refusal}
use Rattle.base.specs.Refusals.{number_of, permitted}
use Rattle.book.specs.Layout.{year_said, cycles_of}
use Rattle.book.specs.Faults.{view_refusal}
use Rattle.book_writer.specs.Writing.{bodies_in, write_lines, write_refusal, write_after}

-- writing the book of the year y and the bodies into the bytes out answers the number r, 0 for none, and leaves new
pub record WritePromise (y : ℕ) (bodies out new : List ℕ) (r : ℕ) : Type 0 where
  pub answer : r ≡ write_refusal y bodies out
  pub after : new ≡ write_after y bodies out
  -- what is written has no fault, and says the year and the cycles that it was written from
  pub accepted : r ≡ 0 → view_refusal new ≡ 0
  pub year_is : r ≡ 0 → year_said new ≡ y
  pub cycles_are : r ≡ 0 → cycles_of new ≡ bodies_in bodies

-- `write` answers r: the lines', and in its number all of the above
pub record WriteAnswers (y : ℕ) (bodies out new : List ℕ) (r : Result Unit Refusal) : Type 0 where
  pub answers : r ≡ permitted (write_lines y bodies out)
  pub numbered : WritePromise y bodies out new (number_of r)
