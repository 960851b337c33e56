-- What `check` promises: the complete answer, and that yes is said exactly of what our writer gives. Definitions only.
use Rattle.std.specs.Prelude.{◌≡◌, List, ℕ, T, Result, Ok}
use Rattle.std.proofs.Math.Pow.{are_bytes}
use Rattle.book.specs.Layout.{book, year_said, cycles_of}
use Rattle.book.specs.declared.faults.Fault.{Fault}
use Rattle.book.specs.Faults.{first_fault}
use Rattle.book_check.specs.Checking.{verdict, FaultIs, Given}

-- `check` of the bytes b answers r
pub record CheckPromise (b : List ℕ) (r : Result Unit Fault) : Type 0 where
  pub answer : r ≡ verdict b
  pub first_is : r ≡ first_fault b
  -- the number and the entry of this answer are those of the list of faults
  pub fault_is : FaultIs b r
  -- yes, exactly of what the writer gives for some year and some list of cycles
  pub yes_given : r ≡ Ok tt → Given b
  pub given_yes : Given b → r ≡ Ok tt
  -- these are the year and the cycles that the bytes say
  pub says : r ≡ Ok tt → b ≡ book (year_said b) (cycles_of b)
  -- so another accepted book holds another year or other cycles
  pub apart : r ≡ Ok tt → (d : List ℕ) → T (are_bytes d) → verdict d ≡ Ok tt → (d ≡ b → ⊥) → year_said d ≡ year_said b → cycles_of d ≡ cycles_of b → ⊥
