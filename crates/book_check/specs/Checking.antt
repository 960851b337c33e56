-- The check of a book (02, request 8). It is the list of faults of request 7, and nothing beside it. Definitions only.
use Rattle.std.specs.Prelude.{◌≡◌, cond, List, [], ◌∷◌, ℕ, Result}
use Rattle.book.specs.declared.faults.Fault.{Fault}
use Rattle.book.specs.Faults.{FaultLine, book_faults, view_refusal, first_fault, fault_number, fault_entry}
use Rattle.book_writer.specs.Writing.{write_refusal, write_after}

-- yes where there is no fault, and else the first. 01's rule that a refusal holds 0 beside its number gives way to request 8: the entry need not
-- be 0
unfoldable pub verdict : List ℕ → Result Unit Fault
verdict b = first_fault b

-- the entry of the first line that holds; 0 where none does
abbrev pub first_entry : List FaultLine → ℕ
first_entry [] = 0
first_entry (f ∷ fs) = cond f.line.holds f.entry (first_entry fs)

-- the answer r about the bytes b in numbers, 0 and 0 for yes: the papers' number of the first line
-- that holds, and the entry in that line
pub record FaultIs (b : List ℕ) (r : Result Unit Fault) : Type 0 where
  pub number_is : fault_number r ≡ view_refusal b
  pub entry-is : fault_entry r ≡ first_entry (book_faults b)

-- the bytes b are what our writer gives for some year and some list of cycles, whose bodies it is handed end to end
pub record Given (b : List ℕ) : Type 0 where
  pub year : ℕ
  pub bodies : List ℕ
  pub out : List ℕ
  pub unrefused : write_refusal year bodies out ≡ 0
  pub is : b ≡ write_after year bodies out
