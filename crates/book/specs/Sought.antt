-- What the code looks at: bodies end to end as rows, and books of the right length. Definitions only.
use Rattle.std.specs.Prelude.{◌≡◌, Bool, true, cond, not, List, ℕ, ◌≤◌, ltb, length, Option, Some, None, Result, Ok, Err}
use Rattle.base.specs.declared.refusal.Refusal.{Refusal}
use Rattle.base.specs.Ranges.{lowest}
use Rattle.base.specs.Rows.{row}
use Rattle.time_code.specs.Calendar.{in_span}
use Rattle.cycle.specs.Cycle.{cycle_length, is_cycle}
use Rattle.book.specs.declared.faults.Fault.{Fault}
use Rattle.book.specs.Layout.{header_length, most_cycles, book_length, cycles_said, year_said}
use Rattle.book.specs.Faults.{contents, is_sized, fault_at}

-- ---- searches

-- the lowest of the first n numbers of which p holds, if there is one
abbrev pub first_such : (ℕ → Bool) → ℕ → Option ℕ
first_such p n = cond (ltb (lowest p 0 n) n) (Some (lowest p 0 n)) None

-- the fault of the entry that was found, if one was
abbrev pub unless_found : Refusal → Option ℕ → Result Unit Fault
unless_found reason None = Ok tt
unless_found reason (Some i) = Err (fault_at reason i)

-- ---- bodies end to end

-- body i is no cycle of the year y
unfoldable pub bad_row : ℕ → List ℕ → ℕ → Bool
bad_row y bodies i = not (is_cycle y (row cycle_length bodies i))

-- ---- books

-- b says n cycles, and is as long as a book of so many
pub record Sized (b : List ℕ) (n : ℕ) : Type 0 where
  pub said : n ≡ cycles_said b
  pub few : n ≤ most_cycles
  pub long : length b ≡ book_length n

-- none of the faults of the whole book holds
pub record Laid (b : List ℕ) : Type 0 where
  pub header : header_length ≤ length b
  pub span : in_span (year_said b) ≡ true
  pub sized : is_sized (contents b) ≡ true
