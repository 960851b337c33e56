-- The faults of a book, in the order in which they are tested, each with the lowest entry that has it (02, requests 7 and 8). It is one list,
-- over what a book says, be it in bytes or still a year and a list of cycles: what is written, what a view holds and what a check answers all
-- cite it. Definitions only.
use Rattle.std.specs.Prelude.{Bool, true, cond, not, ◌&&◌, ◌||◌, List, [], ◌∷◌, map, ℕ, ◌-◌, eqb, leb, ltb, length, get_or, Result, Ok, Err}
use Rattle.base.specs.declared.refusal.Refusal.{Refusal}
use Rattle.base.specs.declared.refusal.Refusal.TheVariants.{YearOutsideSpan, WrongBookLength, NotACycle, WrongInstant, WrongOffset}
use Rattle.base.specs.Ranges.{lowest}
use Rattle.base.specs.Refusals.{number, Line, ◌when◌, refusal, permitted}
use Rattle.time_code.specs.Calendar.{in_span}
use Rattle.cycle.specs.Cycle.{instant_of, is_cycle}
use Rattle.book.specs.declared.faults.Fault.{Fault}
use Rattle.book.specs.Layout.{header_length, most_cycles, body_start, book_length, cycles_said, year_said, instant_at, offset_at, body_at}

-- what a book says: the year, how many cycles, whether it is as long as a book of so many, and of each entry the instant, the offset, the body
pub record Contents : Type 0 where
  pub year : ℕ
  pub count : ℕ
  pub fits : Bool
  pub instant : ℕ → ℕ
  pub offset : ℕ → ℕ
  pub body : ℕ → List ℕ

-- in bytes
abbrev pub contents : List ℕ → Contents
contents b = record {
  year = year_said b;
  count = cycles_said b;
  fits = eqb (length b) (book_length (cycles_said b));
  instant = instant_at b;
  offset = offset_at b;
  body = body_at b;
}

-- of a year and a list of cycles
abbrev pub contents_of : ℕ → List (List ℕ) → Contents
contents_of y cycles = record {
  year = y;
  count = length cycles;
  fits = true;
  instant = λ i. instant_of y (get_or cycles i []);
  offset = body_start (length cycles);
  body = λ i. get_or cycles i [];
}

-- ---- the tests
module _ (c : Contents) where
  -- 16 is given for another length, and for more than 255 cycles
  unfoldable pub is_sized : Bool
  is_sized = c.fits && leb c.count most_cycles

  -- 17: a body is not as described
  unfoldable pub bad_body : ℕ → Bool
  bad_body i = not (is_cycle c.year (c.body i))

  -- 18: an instant does not rise, which is the later entry's fault; or it is not its body's
  unfoldable pub falls : ℕ → Bool
  falls i = ltb 0 i && leb (c.instant i) (c.instant (i - 1))

  unfoldable pub bad_instant : ℕ → Bool
  bad_instant i = not (eqb (c.instant i) (instant_of c.year (c.body i))) || falls i

  -- 19: an offset is not where the body starts
  unfoldable pub bad_offset : ℕ → Bool
  bad_offset i = not (eqb (c.offset i) (body_start c.count i))

-- ---- the list

-- a fault that a book may have: the line of the refusal table, and the entry that has it
pub record FaultLine : Type 0 where
  pub line : Line
  pub entry : ℕ

-- a fault of the whole book, and of the lowest of n entries
abbrev pub whole : Refusal → Bool → FaultLine
whole reason holds = record { line = reason when holds; entry = 0 }

abbrev pub among : ℕ → Refusal → (ℕ → Bool) → FaultLine
among n reason bad = record { line = reason when ltb (lowest bad 0 n) n; entry = lowest bad 0 n }

-- those of the entries: every body is looked at before any instant, and every instant before any offset
abbrev pub entry_faults : Contents → List FaultLine
entry_faults c =
    among c.count NotACycle (bad_body c) ∷ among c.count WrongInstant (bad_instant c) ∷ among c.count WrongOffset (bad_offset c) ∷ []

abbrev pub faults : Contents → List FaultLine
faults c = whole YearOutsideSpan (not (in_span c.year)) ∷ whole WrongBookLength (not (is_sized c)) ∷ entry_faults c

-- in bytes, of which fewer than 4 say nothing
abbrev pub book_faults : List ℕ → List FaultLine
book_faults b = whole WrongBookLength (ltb (length b) header_length) ∷ faults (contents b)

-- the lines alone
abbrev pub lines_of : List FaultLine → List Line
lines_of fs = map (λ f. f.line) fs

-- why a view holds nothing, if it does; and its number, 0 for none
unfoldable pub accepted : List ℕ → Result Unit Refusal
accepted b = permitted (lines_of (book_faults b))

unfoldable pub view_refusal : List ℕ → ℕ
view_refusal b = refusal (lines_of (book_faults b))

-- the first that holds, with its entry (02, request 8), if one does
abbrev pub fault_at : Refusal → ℕ → Fault
fault_at reason entry = record { refusal = reason; entry = entry }

abbrev pub first_of : List FaultLine → Result Unit Fault
first_of [] = Ok tt
first_of (f ∷ fs) = cond f.line.holds (Err (fault_at f.line.reason f.entry)) (first_of fs)

unfoldable pub first_fault : List ℕ → Result Unit Fault
first_fault b = first_of (book_faults b)

-- its number and its entry; 0 and 0 where there is none. 01's rule that a refusal holds 0 beside its number gives way here: the entry need not
-- be 0
abbrev pub fault_number : Result Unit Fault → ℕ
fault_number (Ok u) = 0
fault_number (Err f) = number f.refusal

abbrev pub fault_entry : Result Unit Fault → ℕ
fault_entry (Ok u) = 0
fault_entry (Err f) = f.entry
