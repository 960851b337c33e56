-- What the entries of a book leave in the lent place: their numbers, or what was there. Definitions only.
use Rattle.std.specs.Prelude.{◌≡◌, List, [], ◌∷◌, ℕ, Result, Ok, Err}
use Rattle.base.specs.declared.refusal.Refusal.{Refusal}
use Rattle.base.specs.Refusals.{answered}
use Rattle.book.specs.Faults.{first_fault, fault_number, fault_entry}
use Rattle.book.specs.Layout.{entry_length, entry_start, body_start, cycles_said, year_said}
use Rattle.book.specs.Header.{header_lines, header_refusal}
use Rattle.book_parts.specs.declared.Place.{Place}
use Rattle.book_parts.specs.Parts.{part_lines, part_refusal}
use Rattle.cycle.specs.Cycle.{cycle_length}

-- `pcd_book_check` of the book b returns r, and the lent place holds new afterwards: the first fault's number and its entry
pub record CheckCrossed (b : List ℕ) (r new : ℕ) : Type 0 where
  pub number_is : r ≡ fault_number (first_fault b)
  pub entry-is : new ≡ fault_entry (first_fault b)

-- `pcd_book_header` of the book b returns r; the lent place held old and holds new: the number of cycles, the year
pub record HeaderCrossed (b : List ℕ) (r : ℕ) (old new : List ℕ) : Type 0 where
  pub refusal_is : r ≡ header_refusal b
  pub numbers_are : new ≡ answered (λ n. old) (header_lines b) (cycles_said b ∷ year_said b ∷ [])

-- the same of `pcd_book_entry` and `pcd_book_body`: where entry i and body i start, and their length
pub record EntryCrossed (b : List ℕ) (i r : ℕ) (old new : List ℕ) : Type 0 where
  pub refusal_is : r ≡ part_refusal b i
  pub numbers_are : new ≡ answered (λ n. old) (part_lines b i) (entry_start i ∷ entry_length ∷ [])

pub record BodyCrossed (b : List ℕ) (i r : ℕ) (old new : List ℕ) : Type 0 where
  pub refusal_is : r ≡ part_refusal b i
  pub numbers_are : new ≡ answered (λ n. old) (part_lines b i) (body_start (cycles_said b) i ∷ cycle_length ∷ [])

-- the two numbers of a place, or what was there
abbrev pub place_or : List ℕ → Result Place Refusal → List ℕ
place_or old (Ok p) = p.start ∷ p.length ∷ []
place_or old (Err k) = old
