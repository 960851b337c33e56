-- What is gathered for a book, and what is made of it. Definitions only.
use Rattle.std.specs.Prelude.{◌≡◌, true, cond, List, ◌++◌, ℕ, ◌+◌, ◌-◌, ◌*◌, ◌≤◌, ◌<◌, ltb, length, take}
use Rattle.base.specs.Rows.{row}
use Rattle.book.specs.Faults.{view_refusal}
use Rattle.book.specs.Layout.{year_said, cycles_of, book_length}
use Rattle.book_writer.specs.Writing.{bodies_in}
use Rattle.command.specs.Text.{ascii, decimal}
use Rattle.cycle.specs.Cycle.{cycle_length, is_cycle, instant_of}
use Rattle.time_code.specs.Calendar.{in_span}
use Rattle.book_shelf.specs.declared.Shelf.{Shelf}

-- ---- rooms of so many bytes

-- for some cycles, 255 at most, and the frames of one more
pub record Roomy (size : ℕ) : Type 0 where
  pub least : cycle_length ≤ size
  pub most : size ≤ cycle_length * 256

-- the frames of one more than is gathered
pub record Fits (size : ℕ) (s : Shelf) : Type 0 where
  pub roomy : Roomy size
  pub one_more : cycle_length * (s.cycles + 1) ≤ size

-- ---- what is gathered

-- the cycles lie end to end from the start of the room on: each is one of the year, and their instants rise
pub record Kept (y : ℕ) (room : List ℕ) (s : Shelf) : Type 0 where
  pub each_cycle : (i : ℕ) → i < s.cycles → is_cycle y (row cycle_length room i) ≡ true
  pub rise : (i : ℕ) → 0 < i → i < s.cycles → instant_of y (row cycle_length room (i - 1)) < instant_of y (row cycle_length room i)
  pub last_is : 0 < s.cycles → s.last ≡ instant_of y (row cycle_length room (s.cycles - 1))

-- a turn keeps a room for the next; where more may come, more frames were read; what is gathered stays, and what is added is such a cycle
pub record TurnPromise (y : ℕ) (old new : List ℕ) (s r : Shelf) : Type 0 where
  pub fits : Fits (length old) r
  pub further : r.more ≡ true → s.frames < r.frames
  pub stays : take (cycle_length * s.cycles) new ≡ take (cycle_length * s.cycles) old
  pub kept : Kept y old s → Kept y new r

-- all turns
pub record GatherPromise (y : ℕ) (old new : List ℕ) (r : Shelf) : Type 0 where
  pub fits : Fits (length old) r
  pub kept : Kept y new r

-- ---- the book

-- so many whole cycles of a year, 255 at most, that rise
pub record Bound (y : ℕ) (bodies : List ℕ) : Type 0 where
  pub year_in : in_span y ≡ true
  pub count : ℕ
  pub few : count ≤ 255
  pub length-is : length bodies ≡ cycle_length * count
  pub each_cycle : (i : ℕ) → i < count → is_cycle y (row cycle_length bodies i) ≡ true
  pub rise : (i : ℕ) → 0 < i → i < count → instant_of y (row cycle_length bodies (i - 1)) < instant_of y (row cycle_length bodies i)

-- and a room of their book's length
pub record Writable (y : ℕ) (bodies out : List ℕ) : Type 0 where
  pub bound : Bound y bodies
  pub room_is : length out ≡ book_length bound.count

-- how long a book of so many cycles is, 0 where there is none
abbrev pub room_for : ℕ → ℕ
room_for n = cond (ltb 255 n) 0 (book_length n)

-- the book is never refused: it is accepted, and it has this year and these cycles
pub record MadePromise (y : ℕ) (bodies out : List ℕ) : Type 0 where
  pub accepted : view_refusal out ≡ 0
  pub year_is : year_said out ≡ y
  pub cycles_are : cycles_of out ≡ bodies_in bodies

-- ---- text

abbrev pub room_text : ℕ → List ℕ
room_text most = (ascii "a cycle more than the " ++ decimal most) ++ ascii " that there is room for"
