-- What a cycle does to what is gathered for a book. Definitions only.
use Rattle.std.specs.Prelude.{◌≡◌, Bool, true, false, ◌||◌, ℕ, eqb, ltb}
use Rattle.book_shelf.specs.declared.Shelf.{Shelf}

-- the first cycle, or one later than the last that is gathered
abbrev pub rises_above : Shelf → ℕ → Bool
rises_above s instant = eqb s.cycles 0 || ltb s.last instant

abbrev pub left_out : Shelf → ℕ → Shelf
left_out s frames = record { cycles = s.cycles; last = s.last; frames = frames; more = true; all = false; failed = false }

abbrev pub added_to : Shelf → ℕ → ℕ → ℕ → Shelf
added_to s cycles frames instant = record { cycles = cycles; last = instant; frames = frames; more = true; all = s.all; failed = false }

-- none comes
pub record EndPromise (s r : Shelf) : Type 0 where
  pub same : r.cycles ≡ s.cycles
  pub last_same : r.last ≡ s.last
  pub over : r.more ≡ false
