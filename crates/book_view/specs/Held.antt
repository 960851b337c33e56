-- What a view of a book holds (02, request 7). Definitions only.
use Rattle.std.specs.Prelude.{cond, List, [], ℕ, eqb, length}
use Rattle.book_parts.specs.declared.Place.{Place}
use Rattle.book.specs.Faults.{view_refusal}
use Rattle.book_parts.specs.Parts.{place, nowhere}

-- the book, from its first byte to its last; nothing where it is refused
unfoldable pub held_place : List ℕ → Place
held_place b = cond (eqb (view_refusal b) 0) (place 0 (length b)) nowhere

unfoldable pub held_of : List ℕ → List ℕ
held_of b = cond (eqb (view_refusal b) 0) b []
