-- What is written for a year and the bodies of cycles end to end, and when it is refused (02, request 7). Definitions only.
use Rattle.std.specs.Prelude.{not, List, [], ◌∷◌, ◌++◌, ℕ, ◌%◌, eqb, length}
use Rattle.base.specs.declared.refusal.Refusal.TheVariants.{WrongLength}
use Rattle.base.specs.Refusals.{Line, ◌when◌, answered, refusal}
use Rattle.base.specs.Rows.{rows}
use Rattle.cycle.specs.Cycle.{cycle_length}
use Rattle.book.specs.Layout.{book_length, book}
use Rattle.book.specs.Faults.{contents_of, faults, lines_of}

-- the bodies, one by one
abbrev pub bodies_in : List ℕ → List (List ℕ)
bodies_in bodies = rows cycle_length bodies

-- 2: no whole number of bodies, or a buffer that does not fit them
abbrev pub length_lines : List ℕ → List ℕ → List Line
length_lines bodies out =
    WrongLength when not (eqb (length bodies % cycle_length) 0)
    ∷ WrongLength when not (eqb (length out) (book_length (length (bodies_in bodies)))) ∷ []

-- then the faults of such a book
abbrev pub write_lines : ℕ → List ℕ → List ℕ → List Line
write_lines y bodies out = length_lines bodies out ++ lines_of (faults (contents_of y (bodies_in bodies)))

unfoldable pub write_refusal : ℕ → List ℕ → List ℕ → ℕ
write_refusal y bodies out = refusal (write_lines y bodies out)

-- the lent bytes afterwards
unfoldable pub write_after : ℕ → List ℕ → List ℕ → List ℕ
write_after y bodies out = answered (λ n. out) (write_lines y bodies out) (book y (bodies_in bodies))
