-- What a book's header says, and when it is refused (02, request 7). Definitions only.
use Rattle.std.specs.Prelude.{Bool, not, ◌&&◌, List, [], ◌∷◌, ℕ, leb, length}
use Rattle.base.specs.declared.refusal.Refusal.TheVariants.{WrongBookLength}
use Rattle.base.specs.Refusals.{Line, ◌when◌, answered, refusal}
use Rattle.book.specs.declared.header.Header.{Header}
use Rattle.book.specs.Layout.{header_length, cycles_said, year_said}
use Rattle.book.specs.Faults.{contents, is_sized}

-- the length is that of a book of as many cycles as it says, and these are at most 255
unfoldable pub has_size : List ℕ → Bool
has_size b = leb header_length (length b) && is_sized (contents b)

-- 16, and nothing else, is tested
abbrev pub header_lines : List ℕ → List Line
header_lines b = WrongBookLength when not (has_size b) ∷ []

unfoldable pub header_refusal : List ℕ → ℕ
header_refusal b = refusal (header_lines b)

-- what it says
abbrev pub header_of : List ℕ → Header
header_of b = record { cycles = cycles_said b; year = year_said b }

-- the number of cycles and the year, 0 where they are refused
unfoldable pub count_of : List ℕ → ℕ
count_of b = answered (λ n. 0) (header_lines b) (cycles_said b)

unfoldable pub year_of : List ℕ → ℕ
year_of b = answered (λ n. 0) (header_lines b) (year_said b)
