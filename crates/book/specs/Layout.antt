-- The bytes of a book, from its year and the list of its cycles' bodies, and what stands where in bytes that are to be a book (02, request 7).
-- Definitions only.
use Rattle.std.specs.Prelude.{List, [], ◌++◌, ℕ, ◌+◌, ◌*◌, length, get_or, take, drop}
use Rattle.base.specs.Numbers.{big_endian, bytes_of}
use Rattle.base.specs.Ranges.{tabulate, joined}
use Rattle.cycle.specs.Cycle.{cycle_length, instant_of}

-- the header: the number of cycles in 2 bytes, the year in 2; an entry: the instant in 8, the body's offset in 4
abbrev pub header_length : ℕ
header_length = 4

abbrev pub entry_length : ℕ
entry_length = 12

abbrev pub most_cycles : ℕ
most_cycles = 255

-- where body i of n starts
abbrev pub body_start : ℕ → ℕ → ℕ
body_start n i = header_length + entry_length * n + cycle_length * i

-- a book of n cycles ends where a body after its last would start
abbrev pub book_length : ℕ → ℕ
book_length n = body_start n n

unfoldable pub entry : ℕ → List (List ℕ) → ℕ → List ℕ
entry y cycles i = bytes_of 8 (instant_of y (get_or cycles i [])) ++ bytes_of 4 (body_start (length cycles) i)

-- the number of cycles, the year, the entries, the bodies
unfoldable pub book : ℕ → List (List ℕ) → List ℕ
book y cycles =
    let n = length cycles in
    bytes_of 2 n ++ (bytes_of 2 y ++ (joined (entry y cycles) 0 n ++ joined (λ i. get_or cycles i []) 0 n))

-- ---- what stands where

-- so many bytes from a place on
abbrev pub bytes_at : ℕ → ℕ → List ℕ → List ℕ
bytes_at start width b = take width (drop start b)

unfoldable pub cycles_said : List ℕ → ℕ
cycles_said b = big_endian (bytes_at 0 2 b)

unfoldable pub year_said : List ℕ → ℕ
year_said b = big_endian (bytes_at 2 2 b)

-- entry i
abbrev pub entry_start : ℕ → ℕ
entry_start i = header_length + entry_length * i

unfoldable pub instant_at : List ℕ → ℕ → ℕ
instant_at b i = big_endian (bytes_at (entry_start i) 8 b)

unfoldable pub offset_at : List ℕ → ℕ → ℕ
offset_at b i = big_endian (bytes_at (entry_start i + 8) 4 b)

-- body i, where it should start: no stored offset is trusted
unfoldable pub body_at : List ℕ → ℕ → List ℕ
body_at b i = bytes_at (body_start (cycles_said b) i) cycle_length b

-- the list of its bodies
unfoldable pub cycles_of : List ℕ → List (List ℕ)
cycles_of b = tabulate (body_at b) 0 (cycles_said b)
