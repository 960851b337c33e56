-- The bytes of a VCDU header (02, request 11; the book, 3.1.2.2.1): version, spacecraft and virtual channel in bytes 0 and 1, the counter in
-- bytes 2 to 4, the signalling byte, and two bytes of check symbols. Definitions only.
use Rattle.std.specs.Prelude.{cond, List, [], ◌∷◌, ◌++◌, ℕ, ◌+◌, ◌*◌, ◌/◌, ◌%◌, eqb, length, get_or}
use Rattle.base.specs.Lists.{concat_map}

-- a byte's two symbols, the upper four bits first
abbrev pub halves : ℕ → List ℕ
halves b = b / 16 ∷ b % 16 ∷ []

-- the bytes of a code word: all but the counter
abbrev pub protected : List ℕ → List ℕ
protected h = get_or h 0 0 ∷ get_or h 1 0 ∷ get_or h 5 0 ∷ get_or h 6 0 ∷ get_or h 7 0 ∷ []

-- the ten symbols: six of the header, then the four check symbols
abbrev pub symbols : List ℕ → List ℕ
symbols h = concat_map halves (protected h)

-- the 24-bit counter, which is not protected
abbrev pub counter : List ℕ → List ℕ
counter h = get_or h 2 0 ∷ get_or h 3 0 ∷ get_or h 4 0 ∷ []

-- two symbols of a word as a byte
abbrev pub byte_at : List ℕ → ℕ → ℕ
byte_at w i = get_or w i 0 * 16 + get_or w (i + 1) 0

-- the header with the ten symbols w and the counter of h
abbrev pub placed : List ℕ → List ℕ → List ℕ
placed w h = byte_at w 0 ∷ byte_at w 2 ∷ (counter h ++ (byte_at w 4 ∷ byte_at w 6 ∷ byte_at w 8 ∷ []))

-- the lent bytes after the symbols w were put into them: other than eight stay
abbrev pub put_after : List ℕ → List ℕ → List ℕ
put_after w h = cond (eqb (length h) 8) (placed w h) h
