-- The lines of a text. Definitions only.
use Rattle.std.specs.Prelude.{cond, List, [], ◌∷◌, ℕ, zero, suc, eqb}

-- the bytes before the first line feed
unfoldable pub first_line : List ℕ → List ℕ
first_line [] = []
first_line (b ∷ bs) = cond (eqb b 0x0a) [] (b ∷ first_line bs)

-- the bytes behind it
unfoldable pub after_line : List ℕ → List ℕ
after_line [] = []
after_line (b ∷ bs) = cond (eqb b 0x0a) bs (after_line bs)

-- line n, counted from 0
unfoldable pub line_in : List ℕ → ℕ → List ℕ
line_in text zero = first_line text
line_in text (suc n) = line_in (after_line text) n
