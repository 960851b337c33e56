-- The code's generator (the book, B.1 (5)): the product of x - a^j for j from 6 to 9, coefficients from the highest on. Definitions only.
use Rattle.std.specs.Prelude.{List, [], ◌∷◌, ◌++◌, ℕ}
use Rattle.header_code.specs.Field.{times, power}
use Rattle.header_code.specs.Code.{add}

abbrev pub scaled : ℕ → List ℕ → List ℕ
scaled r [] = []
scaled r (c ∷ w) = times c r ∷ scaled r w

-- a polynomial times x - r, which is x + r
abbrev pub times_root : ℕ → List ℕ → List ℕ
times_root r w = add (w ++ (0 ∷ [])) (0 ∷ scaled r w)

abbrev pub generator : List ℕ
generator = times_root (power 9) (times_root (power 8) (times_root (power 7) (times_root (power 6) (1 ∷ []))))
