-- Sums of bytes. Definitions only.
use Rattle.std.specs.Prelude.{Bool, true, not, List, [], ◌∷◌, ℕ, ◌+◌, ◌*◌, ◌%◌, min, eqb}
use Rattle.base.specs.Lists.{one}

-- a checksum with one number more
abbrev pub mixed : ℕ → ℕ → ℕ
mixed h n = (h % 4294967291 * 31 + n % 4294967291) % 4294967291

-- a sum that stops at the largest number of 64 bits
abbrev pub capped : ℕ → ℕ → ℕ
capped a b = min (a + b) 18446744073709551615

abbrev pub is_other : ℕ → ℕ → Bool
is_other b x = not (eqb x b)

-- whether the list begins with another byte than b, or with none
abbrev pub is_other_first : ℕ → List ℕ → Bool
is_other_first b [] = true
is_other_first b (x ∷ xs) = is_other b x

abbrev pub rest : List ℕ → List ℕ
rest [] = []
rest (x ∷ xs) = xs

-- at how many places of the first list the second has another byte, or none
abbrev pub differ : List ℕ → List ℕ → ℕ
differ [] ys = 0
differ (x ∷ xs) ys = one (is_other_first x ys) + differ xs (rest ys)
