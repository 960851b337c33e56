-- Symbols as the digits of one number to the base of 16, as the code holds them. Definitions only.
use Rattle.std.specs.Prelude.{List, [], ◌∷◌, ℕ, zero, suc, ◌+◌, ◌*◌, ◌/◌, ◌%◌, ◌^◌, length, get_or}
use Rattle.header_code.specs.Field.{◌⊕◌}

-- the last n digits of x, the first one highest
unfoldable pub symbols_of : ℕ → ℕ → List ℕ
symbols_of zero x = []
symbols_of (suc n) x = x / 16 ^ n % 16 ∷ symbols_of n x

-- the number that the symbols are
abbrev pub number_of : List ℕ → ℕ
number_of [] = 0
number_of (c ∷ w) = c * 16 ^ length w + number_of w

-- of a table of sixteen entries for each place, counted from the last symbol, the entries of a word's symbols, added up
abbrev pub combined : List ℕ → List ℕ → ℕ
combined table [] = 0
combined table (c ∷ w) = get_or table (length w * 16 + c) 0 ⊕ combined table w

-- four symbols in one number: the values at a^6, a^7, a^8 and a^9
abbrev pub packed : ℕ → ℕ → ℕ → ℕ → ℕ
packed p q r s = ((p * 16 + q) * 16 + r) * 16 + s
