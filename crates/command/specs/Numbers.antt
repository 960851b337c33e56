-- A number as an argument names it. Definitions only.
use Rattle.std.specs.Prelude.{Bool, true, cond, ◌&&◌, List, [], ◌∷◌, ℕ, ◌+◌, ◌-◌, ◌*◌, leb, ltb, length, Option, Some, None}

abbrev pub is_digit : ℕ → Bool
is_digit b = leb 48 b && leb b 57

abbrev pub digit_of : ℕ → ℕ
digit_of b = cond (is_digit b) (b - 48) 0

-- what a byte counts that is a digit
abbrev pub digit_in : ℕ → Option ℕ
digit_in b = cond (is_digit b) (Some (digit_of b)) None

unfoldable pub all_digits : List ℕ → Bool
all_digits [] = true
all_digits (b ∷ bs) = is_digit b && all_digits bs

-- what n becomes by the digits that follow it
unfoldable pub grown : ℕ → List ℕ → ℕ
grown n [] = n
grown n (b ∷ bs) = grown (n * 10 + digit_of b) bs

-- 1 to 19 decimal digits, and nothing else
abbrev pub number_in : List ℕ → Option ℕ
number_in text = cond (ltb 0 (length text) && leb (length text) 19 && all_digits text) (Some (grown 0 text)) None
