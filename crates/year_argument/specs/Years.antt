-- The year that a word names. Definitions only.
use Rattle.std.specs.Prelude.{◌≡◌, true, cond, List, ℕ, Option, Some, None, IfSome}
use Rattle.command.specs.Numbers.{number_in}
use Rattle.time_code.specs.Calendar.{in_span}

-- a number of the span, else none
abbrev pub year_of : Option ℕ → Option ℕ
year_of (Some n) = cond (in_span n) (Some n) None
year_of None = None

unfoldable pub year_in : List ℕ → Option ℕ
year_in word = year_of (number_in word)

-- none, or a year of the span
pub record YearPromise (r : Option ℕ) : Type 0 where
  pub in_span_fact : IfSome r (λ (year : ℕ). in_span year ≡ true)
