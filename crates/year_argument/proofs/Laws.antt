-- A year that is named is one of the span. Assumes nothing.
use Rattle.std.proofs.Common.{◌≡◌, refl, Bool, true, false, cond, List, ℕ, Option, Some, None}
use Rattle.command.specs.Numbers.{number_in}
use Rattle.time_code.specs.Calendar.{in_span}
use Rattle.year_argument.specs.Years.{YearPromise, year_of, year_in}

spanned : (n : ℕ) (b : Bool) → in_span n ≡ b → YearPromise (cond b (Some n) None)
spanned n true e = record { in_span_fact = e }
spanned n false e = record { in_span_fact = tt }

named : (p : Option ℕ) → YearPromise (year_of p)
named (Some n) = spanned n (in_span n) refl
named None = record { in_span_fact = tt }

pub year_named : {r : Option ℕ} (word : List ℕ) → r ≡ year_in word → YearPromise r
unfolding year_in
year_named word e = rw e (named (number_in word))
