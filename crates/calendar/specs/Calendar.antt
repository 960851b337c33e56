-- The years that a time code can be of, and the last day of each (02, request 4). Definitions only.
use Rattle.std.specs.Prelude.{Bool, cond, ◌&&◌, ℕ, ◌%◌, eqb, leb}

-- 1999 to 2099
unfoldable pub in_span : ℕ → Bool
in_span y = leb 1999 y && leb y 2099

-- day 366 is good only if the year is divisible by 4; no century exception falls in that span
unfoldable pub is_leap : ℕ → Bool
is_leap y = eqb (y % 4) 0

abbrev pub last_day : ℕ → ℕ
last_day y = cond (is_leap y) 366 365
