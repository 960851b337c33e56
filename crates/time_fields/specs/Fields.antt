-- The time code of seven bytes (01, "Time"; DFCB table 12): its half bytes, its fields, and the instant they name. Definitions only.
use Rattle.std.specs.Prelude.{Bool, true, cond, ◌&&◌, List, ℕ, zero, suc, ◌+◌, ◌*◌, ◌/◌, ◌%◌, eqb, leb, ltb, get_or}
use Rattle.calendar.specs.Calendar.{last_day}

-- half byte k, counted from 0; the upper half of a byte comes first
abbrev pub nibble : List ℕ → ℕ → ℕ
nibble w k = cond (eqb (k % 2) 0) (get_or w (k / 2) 0 / 16) (get_or w (k / 2) 0 % 16)

-- the number whose n decimal digits start at half byte k
abbrev pub digits : List ℕ → ℕ → ℕ → ℕ
digits w k zero = 0
digits w k (suc n) = digits w k n * 10 + nibble w (k + n)

-- the n half bytes from k on are decimal digits
abbrev pub decimal : List ℕ → ℕ → ℕ → Bool
decimal w k zero = true
decimal w k (suc n) = decimal w k n && ltb (nibble w (k + n)) 10

-- spacecraft number and hundreds of days; tens and units of days
abbrev pub spacecraft : List ℕ → ℕ
spacecraft w = nibble w 0

abbrev pub day : List ℕ → ℕ
day w = digits w 1 3

-- hours; minutes; seconds
abbrev pub hour : List ℕ → ℕ
hour w = digits w 4 2

abbrev pub minute : List ℕ → ℕ
minute w = digits w 6 2

abbrev pub second : List ℕ → ℕ
second w = digits w 8 2

-- hundreds and tens of milliseconds; units of milliseconds and sixteenths
abbrev pub millisecond : List ℕ → ℕ
millisecond w = digits w 10 3

abbrev pub sixteenth : List ℕ → ℕ
sixteenth w = nibble w 13

-- day 1 to the last of the year y, hour to 23, minute and second to 59
abbrev pub in_range : ℕ → ℕ → ℕ → ℕ → ℕ → Bool
in_range y d h m s = leb 1 d && leb d (last_day y) && leb h 23 && leb m 59 && leb s 59

-- a good time code of the year y: each half byte is a digit but the first and the last, and the fields are in range
unfoldable pub is_time : ℕ → List ℕ → Bool
is_time y w = decimal w 1 12 && in_range y (day w) (hour w) (minute w) (second w)

-- the number of sixteenths of a millisecond, day × 24 hours and on down
abbrev pub ticks : ℕ → ℕ → ℕ → ℕ → ℕ → ℕ → ℕ
ticks d h m s ms x = ((((d * 24 + h) * 60 + m) * 60 + s) * 1000 + ms) * 16 + x

abbrev pub instant : List ℕ → ℕ
instant w = ticks (day w) (hour w) (minute w) (second w) (millisecond w) (sixteenth w)

-- the same fields out of an instant
abbrev pub day_of : ℕ → ℕ
day_of i = i / (24 * 60 * 60 * 1000 * 16)

abbrev pub hour_of : ℕ → ℕ
hour_of i = i / (60 * 60 * 1000 * 16) % 24

abbrev pub minute_of : ℕ → ℕ
minute_of i = i / (60 * 1000 * 16) % 60

abbrev pub second_of : ℕ → ℕ
second_of i = i / (1000 * 16) % 60

abbrev pub millisecond_of : ℕ → ℕ
millisecond_of i = i / 16 % 1000

abbrev pub sixteenth_of : ℕ → ℕ
sixteenth_of i = i % 16
