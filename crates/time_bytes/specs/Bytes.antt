-- The seven bytes of a time code (01, "Time"; DFCB table 12), of its fields and of an instant. Definitions only.
use Rattle.std.specs.Prelude.{Bool, cond, ◌&&◌, List, [], ◌∷◌, ℕ, ◌+◌, ◌*◌, ◌/◌, ◌%◌, eqb, leb, length}
use Rattle.time_fields.specs.Fields.{day_of, hour_of, minute_of, second_of, millisecond_of, sixteenth_of}

-- the byte of two half bytes, and of the two decimal digits of n
abbrev pub halves : ℕ → ℕ → ℕ
halves a b = a * 16 + b

abbrev pub bcd : ℕ → ℕ
bcd n = halves (n / 10) (n % 10)

-- the seven bytes of the fields
abbrev pub packed : ℕ → ℕ → ℕ → ℕ → ℕ → ℕ → ℕ → List ℕ
packed c d h m s ms x = halves c (d / 100) ∷ bcd (d % 100) ∷ bcd h ∷ bcd m ∷ bcd s ∷ bcd (ms / 10) ∷ halves (ms % 10) x ∷ []

-- the seven bytes of the spacecraft number c and the instant i
unfoldable pub code_of : ℕ → ℕ → List ℕ
code_of c i = packed c (day_of i) (hour_of i) (minute_of i) (second_of i) (millisecond_of i) (sixteenth_of i)

-- whether so many bytes hold it: seven, a spacecraft number of half a byte, and a day of a year
abbrev pub fits : ℕ → ℕ → ℕ → Bool
fits room c i = eqb room 7 && leb c 15 && leb (day_of i) 366

-- the lent bytes afterwards: where the code does not fit, as they were
unfoldable pub put_after : ℕ → ℕ → List ℕ → List ℕ
put_after c i out = cond (fits (length out) c i) (code_of c i) out
