-- What the bytes of an item are, by its form, and when they are refused (01, "Word 72 and its items" and "Refusal numbers"; 02, request 4).
-- Nothing here speaks of the code's answer; Readings.antt ties its cases to these values. Definitions only.
use Rattle.std.specs.Prelude.{Bool, cond, not, ◌||◌, List, [], ◌∷◌, ℕ, ◌+◌, ◌-◌, ◌*◌, ◌/◌, ◌%◌, ◌^◌, eqb, leb, Float, length, get_or}
use Rattle.base.specs.Numbers.{big_endian}
use Rattle.base.specs.declared.refusal.Refusal.TheVariants.{TimeOutOfRange, UpperBitsSet, NotNormalised}
use Rattle.base.specs.Refusals.{Line, ◌when◌}
use Rattle.float1750.specs.Word.{is_zero, normalised, value}
use Rattle.time_code.specs.Fields.{is_time, spacecraft, instant}
use Rattle.word72_items.specs.declared.Form.{Form}
use Rattle.word72_items.specs.declared.Form.TheVariants as form

pub data Value : Type 0 where
  count : ℕ → Value
  flags : List Bool → Value  -- bits 0 to 7
  number : Float → Value
  time : ℕ → ℕ → Value  -- spacecraft number and instant
  fill : Value

-- the book's bit j of a byte; bit 0 is the most significant (DFCB section 3.1)
abbrev pub bit : ℕ → ℕ → Bool
bit b j = eqb (b / 2 ^ (7 - j) % 2) 1

abbrev pub bits : ℕ → List Bool
bits b = bit b 0 ∷ bit b 1 ∷ bit b 2 ∷ bit b 3 ∷ bit b 4 ∷ bit b 5 ∷ bit b 6 ∷ bit b 7 ∷ []

-- the line of the refusal table that a form has; a time is one of the year y
abbrev pub lines : ℕ → Form → List ℕ → List Line
lines y form.Count bs = []
lines y form.TwelveBit bs = UpperBitsSet when not (eqb (get_or bs 0 0 / 16) 0) ∷ []
lines y form.Flags bs = []
lines y form.Number bs = NotNormalised when not (is_zero bs || normalised bs) ∷ []
lines y form.Time bs = TimeOutOfRange when not (is_time y bs) ∷ []
lines y form.Fill bs = []

-- what the bytes are where that line does not hold: a number's double is that of the word, and `exact` in Promise.antt says which
-- equation over whole numbers it meets
abbrev pub value_of : Form → List ℕ → Value
value_of form.Count bs = cond (leb (length bs) 8) (count (big_endian bs)) fill
value_of form.TwelveBit bs = count (get_or bs 0 0 % 16 * 256 + get_or bs 1 0)
value_of form.Flags bs = flags (bits (get_or bs 0 0))
value_of form.Number bs = number (value bs)
value_of form.Time bs = time (spacecraft bs) (instant bs)
value_of form.Fill bs = fill
