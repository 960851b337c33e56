-- The code's answer: 01's value in each of its cases, and the case that carries a value. Definitions only.
use Rattle.std.specs.Prelude.{Bool, false, not, List, [], ◌∷◌, ℕ, length, get_or, Result, Ok, Err}
use Rattle.base.specs.declared.refusal.Refusal.{Refusal}
use Rattle.base.specs.declared.refusal.Refusal.TheVariants.{WrongLength, YearOutsideSpan}
use Rattle.base.specs.Refusals.{Line, ◌when◌, answered}
use Rattle.time_code.specs.Calendar.{in_span}
use Rattle.word72_items.specs.declared.Form.{Form}
use Rattle.word72_items.specs.ItemTable.{suits}
use Rattle.word72_reading.specs.declared.EightFlags.{EightFlags}
use Rattle.word72_reading.specs.declared.Reading.{Reading}
use Rattle.word72_reading.specs.declared.Reading.TheVariants.{Count, Flags, Number, Time, Fill}
use Rattle.word72_reading.specs.Values.{Value, count, flags, number, time, fill, lines, value_of}

abbrev pub bits_in : EightFlags → List Bool
bits_in f = f.bit0 ∷ f.bit1 ∷ f.bit2 ∷ f.bit3 ∷ f.bit4 ∷ f.bit5 ∷ f.bit6 ∷ f.bit7 ∷ []

abbrev pub value_in : Reading → Value
value_in (Count n) = count n
value_in (Flags f) = flags (bits_in f)
value_in (Number v) = number v
value_in (Time t) = time t.spacecraft t.instant
value_in Fill = fill

-- what is given, none where it is refused
abbrev pub values_of : Result Reading Refusal → List Value
values_of (Ok r) = value_in r ∷ []
values_of (Err n) = []

-- ---- the case that carries a value

abbrev pub flags_of : List Bool → EightFlags
flags_of l =
    record {
      bit0 = get_or l 0 false;
      bit1 = get_or l 1 false;
      bit2 = get_or l 2 false;
      bit3 = get_or l 3 false;
      bit4 = get_or l 4 false;
      bit5 = get_or l 5 false;
      bit6 = get_or l 6 false;
      bit7 = get_or l 7 false;
    }

abbrev pub reading_of : Value → Reading
reading_of (count n) = Count n
reading_of (flags l) = Flags (flags_of l)
reading_of (number v) = Number v
reading_of (time s i) = Time (record { spacecraft = s; instant = i })
reading_of fill = Fill

-- ---- bytes of the year y, read by a form

-- where they are as many as the form asks for, and the year is in the span
abbrev pub suited_reading : ℕ → Form → List ℕ → Result Reading Refusal
suited_reading y f bs = answered Err (lines y f bs) (Ok (reading_of (value_of f bs)))

-- the papers' lines that concern it: 2 where the form asks for another number of bytes; 13, whatever the form; then 8, 9 or 10 as the form
-- has it
abbrev pub read_as_lines : ℕ → Form → List ℕ → List Line
read_as_lines y f bs = WrongLength when not (suits f (length bs)) ∷ YearOutsideSpan when not (in_span y) ∷ lines y f bs

unfoldable pub read_as : ℕ → Form → List ℕ → Result Reading Refusal
read_as y f bs = answered Err (read_as_lines y f bs) (Ok (reading_of (value_of f bs)))
