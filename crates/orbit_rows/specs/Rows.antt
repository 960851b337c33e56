-- A line of the records' values (docs/orbit.md): cycle, major frame, record, item, unit, value or refusal number, instant and its fields.
-- Definitions only.
use Rattle.std.specs.Prelude.{cond, List, [], ◌∷◌, ◌++◌, ℕ, ◌/◌, ◌%◌, eqb, Option, Some, None, Result, Ok, Err}
use Prim.Native.String.{String}
use Rattle.base.specs.Lists.{concat_map}
use Rattle.command.specs.Lines.{line_in}
use Rattle.command.specs.Text.{ascii, decimal}
use Rattle.csv_fields.specs.Fields.{number_field}
use Rattle.orbit_rows.specs.declared.Row.{Row}

-- ---- an instant: sixteenths of a millisecond, from which the fields of a time code are counted

-- two numbers, each behind a comma
abbrev pub pair_text : ℕ → ℕ → List ℕ
pair_text a b = number_field a ++ number_field b

-- the instant, the year, the day, the hour
abbrev pub date_text : ℕ → ℕ → List ℕ
date_text year instant = pair_text instant year ++ pair_text (instant / 1382400000) (instant / 57600000 % 24)

-- the minute, the second, the millisecond, the sixteenth
abbrev pub clock_text : ℕ → List ℕ
clock_text instant = pair_text (instant / 960000 % 60) (instant / 16000 % 60) ++ pair_text (instant / 16 % 1000) (instant % 16)

-- all fields are empty where there is no instant
abbrev pub when_text : ℕ → Option ℕ → List ℕ
when_text year None = ascii ",,,,,,,,\n"
when_text year (Some instant) = (date_text year instant ++ clock_text instant) ++ ascii "\n"

-- ---- a line

abbrev pub refusal_text : ℕ → List ℕ
refusal_text number = cond (eqb number 0) (ascii ",") (number_field number)

-- record, item and unit of each value, between commas
abbrev pub names : List String
names =
    ",ephemeris,x,m,"
    ∷ ",ephemeris,y,m,"
    ∷ ",ephemeris,z,m,"
    ∷ ",ephemeris,vx,m/ms,"
    ∷ ",ephemeris,vy,m/ms,"
    ∷ ",ephemeris,vz,m/ms,"
    ∷ ",attitude,epa1,count,"
    ∷ ",attitude,epa2,count,"
    ∷ ",attitude,epa3,count,"
    ∷ ",attitude,epa4,count,"
    ∷ ",temperatures,temp1,degC,"
    ∷ ",temperatures,temp2,degC,"
    ∷ ",temperatures,temp3,degC,"
    ∷ ",temperatures,temp4,degC,"
    ∷ ",gyro drift,x,rad/s,"
    ∷ ",gyro drift,y,rad/s,"
    ∷ ",gyro drift,z,rad/s,"
    ∷ ",clock,updated,s,"
    ∷ ",clock,bias,count,"
    ∷ ",clock,rate,count,"
    ∷ ",clock,acceleration,count,"
    ∷ []

abbrev pub name_text : List ℕ
name_text = concat_map (λ (s : String). ascii s ++ (0x0a ∷ [])) names

abbrev pub start_text : Row → ℕ → List ℕ
start_text row name = (decimal row.cycle ++ number_field row.frame) ++ line_in name_text name

abbrev pub end_text : Row → ℕ → List ℕ
end_text row number = refusal_text number ++ when_text row.year row.instant

-- of a value with this text; a refused record has no value
abbrev pub row_text : {V : Type 0} → (V → List ℕ) → Row → ℕ → Result V ℕ → List ℕ
row_text text row name (Ok value) = (start_text row name ++ text value) ++ end_text row 0
row_text text row name (Err number) = start_text row name ++ end_text row number
