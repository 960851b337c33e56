-- What an item reads as in fields of a line: value, spacecraft, time, refusal and its meaning, each behind a comma, up to the line's end.
-- Definitions only.
use Rattle.std.specs.Prelude.{Bool, cond, List, [], ◌∷◌, ◌++◌, ℕ, ◌/◌, ◌%◌, Float, Result, Ok, Err}
use Rattle.base.specs.declared.refusal.Refusal.{Refusal}
use Rattle.base.specs.Refusals.{number}
use Rattle.base.specs.Lists.{concat_map}
use Rattle.io.specs.Digits.{hex_digit_ascii}
use Rattle.time_code.specs.declared.TimeCode.{TimeCode}
use Rattle.word72_reading.specs.declared.EightFlags.{EightFlags}
use Rattle.word72_reading.specs.declared.Reading.{Reading}
use Rattle.word72_reading.specs.declared.Reading.TheVariants.{Count, Flags, Number, Time, Fill}
use Rattle.command.specs.Text.{ascii, decimal}
use Rattle.command.specs.Words.{refusal_words}
use Rattle.csv_fields.specs.Fields.{number_field}
use Rattle.double_text.specs.Decimal.{double_text}
use Rattle.instant_text.specs.Instants.{clock_text}

abbrev pub bit_glyph : Bool → ℕ
bit_glyph b = cond b 0x31 0x30

-- two hexadecimal digits
abbrev pub hex_byte : ℕ → List ℕ
hex_byte b = (hex_digit_ascii (b / 16) ∷ []) ++ (hex_digit_ascii (b % 16) ∷ [])

unfoldable pub hex_text : List ℕ → List ℕ
hex_text bytes = concat_map hex_byte bytes

-- ---- the fields of each case

-- no spacecraft, no time and no refusal
abbrev pub no_more : List ℕ
no_more = ascii ",,,,\n"

abbrev pub count_text : ℕ → List ℕ
count_text n = number_field n ++ no_more

-- bits 0 to 7
abbrev pub flags_text : EightFlags → List ℕ
flags_text f =
    (0x2c ∷ 0x62
    ∷ bit_glyph f.bit0 ∷ bit_glyph f.bit1 ∷ bit_glyph f.bit2 ∷ bit_glyph f.bit3
    ∷ bit_glyph f.bit4 ∷ bit_glyph f.bit5 ∷ bit_glyph f.bit6 ∷ bit_glyph f.bit7 ∷ [])
    ++ no_more

abbrev pub number_text : Float → List ℕ
number_text x = ascii "," ++ double_text x ++ no_more

abbrev pub time_text : ℕ → TimeCode → List ℕ
time_text year t = number_field t.instant ++ number_field t.spacecraft ++ clock_text year t.instant ++ ascii ",,\n"

abbrev pub fill_text : List ℕ → List ℕ
fill_text bytes = ascii ",x" ++ hex_text bytes ++ no_more

abbrev pub refused_text : ℕ → List ℕ
refused_text n = (ascii ",,,," ++ decimal n) ++ ascii ",\"" ++ refusal_words n ++ ascii "\"\n"

abbrev pub reading_text : ℕ → Result Reading Refusal → List ℕ → List ℕ
reading_text year (Ok (Count n)) bytes = count_text n
reading_text year (Ok (Flags f)) bytes = flags_text f
reading_text year (Ok (Number x)) bytes = number_text x
reading_text year (Ok (Time t)) bytes = time_text year t
reading_text year (Ok Fill) bytes = fill_text bytes
reading_text year (Err r) bytes = refused_text (number r)
