-- The line of an item of word 72. Definitions only.
use Rattle.std.specs.Prelude.{List, [], ◌++◌, ℕ, zero, suc, Result, Ok, Err}
use Rattle.std.specs.Result.{result_unwrap_or}
use Rattle.base.specs.declared.refusal.Refusal.{Refusal}
use Rattle.base.specs.Refusals.{number}
use Rattle.word72_items.specs.declared.Form.{Form}
use Rattle.word72_items.specs.declared.Form.TheVariants.{Count, TwelveBit, Flags, Number, Time, Fill}
use Rattle.word72_items.specs.declared.Item.{Item}
use Rattle.word72_items.specs.Answers.{described, counted}
use Rattle.word72_column.specs.Columns.{column_kind}
use Rattle.subcom.specs.Parts.{part_of}
use Rattle.subcom.specs.Readings.{reading}
use Rattle.command.specs.Text.{ascii, decimal}
use Rattle.csv_fields.specs.Fields.{csv_field, number_field}
use Rattle.word72_descriptions.specs.Descriptions.{description}
use Rattle.word72_csv.specs.Values.{reading_text, refused_text}

-- the frame, the kind, the item, its first place and its length
abbrev pub place_text : ℕ → ℕ → ℕ → Item → List ℕ
place_text frame kind item i =
    decimal frame
    ++ number_field kind
    ++ number_field item
    ++ number_field i.first
    ++ number_field i.length

abbrev pub form_text : Form → List ℕ
form_text Count = ascii ",count,"
form_text TwelveBit = ascii ",12-bit count,"
form_text Flags = ascii ",flags,"
form_text Number = ascii ",number,"
form_text Time = ascii ",time,"
form_text Fill = ascii ",fill,"

-- the same as lines
abbrev pub form_words : List ℕ
form_words = ascii ",count,\n,12-bit count,\n,flags,\n,number,\n,time,\n,fill,\n"

-- which line is a form's
abbrev pub form_line : Form → ℕ
form_line Count = 0
form_line TwelveBit = 1
form_line Flags = 2
form_line Number = 3
form_line Time = 4
form_line Fill = 5

-- a frame that has no items
abbrev pub refused_frame : ℕ → ℕ → List ℕ
refused_frame frame n = decimal frame ++ ascii ",,,,,," ++ refused_text n

abbrev pub line_for : ℕ → ℕ → List ℕ → ℕ → ℕ → Result Item Refusal → List ℕ
line_for year frame column kind item (Ok i) =
    place_text frame kind item i
    ++ form_text i.form
    ++ csv_field (description kind item)
    ++ reading_text year (reading year column kind item) (part_of column kind item)
line_for year frame column kind item (Err r) = refused_frame frame (number r)

abbrev pub item_line : ℕ → ℕ → List ℕ → ℕ → ℕ → List ℕ
item_line year frame column kind item = line_for year frame column kind item (described kind item)

-- the first n items of a kind
unfoldable pub item_lines : ℕ → ℕ → List ℕ → ℕ → ℕ → List ℕ
item_lines year frame column kind zero = []
item_lines year frame column kind (suc n) = item_lines year frame column kind n ++ item_line year frame column kind n

-- all items of a frame's column, none of a kind that is none; or its refusal
abbrev pub kind_text : ℕ → ℕ → List ℕ → Result ℕ Refusal → List ℕ
kind_text year frame column (Ok kind) = item_lines year frame column kind (result_unwrap_or (counted kind) 0)
kind_text year frame column (Err r) = refused_frame frame (number r)

abbrev pub frame_text : ℕ → ℕ → List ℕ → List ℕ
frame_text year frame column = kind_text year frame column (column_kind year column)
