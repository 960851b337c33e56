-- What the entries of word 72 leave in the lent places: what the item, the kind or the reading is, as numbers, or what was there before.
-- Definitions only.
use Rattle.std.specs.Prelude.{◌≡◌, List, [], ◌∷◌, map, ℕ, Float, replicate}
use Rattle.base.specs.Refusals.{answered, refusal}
use Rattle.word72_items.specs.declared.Form.{Form}
use Rattle.word72_items.specs.declared.Form.TheVariants as form
use Rattle.word72_items.specs.declared.Item.{Item}
use Rattle.word72_items.specs.ItemTable.{count_of_items, item_of}
use Rattle.word72_items.specs.Answers.{item_lines, count_lines}
use Rattle.word72_column.specs.Columns.{kind_of, kind_lines}
use Rattle.word72_reading.specs.Values.{Value, count, flags, number, time, fill}
use Rattle.subcom.specs.Readings.{read_lines, item_value}
use Rattle.base.specs.Lists.{one as flag}

-- the forms by number
abbrev pub form_number : Form → ℕ
form_number form.Count = 0
form_number form.TwelveBit = 1
form_number form.Flags = 2
form_number form.Number = 3
form_number form.Time = 4
form_number form.Fill = 5

-- an item as its form, its first place and its length
abbrev pub item_numbers : Item → List ℕ
item_numbers i = form_number i.form ∷ i.first ∷ i.length ∷ []

-- A value as nine numbers. The first says what it is: 0 a count, 2 flags, 3 a number, 4 a time, 5 fill. It is not the item's form: a 12-bit
-- item reads as a count, and so gives 0. Then the count, or bits 0 to 7, or spacecraft number and instant; the rest are 0.
abbrev pub value_numbers : Value → List ℕ
value_numbers (count n) = 0 ∷ n ∷ replicate 7 0
value_numbers (flags l) = 2 ∷ map flag l
value_numbers (number v) = 3 ∷ replicate 8 0
value_numbers (time s i) = 4 ∷ s ∷ i ∷ replicate 6 0
value_numbers fill = 5 ∷ replicate 8 0

-- a number's double has a place of its own, which other values leave as it was
abbrev pub double_or : Float → Value → Float
double_or old (count n) = old
double_or old (flags l) = old
double_or old (number v) = v
double_or old (time s i) = old
double_or old fill = old

-- ---- what the entries promise: the number of the refusal, and each lent place, old before the call and new after it

pub record KindCrossed (year : ℕ) (column : List ℕ) (r old new : ℕ) : Type 0 where
  pub refusal_is : r ≡ refusal (kind_lines year column)
  pub kind_is : new ≡ answered (λ n. old) (kind_lines year column) (kind_of column)

pub record CountCrossed (kind r old new : ℕ) : Type 0 where
  pub refusal_is : r ≡ refusal (count_lines kind)
  pub count-is : new ≡ answered (λ n. old) (count_lines kind) (count_of_items kind)

pub record DescribeCrossed (kind item r : ℕ) (old new : List ℕ) : Type 0 where
  pub refusal_is : r ≡ refusal (item_lines kind item)
  pub item_is : new ≡ answered (λ n. old) (item_lines kind item) (item_numbers (item_of kind item))

pub record ReadCrossed (year : ℕ) (column : List ℕ) (kind item r : ℕ) (old new : List ℕ) (x y : Float) : Type 0 where
  pub refusal_is : r ≡ refusal (read_lines year column kind item)
  pub values-are : new ≡ answered (λ n. old) (read_lines year column kind item) (value_numbers (item_value column kind item))
  pub double_is : y ≡ answered (λ n. x) (read_lines year column kind item) (double_or x (item_value column kind item))
