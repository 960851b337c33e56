-- What word 72's entries promise of an answer, said of what crosses: the lent place holds what the answer gives, or what was there where it
-- gives nothing. Assumes nothing.
use Rattle.std.proofs.Common.{◌≡◌, ap, ◌∙◌, List, [], ◌∷◌, ℕ, Result, Ok, Err}
use lib.Ieee.{Float}
use Rattle.base.specs.declared.refusal.Refusal.{Refusal}
use Rattle.base.specs.Refusals.{Line, answered, number_of, values_of, given_or}
use Rattle.base.proofs.Lines.{answered-of}
use Rattle.word72_items.specs.declared.Item.{Item}
use Rattle.word72_items.specs.ItemTable.{count_of_items}
use Rattle.word72_items.specs.Answers.{count_lines, item_lines, counted}
use Rattle.word72_items.specs.Promise.{CountPromise, DescribePromise}
use Rattle.word72_column.specs.Columns.{kind_of, kind_lines, column_kind}
use Rattle.word72_column.specs.Promise.{KindPromise}
use Rattle.word72_reading.specs.declared.Reading.{Reading}
use Rattle.word72_reading.specs.Readings as reading
use Rattle.subcom.specs.Readings.{read_lines}
use Rattle.subcom.specs.Promise.{ReadPromise}
use Rattle.word72_api.specs.Word72.{item_numbers, value_numbers, double_or, KindCrossed, CountCrossed, DescribeCrossed, ReadCrossed}

-- ---- what is given crosses as it is

pub kind_crossed : (year : ℕ) (column : List ℕ) (r : Result ℕ Refusal) (old : ℕ) → KindPromise year column r
    → KindCrossed year column (number_of r) old (given_or old r)
unfolding column_kind
kind_crossed year column r old p =
    record {
      refusal_is = p.refusal_is;
      kind_is = ap (given_or old) p.answer ∙ answered-of (given_or old) Err (kind_lines year column) (Ok (kind_of column));
    }

pub count-crossed : (kind : ℕ) (r : Result ℕ Refusal) (old : ℕ) → CountPromise kind r
    → CountCrossed kind (number_of r) old (given_or old r)
unfolding counted
count-crossed kind r old p =
    record {
      refusal_is = p.refusal_is;
      count-is = ap (given_or old) p.answer ∙ answered-of (given_or old) Err (count_lines kind) (Ok (count_of_items kind));
    }

-- ---- what is given crosses as numbers

module _ {A B : Type 0} (put : A → B) (old : B) where
  -- what is put for the one value of a list, and what was there for none
  abbrev pub put_or : List A → B
  put_or [] = old
  put_or (x ∷ l) = put x

  crossed : (l : List A) (ls : List Line) (v : A) → l ≡ answered (λ n. []) ls (v ∷ []) → put_or l ≡ answered (λ n. old) ls (put v)
  crossed l ls v p = ap put_or p ∙ answered-of put_or (λ n. []) ls (v ∷ [])

pub describe_crossed : (kind item : ℕ) (r : Result Item Refusal) (old : List ℕ) → DescribePromise kind item r
    → DescribeCrossed kind item (number_of r) old (put_or item_numbers old (values_of r))
describe_crossed kind item r old p =
    record { refusal_is = p.refusal_is; item_is = crossed item_numbers old _ (item_lines kind item) _ p.item_is }

pub read-crossed : (year : ℕ) (column : List ℕ) (kind item : ℕ) (r : Result Reading Refusal) (old : List ℕ) (x : Float)
    → ReadPromise year column kind item r
    → ReadCrossed year column kind item (number_of r) old (put_or value_numbers old (reading.values_of r)) x (put_or (double_or x) x (reading.values_of r))
read-crossed year column kind item r old x p =
    record {
      refusal_is = p.refusal_is;
      values-are = crossed value_numbers old _ (read_lines year column kind item) _ p.value-is;
      double_is = crossed (double_or x) x _ (read_lines year column kind item) _ p.value-is;
    }
