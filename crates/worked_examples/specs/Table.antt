-- The worked examples of paper 01 marked P ("Bench examples"): what is asked, and the answer as 01 prints it. 02's request 4 has a time read
-- with its year, and adds the last day of a leap year and of a common one. Definitions only.
use Rattle.std.specs.Prelude.{Bool, true, false, ◌&&◌, List, [], ◌∷◌, ◌++◌, map, ℕ, ◌+◌, ◌*◌, ◌^◌, eqb, negsuc, Float, replicate}
use Rattle.std.specs.Float.{fin}
use Rattle.base.specs.Lists.{concat_map, one}
use Rattle.base.specs.Refusals.{number_of, values_of}
use Rattle.float1750.specs.Codec as number
use Rattle.float1750.specs.Double.{bits_of, sign_of, exponent, fraction}
use Rattle.float1750.specs.Word.{sign, magnitude, biased}
use Rattle.labelling.specs.declared.Word.{Word}
use Rattle.labelling.specs.declared.Word.TheVariants.{Voted, Erased}
use Rattle.labelling.specs.Words.{byte_vote}
use Rattle.subcom.specs.Readings.{reading}
use Rattle.time_code.specs.Codec as time
use Rattle.time_code.specs.Fields.{spacecraft, day, hour, minute, second, millisecond, sixteenth}
use Rattle.word72_reading.specs.Readings as item
use Rattle.word72_reading.specs.Values as value

-- ---- numbers as fractions

pub record Fraction : Type 0 where
  pub sign : ℕ  -- 1 where it is negative
  pub numerator : ℕ
  pub denominator : ℕ

infix 80 plus◌over◌
abbrev pub plus◌over◌ : ℕ → ℕ → Fraction
plus n over d = record { sign = 0; numerator = n; denominator = d }

infix 80 minus◌over◌
abbrev pub minus◌over◌ : ℕ → ℕ → Fraction
minus n over d = record { sign = 1; numerator = n; denominator = d }

-- m × 2^(e−39) is the fraction, said over whole numbers: |m| × 2^(e+128) × d = n × 2^167
abbrev pub word_is : List ℕ → Fraction → Bool
word_is w q = eqb (sign w) q.sign && eqb (magnitude w * 2 ^ biased w * q.denominator) (q.numerator * 2 ^ 167)

-- and so of a double, (2^52 + c) × 2^(x−1075)
abbrev pub double_is : Float → Fraction → Bool
double_is v q = eqb (sign_of v) q.sign && eqb ((2 ^ 52 + fraction v) * 2 ^ exponent v * q.denominator) (q.numerator * 2 ^ 1075)

-- ---- questions and answers

pub data Question : Type 0 where
  votes : ℕ → ℕ → ℕ → Question  -- three copies
  reads_number : List ℕ → Question  -- six bytes
  is_number : List ℕ → Fraction → Question  -- six bytes: is their number the fraction, and is the double that they read as
  writes_number : Float → Question  -- into six bytes that hold 0
  is_double : Float → Fraction → Question
  reads_time : ℕ → List ℕ → Question  -- a year and seven bytes
  has_fields : List ℕ → Question
  reads_item : ℕ → List ℕ → ℕ → ℕ → Question  -- a year, a column, a kind and an item's number

-- a word, or nothing where the group is split
abbrev word_answer : Word → List ℕ
word_answer (Voted n) = n ∷ []
word_answer Erased = []

-- the numbers of an item's value
abbrev value_numbers : value.Value → List ℕ
value_numbers (value.count n) = n ∷ []
value_numbers (value.flags l) = map one l
value_numbers (value.number v) = bits_of v ∷ []
value_numbers (value.time s i) = s ∷ i ∷ []
value_numbers value.fill = []

-- what is read is answered by 01's number, 0 for none, and 01's values
unfoldable pub answer_to : Question → List ℕ
unfolding byte_vote number.decoded time.decoded
answer_to (votes a b c) = word_answer (byte_vote a b c)
answer_to (reads_number w) = number_of (number.decoded w) ∷ map bits_of (values_of (number.decoded w))
answer_to (is_number w q) = one (word_is w q) ∷ map (λ v. one (double_is v q)) (values_of (number.decoded w))
answer_to (writes_number v) = number.encode_refusal v (replicate 6 0) ∷ number.encode_after v (replicate 6 0)
answer_to (is_double v q) = one (double_is v q) ∷ []
answer_to (reads_time y w) = number_of (time.decoded y w) ∷ time.values_of (time.decoded y w)
answer_to (has_fields w) = spacecraft w ∷ day w ∷ hour w ∷ minute w ∷ second w ∷ millisecond w ∷ sixteenth w ∷ []
answer_to (reads_item y column k n) = number_of (reading y column k n) ∷ concat_map value_numbers (item.values_of (reading y column k n))

pub record Example : Type 0 where
  pub asks : Question
  pub answer : List ℕ

infix 70 ◌gives◌
abbrev pub ◌gives◌ : Question → List ℕ → Example
q gives l = record { asks = q; answer = l }

-- the doubles ±2^−129
abbrev pub small : Float
small = fin false 1 (negsuc 128)

abbrev pub minus_small : Float
minus_small = fin true 1 (negsuc 128)

-- a column that holds b and c at places 108 and 109, where each kind has its first 12-bit item, and 0 elsewhere
abbrev pub column_with : ℕ → ℕ → List ℕ
column_with b c = replicate 108 0 ++ (b ∷ c ∷ []) ++ replicate 18 0

abbrev pub table : List Example
table =
    votes 5 5 9 gives (5 ∷ [])
    ∷ votes 9 5 5 gives (5 ∷ [])
    ∷ votes 5 9 5 gives (5 ∷ [])
    ∷ votes 1 2 3 gives []
    ∷ is_number (0x40 ∷ 0 ∷ 0 ∷ 0x01 ∷ 0 ∷ 0 ∷ []) (plus 1 over 1) gives (1 ∷ 1 ∷ [])
    ∷ reads_number (0x40 ∷ 0 ∷ 0 ∷ 0x01 ∷ 0 ∷ 0 ∷ []) gives (0 ∷ 0x3FF0_0000_0000_0000 ∷ [])
    ∷ is_number (0x80 ∷ 0 ∷ 0 ∷ 0 ∷ 0 ∷ 0 ∷ []) (minus 1 over 1) gives (1 ∷ 1 ∷ [])
    ∷ reads_number (0x80 ∷ 0 ∷ 0 ∷ 0 ∷ 0 ∷ 0 ∷ []) gives (0 ∷ 0xBFF0_0000_0000_0000 ∷ [])
    ∷ is_number (0xA0 ∷ 0 ∷ 0 ∷ 0 ∷ 0 ∷ 0 ∷ []) (minus 75 over 100) gives (1 ∷ 1 ∷ [])
    ∷ reads_number (0xA0 ∷ 0 ∷ 0 ∷ 0 ∷ 0 ∷ 0 ∷ []) gives (0 ∷ 0xBFE8_0000_0000_0000 ∷ [])
    ∷ reads_number (0xC0 ∷ 0 ∷ 0 ∷ 0 ∷ 0 ∷ 0 ∷ []) gives (10 ∷ [])
    ∷ is_double minus_small (minus 1 over (2 ^ 129)) gives (1 ∷ [])
    ∷ writes_number minus_small gives (11 ∷ 0 ∷ 0 ∷ 0 ∷ 0 ∷ 0 ∷ 0 ∷ [])
    ∷ is_double small (plus 1 over (2 ^ 129)) gives (1 ∷ [])
    ∷ writes_number small gives (0 ∷ 0x40 ∷ 0 ∷ 0 ∷ 0x80 ∷ 0 ∷ 0 ∷ [])
    ∷ reads_time 2000 (0x71 ∷ 0x23 ∷ 0x04 ∷ 0x56 ∷ 0x07 ∷ 0x89 ∷ 0x0F ∷ []) gives (0 ∷ 7 ∷ 170319486255 ∷ [])
    ∷ has_fields (0x71 ∷ 0x23 ∷ 0x04 ∷ 0x56 ∷ 0x07 ∷ 0x89 ∷ 0x0F ∷ []) gives (7 ∷ 123 ∷ 4 ∷ 56 ∷ 7 ∷ 890 ∷ 15 ∷ [])
    ∷ reads_time 2000 (0x73 ∷ 0x66 ∷ 0x23 ∷ 0x59 ∷ 0x59 ∷ 0x99 ∷ 0x9F ∷ []) gives (0 ∷ 7 ∷ 507340799999 ∷ [])
    ∷ reads_time 2001 (0x73 ∷ 0x66 ∷ 0x23 ∷ 0x59 ∷ 0x59 ∷ 0x99 ∷ 0x9F ∷ []) gives (8 ∷ [])
    ∷ reads_item 2000 (column_with 0x0A 0x5C) 0 34 gives (0 ∷ 2652 ∷ [])
    ∷ reads_item 2000 (column_with 0x1A 0x5C) 0 34 gives (9 ∷ [])
    ∷ []
