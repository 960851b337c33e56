-- The decimal text of a double, which denotes exactly its number. A double is n × 2^k, or a fraction n / 2^p in lowest terms, which is
-- n × 5^p / 10^p: so the text has p decimals, of which the last is not 0. Definitions only.
use Rattle.std.specs.Prelude.{◌≡◌, ◌&&◌, cond, List, [], ◌∷◌, ◌++◌, ℕ, zero, suc, ◌+◌, ◌-◌, ◌*◌, ◌/◌, ◌%◌, ◌^◌, ◌≤◌, eqb, leb, ltb, Float, length, take, drop}
use Rattle.std.specs.Float.{nan, inf, fin, binary64}
use Rattle.std.specs.Float.Ieee.{to_bits}
use Rattle.io.specs.Digits.{last_digits}
use Rattle.command.specs.Text.{ascii}
use Rattle.double_text.specs.declared.Lowest.{Lowest}

-- digits without the zeros in front; the last one stays
unfoldable pub stripped : List ℕ → List ℕ
stripped [] = []
stripped (d ∷ ds) = cond (eqb d 0x30 && ltb 0 (length ds)) (stripped ds) (d ∷ ds)

-- digits behind a decimal point, where there are any
abbrev pub behind_point : List ℕ → List ℕ
behind_point [] = []
behind_point (d ∷ ds) = 0x2e ∷ d ∷ ds

-- digits with the decimal point behind the first `cut` of them
unfoldable pub pointed : ℕ → List ℕ → List ℕ
pointed cut ds = stripped (take cut ds) ++ behind_point (drop cut ds)

-- the digits of n × f^k: 20 are enough for n, and one more for each factor below 10
unfoldable pub product : ℕ → ℕ → ℕ → List ℕ
product n f k = last_digits 10 (20 + k) (n * f ^ k)

-- n / 2^p in lowest terms
unfoldable pub lowest_terms : ℕ → ℕ → Lowest
lowest_terms n zero = record { numerator = n; power = 0 }
lowest_terms n (suc p) = cond (eqb (n % 2) 0) (lowest_terms (n / 2) p) (record { numerator = n; power = suc p })

-- n × 2^k
abbrev pub whole_text : ℕ → ℕ → List ℕ
whole_text n k = pointed (20 + k) (product n 2 k)

-- a fraction in lowest terms, n / 2^p = n × 5^p / 10^p
abbrev pub fraction_text : Lowest → List ℕ
fraction_text l = pointed 20 (product l.numerator 5 l.power)

-- a double without its sign, from its exponent field x and its fraction bits c, is n × 2^x / 2^1075 with this n
unfoldable pub significand : ℕ → ℕ → ℕ
significand x c = cond (eqb x 0) (c * 2) (2 ^ 52 + c)

unfoldable pub scaled_text : ℕ → ℕ → List ℕ
scaled_text n x = cond (leb 1075 x) (whole_text n (x - 1075)) (fraction_text (lowest_terms n (1075 - x)))

abbrev pub sign_text : ℕ → List ℕ
sign_text s = cond (eqb s 0) [] (ascii "-")

-- a double by its bits: the sign, 11 bits of exponent field and 52 fraction bits
unfoldable pub bits_text : ℕ → List ℕ
bits_text b =
    let x = b / 2 ^ 52 % 2048 in
    sign_text (b / 2 ^ 63) ++ cond (eqb x 2047) (ascii "inf") (scaled_text (significand x (b % 2 ^ 52)) x)

abbrev pub double_text : Float → List ℕ
double_text nan = ascii "nan"
double_text (inf s) = bits_text (to_bits binary64 (inf s))
double_text (fin s m e) = bits_text (to_bits binary64 (fin s m e))

-- ---- what the steps below promise

-- the digits of a number became those of its product with f, as many of them
abbrev pub Multiplied : List ℕ → ℕ → List ℕ → Type 0
Multiplied old f new = (m : ℕ) → old ≡ last_digits 10 (length old) m → new ≡ last_digits 10 (length old) (m * f)

-- r zeros stand in front of the first `cut` digits
pub record LeadingZeros (all : List ℕ) (cut r : ℕ) : Type 0 where
  pub within : r ≤ cut
  pub rest-is : take (cut - r) (drop r all) ≡ stripped (take cut all)
