-- A field of comma-separated values (RFC 4180, section 2, rules 5 to 7), and an integer as text. Definitions only.
use Rattle.std.specs.Prelude.{Bool, true, ◌&&◌, ◌||◌, not, cond, List, [], ◌∷◌, ◌++◌, ℕ, suc, eqb, ℤ, pos, negsuc}
use Rattle.base.specs.Lists.{concat_map}
use Rattle.command.specs.Text.{ascii, decimal}

-- a comma, a quote, a line feed, a carriage return
abbrev pub is_special : ℕ → Bool
is_special b = eqb b 0x2c || eqb b 0x22 || eqb b 0x0a || eqb b 0x0d

unfoldable pub is_plain : List ℕ → Bool
is_plain [] = true
is_plain (b ∷ bs) = not (is_special b) && is_plain bs

-- a quote is doubled
abbrev pub quoted : ℕ → List ℕ
quoted b = cond (eqb b 0x22) (b ∷ b ∷ []) (b ∷ [])

unfoldable pub doubled : List ℕ → List ℕ
doubled text = concat_map quoted text

-- as it is, or in quotes
abbrev pub csv_field : List ℕ → List ℕ
csv_field text = cond (is_plain text) text ((0x22 ∷ []) ++ doubled text ++ (0x22 ∷ []))

-- a number behind a comma
abbrev pub number_field : ℕ → List ℕ
number_field n = ascii "," ++ decimal n

abbrev pub integer_text : ℤ → List ℕ
integer_text (pos n) = decimal n
integer_text (negsuc n) = ascii "-" ++ decimal (suc n)
