-- What the code looks up: its own table of letters, which 01 does not have, and the place that its search is to find. Rule.antt in
-- proofs/ shows that the letter at each place is that of the place's item. Definitions only.
use Rattle.std.specs.Prelude.{cond, List, [], ◌∷◌, ◌++◌, ℕ, ◌+◌, ◌*◌, ◌≤◌, ◌<◌, eqb, get_or, replicate}
use Rattle.word72_items.specs.declared.Form.{Form}
use Rattle.word72_items.specs.declared.Form.TheVariants.{Count, TwelveBit, Flags, Number, Time, Fill}
use Rattle.word72_items.specs.declared.Item.{Item}
use Rattle.word72_items.specs.Layout.{table17, table18, table19, table20}
use Rattle.word72_items.specs.ItemTable.{entry}

-- the letter of a form: c, w, f, n, t, z
abbrev pub letter : Form → ℕ
letter Count = 0x63
letter TwelveBit = 0x77
letter Flags = 0x66
letter Number = 0x6E
letter Time = 0x74
letter Fill = 0x7A

-- at each place the letter of its item's form
abbrev pub lettered : List Item → List ℕ
lettered [] = []
lettered (i ∷ l) = replicate i.length (letter i.form) ++ lettered l

unfoldable pub forms : List ℕ
forms = lettered table17 ++ lettered table18 ++ lettered table19 ++ lettered table20

-- the form of a letter
abbrev pub form_of : ℕ → Form
form_of l =
    cond (eqb l 0x63) Count
    (cond (eqb l 0x77) TwelveBit
    (cond (eqb l 0x66) Flags
    (cond (eqb l 0x6E) Number
    (cond (eqb l 0x74) Time
    Fill))))

abbrev pub form_at : ℕ → ℕ → Form
form_at k p = form_of (get_or forms (128 * k + p) 0)

-- r is the first place of kind k whose entry is n or more, and 128 where there is none
pub record Sought (k n r : ℕ) : Type 0 where
  pub within : r ≤ 128
  pub before : (p : ℕ) → p < r → entry k p < n
  pub after : (p : ℕ) → r ≤ p → p < 128 → n ≤ entry k p
