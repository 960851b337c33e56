-- The lines of the forms, bytes in hexadecimal digits, and items one after the other. Assumes nothing.
use Rattle.std.proofs.Common.{◌≡◌, refl, List, length, take, get_or, ℕ, ◌+◌, ◌<◌, add-one, arith}
use mathlib.Core.List.{append-nil}
use lib.Seq.{take-suc}
use Rattle.base.proofs.Lists.{concat_map-append}
use Rattle.io.specs.Counts.{IsPrefixLen}
use Rattle.command.specs.Lines.{line_in, first_line, after_line}
use Rattle.command.specs.Text.{Adds}
use Rattle.command.proofs.TextLaws.{adds_append, adds_within}
use Rattle.word72_items.specs.declared.Form.{Form}
use Rattle.word72_items.specs.declared.Form.TheVariants.{Count, TwelveBit, Flags, Number, Time, Fill}
use Rattle.word72_csv.specs.ItemLines.{form_text, form_line, form_words, item_line, item_lines}
use Rattle.word72_csv.specs.Values.{hex_byte, hex_text}

-- each form has its line
pub form_line_lem : (f : Form) → form_text f ≡ line_in form_words (form_line f)
unfolding line_in first_line after_line
form_line_lem Count = refl
form_line_lem TwelveBit = refl
form_line_lem Flags = refl
form_line_lem Number = refl
form_line_lem Time = refl
form_line_lem Fill = refl

-- ---- bytes in hexadecimal digits

pub hex_none : {new : List ℕ} {b : ℕ} → IsPrefixLen b new → (bytes : List ℕ) → Adds new b (hex_text (take 0 bytes)) new b
unfolding hex_text
hex_none {new} {b} p bytes = adds_within new b p.0

-- one byte more
pub hex_one_more : (bytes : List ℕ) (i : ℕ) → i < length bytes → {old mid new : List ℕ} {a b c : ℕ} → Adds old a (hex_text (take i bytes)) mid b
    → Adds mid b (hex_byte (get_or bytes i 0)) new c → Adds old a (hex_text (take (i + 1) bytes)) new c
unfolding hex_text
hex_one_more bytes i h p q = rw (add-one, take-suc bytes i 0 h, concat_map-append, append-nil) (adds_append p q)

-- ---- items one after the other

pub no_items : (old : List ℕ) (year frame : ℕ) (column : List ℕ) (kind : ℕ) → Adds old 0 (item_lines year frame column kind 0) old 0
unfolding item_lines
no_items old year frame column kind = adds_within old 0 (omega arith)

pub one-item_more : (year frame : ℕ) (column : List ℕ) (kind n : ℕ) → {old mid new : List ℕ} {b c : ℕ}
    → Adds old 0 (item_lines year frame column kind n) mid b → Adds mid b (item_line year frame column kind n) new c
    → Adds old 0 (item_lines year frame column kind (n + 1)) new c
unfolding item_lines
one-item_more year frame column kind n p q = rw add-one (adds_append p q)
