-- The verdict of a book (02, request 8) as a line of text. Definitions only.
use Rattle.std.specs.Prelude.{Bool, true, false, cond, List, ◌++◌, ℕ, leb, Result, Ok, Err}
use Rattle.base.specs.Refusals.{number as number_in_papers}
use Rattle.book.specs.declared.faults.Fault.{Fault}
use Rattle.command.specs.Text.{ascii, decimal}
use Rattle.command.specs.Words.{meaning}

abbrev pub is_yes : Result Unit Fault → Bool
is_yes (Ok u) = true
is_yes (Err f) = false

-- the number of a fault, its entry unless it is of the whole book (13 and 16), and what it means
abbrev pub fault_text : ℕ → ℕ → List ℕ
fault_text number entry =
    let head = ascii "no: refusal " ++ decimal number in
    cond (leb number 16) (head ++ meaning number) (head ++ (ascii " at entry " ++ decimal entry) ++ meaning number)

abbrev pub verdict_text : Result Unit Fault → List ℕ
verdict_text (Ok u) = ascii "yes"
verdict_text (Err f) = fault_text (number_in_papers f.refusal) f.entry

-- the file's name and the verdict
abbrev pub verdict_line : List ℕ → Result Unit Fault → List ℕ
verdict_line path verdict = (path ++ ascii ": ") ++ verdict_text verdict ++ ascii "\n"
