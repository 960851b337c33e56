-- A line of the comparison of two books (02, request 9) as text. Definitions only.
use Rattle.std.specs.Prelude.{cond, List, ◌++◌, ℕ, eqb}
use Rattle.command.specs.Text.{ascii, decimal}

-- the instant, the case, 1, 2 or 3, and the place in the body
abbrev pub line_text : ℕ → ℕ → ℕ → List ℕ
line_text instant case place =
    let timed = ascii "instant " ++ decimal instant in
    cond (eqb case 1) (timed ++ ascii ": only in the first\n")
    (cond (eqb case 2) (timed ++ ascii ": only in the second\n")
    (timed ++ (ascii ": in both, the first different byte is " ++ decimal place) ++ ascii "\n"))
