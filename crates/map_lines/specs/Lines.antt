-- The lines of the picture, in SVG. Definitions only.
use Rattle.std.specs.Prelude.{List, ◌++◌, ℕ}
use Rattle.command.specs.Text.{ascii, decimal}

-- where a run of cells begins
abbrev pub place_text : ℕ → ℕ → List ℕ
place_text row first = (ascii "<rect x=\"" ++ decimal first) ++ (ascii "\" y=\"" ++ decimal row)

-- so many equal cells
abbrev pub rect_text : ℕ → ℕ → ℕ → ℕ → List ℕ
rect_text row first count class =
    place_text row first ++ (ascii "\" width=\"" ++ decimal count) ++ (ascii "\" height=\".9\" class=\"c" ++ decimal class) ++ ascii "\"/>\n"

-- the byte with which a row begins
abbrev pub label_text : ℕ → ℕ → List ℕ
label_text y byte = (ascii "<text x=\"102\" y=\"" ++ decimal y) ++ (ascii "\" text-anchor=\"end\">" ++ decimal byte) ++ ascii "</text>\n"

-- a class's colour, and what follows says what it is
abbrev pub legend_text : ℕ → ℕ → List ℕ
legend_text y class =
    (ascii "<rect x=\"10\" y=\"" ++ decimal y) ++ (ascii "\" width=\"12\" height=\"12\" class=\"c" ++ decimal class)
    ++ (ascii "\"/><text x=\"28\" dy=\"10\" y=\"" ++ decimal y) ++ ascii "\">"
