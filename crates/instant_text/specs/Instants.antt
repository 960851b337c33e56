-- An instant of a year as text: a date and a time of day (ISO 8601, with the day of the year), behind a comma. Definitions only.
use Rattle.std.specs.Prelude.{List, ◌++◌, ℕ, ◌-◌, ◌*◌, ◌/◌, ◌%◌, length, take, replicate}
use Rattle.command.specs.Text.{ascii, decimal}

-- a decimal number with zeros in front up to a width, 8 at most
unfoldable pub padded : ℕ → ℕ → List ℕ
padded width n = take (width - length (decimal n)) (replicate 8 0x30) ++ decimal n

-- an instant of a year, in sixteenths of a millisecond (01, "Time"): a sixteenth is 625 units of the seventh decimal of a second
abbrev pub clock_text : ℕ → ℕ → List ℕ
clock_text year t =
    (ascii "," ++ padded 4 year)
    ++ (ascii "-" ++ padded 3 (t / 1382400000))
    ++ (ascii "T" ++ padded 2 (t / 57600000 % 24))
    ++ (ascii ":" ++ padded 2 (t / 960000 % 60))
    ++ (ascii ":" ++ padded 2 (t / 16000 % 60))
    ++ (ascii "." ++ padded 7 (t % 16000 * 625))
