-- What is told of a file of shifts, as text. Definitions only.
use Rattle.std.specs.Prelude.{List, ◌++◌, ℕ, Result, Ok, Err}
use Rattle.command.specs.Text.{ascii, decimal}

-- what is wrong with line k
abbrev pub fault_text : ℕ → List ℕ → List ℕ
fault_text k words = (ascii "line " ++ decimal k) ++ ascii ": " ++ words

-- how many bytes of a file were read, also where its text cannot be used
abbrev pub bytes_read : Result ℕ ℕ → ℕ
bytes_read (Ok n) = n
bytes_read (Err n) = n
