-- What is told on standard error, as text. Definitions only.
use Rattle.std.specs.Prelude.{List, ◌++◌, ℕ}
use Rattle.command.specs.Text.{ascii, decimal}

-- how many bytes of the reel were taken, how many major frames were complete, and megabytes a second
abbrev pub progress_text : ℕ → ℕ → ℕ → List ℕ
progress_text bytes frames rate =
    (ascii "\rbytes " ++ decimal bytes) ++ (ascii " frames " ++ decimal frames) ++ (ascii " MB/s " ++ decimal rate) ++ ascii "  "

-- how many lead-ins were handed
abbrev pub lead_ins_text : ℕ → List ℕ
lead_ins_text n = (ascii "lead-ins " ++ decimal n) ++ ascii "\n"

-- how many major frames were complete on the duty of operator k
abbrev pub operator_text : ℕ → ℕ → List ℕ
operator_text k n = (ascii "operator " ++ decimal k) ++ (ascii " paid " ++ decimal n) ++ ascii "\n"
