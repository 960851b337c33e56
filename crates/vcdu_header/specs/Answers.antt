-- What is answered (02, request 11; 01, "Refusal numbers"): the lines of the refusal table, and what a repair gives.
-- Definitions only.
use Rattle.std.specs.Prelude.{Bool, true, false, not, List, [], ◌∷◌, ℕ, eqb, length}
use Rattle.std.proofs.Math.Option.{Option, none, some}
use Rattle.base.specs.declared.refusal.Refusal.TheVariants.{NotAHeader, NoCodeWord}
use Rattle.base.specs.Refusals.{Line, ◌when◌}
use Rattle.header_code.specs.Code.{distance}
use Rattle.vcdu_header.specs.Header.{placed}

-- ---- the lines that concern a call

abbrev pub header_lines : List ℕ → List Line
header_lines h = NotAHeader when not (eqb (length h) 8) ∷ []

abbrev pub is_none : Option (List ℕ) → Bool
is_none none = true
is_none (some c) = false

-- of repairing, where near is the code word within two symbols, if there is one
abbrev pub repair_lines : List ℕ → Option (List ℕ) → List Line
repair_lines h near = NotAHeader when not (eqb (length h) 8) ∷ NoCodeWord when is_none near ∷ []

-- ---- repairing

-- in how many symbols the code word differs from the word w
abbrev pub changes : List ℕ → Option (List ℕ) → ℕ
changes w none = 0
changes w (some c) = distance w c

-- the header h with the code word's symbols
abbrev pub restored : List ℕ → Option (List ℕ) → List ℕ
restored h none = h
restored h (some c) = placed c h
