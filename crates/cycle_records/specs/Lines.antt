-- When a record of a cycle is refused. 8, 9 and 10 speak of what a cycle holds, so they follow 17. Definitions only.
use Rattle.std.specs.Prelude.{not, List, [], ◌∷◌, ◌++◌, ℕ, eqb, leb, length}
use Rattle.base.specs.declared.refusal.Refusal.TheVariants.{WrongLength, YearOutsideSpan, NoSuchKind, NotACycle, TimeOutOfRange}
use Rattle.base.specs.Refusals.{Line, ◌when◌}
use Rattle.cycle.specs.Cycle.{cycle_length, is_cycle, instant_of}
use Rattle.time_code.specs.Calendar.{in_span}
use Rattle.cycle_records.specs.Instants.{record_instant, is_writable}

-- of any record of major frame k: its length, the year, k, and that it is a cycle as 02, request 7, describes it
abbrev pub cycle_lines : List ℕ → ℕ → ℕ → List Line
cycle_lines cycle y k =
    WrongLength when not (eqb (length cycle) cycle_length)
    ∷ YearOutsideSpan when not (in_span y)
    ∷ NoSuchKind when not (leb k 3)
    ∷ NotACycle when not (is_cycle y cycle)
    ∷ []

-- of a record with an instant: also that this is one of the year
abbrev pub dated_lines : List ℕ → ℕ → ℕ → List Line
dated_lines cycle y k = cycle_lines cycle y k ++ (TimeOutOfRange when not (is_writable y (record_instant (instant_of y cycle) k)) ∷ [])
