-- The column of a major frame and its kind (01, "Word 72 and its items": gathering, kind; 02, request 4; DFCB tables 12 and 14).
-- Definitions only.
use Rattle.std.specs.Prelude.{Bool, true, cond, not, ◌&&◌, ◌||◌, List, [], ◌∷◌, ℕ, zero, suc, ◌+◌, ◌*◌, ◌-◌, eqb, length, get_or, take, drop}
use Rattle.std.specs.Prelude.{Result, Ok, Err}
use Rattle.base.specs.Format.{minor_frame, major_frame}
use Rattle.base.specs.declared.refusal.Refusal.{Refusal}
use Rattle.base.specs.declared.refusal.Refusal.TheVariants.{WrongLength, NoSuchKind, YearOutsideSpan}
use Rattle.base.specs.Refusals.{Line, ◌when◌, answered}
use Rattle.time_code.specs.Calendar.{in_span}
use Rattle.time_code.specs.Fields.{is_time}
use Rattle.word72_items.specs.ItemTable.{places}

-- ---- gathering

-- the n values of f from f i on
abbrev pub values : (ℕ → ℕ) → ℕ → ℕ → List ℕ
values f i zero = []
values f i (suc n) = f i ∷ values f (suc i) n

-- place 72 of minor frame i
abbrev pub word72 : List ℕ → ℕ → ℕ
word72 area i = get_or area (minor_frame * i + 72) 0

-- of the minor frames 0 to 127
unfoldable pub gathered : List ℕ → List ℕ
gathered area = values (word72 area) 0 places

abbrev pub gather_lines : List ℕ → List ℕ → List Line
gather_lines area column = WrongLength when not (eqb (length area) major_frame) ∷ WrongLength when not (eqb (length column) places) ∷ []

-- the lent column afterwards
abbrev pub gather_after : List ℕ → List ℕ → List ℕ
gather_after area column = answered (λ n. column) (gather_lines area column) (gathered area)

-- ---- the kind

-- the places from a on, up to e and without it
abbrev pub between : ℕ → ℕ → List ℕ → List ℕ
between a e column = take (e - a) (drop a column)

unfoldable pub all_hold : ℕ → List ℕ → Bool
all_hold k [] = true
all_hold k (b ∷ bs) = eqb b k && all_hold k bs

-- places 96 to 103 all hold k
abbrev pub bears : ℕ → List ℕ → Bool
bears k column = all_hold k (between 96 104 column)

-- places 96 to 102 are a good time code of the year y
abbrev pub timed : ℕ → List ℕ → Bool
timed y column = is_time y (between 96 103 column)

-- a column that bears 1, 2 or 3 or a time code of the year has a kind, and no other column has
abbrev pub has_kind : ℕ → List ℕ → Bool
has_kind y column = bears 1 column || bears 2 column || bears 3 column || timed y column

-- the kind of a column that has one: the k in 1, 2, 3 that it bears, and else 0
abbrev pub kind_of : List ℕ → ℕ
kind_of column = cond (bears 1 column) 1 (cond (bears 2 column) 2 (cond (bears 3 column) 3 0))

abbrev pub kind_lines : ℕ → List ℕ → List Line
kind_lines y column = WrongLength when not (eqb (length column) places) ∷ YearOutsideSpan when not (in_span y) ∷ NoSuchKind when not (has_kind y column) ∷ []

unfoldable pub column_kind : ℕ → List ℕ → Result ℕ Refusal
column_kind y column = answered Err (kind_lines y column) (Ok (kind_of column))

-- ---- what the code asks of the bytes at places 96 to 103

-- the k in 1, 2, 3 that all of the bytes hold, and 0 for none
unfoldable pub identifier_of : List ℕ → ℕ
identifier_of bs = cond (all_hold 1 bs) 1 (cond (all_hold 2 bs) 2 (cond (all_hold 3 bs) 3 0))
