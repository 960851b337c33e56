-- The body of a cycle (02, request 7): four major frames of kinds 0, 1, 2, 3 in order, each minor frame with its sync bytes and its number;
-- and its instant, that of its kind 0 column. Definitions only.
use Rattle.std.specs.Prelude.{Bool, false, ◌&&◌, List, ℕ, eqb, length, get_or, Result, Ok, Err}
use Rattle.base.specs.Format.{minor_frame, number_place, major_frame}
use Rattle.base.specs.Ranges.{each}
use Rattle.base.specs.Rows.{row}
use Rattle.labelling.specs.Machine.{synced_bytes}
use Rattle.time_code.specs.Codec.{decoded}
use Rattle.base.specs.declared.refusal.Refusal.{Refusal}
use Rattle.time_code.specs.declared.TimeCode.{TimeCode}
use Rattle.word72_column.specs.Columns.{gathered, between, column_kind}

abbrev pub cycle_length : ℕ
cycle_length = 65536

-- a minor frame has its sync bytes and the number m
unfoldable pub is_numbered : List ℕ → ℕ → Bool
is_numbered minor m = synced_bytes minor && eqb (get_or minor number_place 0) m

-- so have the minor frames 0 to 127 of a major frame
unfoldable pub all_numbered : List ℕ → Bool
all_numbered frame = each (λ m. is_numbered (row minor_frame frame m) m) 0 128

-- the question for a column's kind is answered k
abbrev pub answers_kind : ℕ → Result ℕ Refusal → Bool
answers_kind k (Ok j) = eqb j k
answers_kind k (Err n) = false

unfoldable pub is_kind : ℕ → ℕ → List ℕ → Bool
is_kind y k frame = answers_kind k (column_kind y (gathered frame))

unfoldable pub is_major : ℕ → ℕ → List ℕ → Bool
is_major y k frame = all_numbered frame && is_kind y k frame

-- so is a major frame alone: 16,384 bytes, its minor frames numbered, its column of kind k
unfoldable pub is_frame : ℕ → ℕ → List ℕ → Bool
is_frame y k frame = eqb (length frame) major_frame && is_major y k frame

-- the body of a cycle of the year y
unfoldable pub is_cycle : ℕ → List ℕ → Bool
is_cycle y body = eqb (length body) cycle_length && each (λ k. is_major y k (row major_frame body k)) 0 4

-- the time code of the kind 0 column, which is the first major frame's
unfoldable pub time_bytes : List ℕ → List ℕ
time_bytes body = between 96 103 (gathered (row major_frame body 0))

-- the instant that a time code is read as, 0 where it is refused
abbrev pub instant_in : Result TimeCode Refusal → ℕ
instant_in (Ok t) = t.instant
instant_in (Err r) = 0

unfoldable pub instant_of : ℕ → List ℕ → ℕ
instant_of y body = instant_in (decoded y (time_bytes body))
