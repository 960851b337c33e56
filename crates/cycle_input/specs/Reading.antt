-- What reading cycles from standard input promises: no contract can name the bytes that a read brings. Definitions only.
use Rattle.std.specs.Prelude.{◌≡◌, true, cond, List, ◌++◌, ℕ, ◌-◌, ◌<◌, leb}
use Rattle.command.specs.Text.{ascii, decimal}
use Rattle.cycle.specs.Cycle.{is_cycle}
use Rattle.cycle_input.specs.declared.Read.{Read}

-- where a cycle is said to be in the area, the area is one, of a book (02, request 7), and more frames were read than before
pub record ReadPromise (y before : ℕ) (area : List ℕ) (r : Read) : Type 0 where
  pub is_cycle_fact : r.whole ≡ true → is_cycle y area ≡ true
  pub further : r.whole ≡ true → before < r.frames

-- so many frames from this one on
abbrev pub frames_text : ℕ → ℕ → List ℕ
frames_text first count =
    cond (leb count 1) (ascii "frame " ++ decimal first)
    (((ascii "frames " ++ decimal first) ++ (ascii " and " ++ decimal (count - 1))) ++ ascii " after it")
