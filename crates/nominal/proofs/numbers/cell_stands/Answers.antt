-- `nominal::numbers::cell_stands` meets its contract: the test of a cell tells one. Assumes nothing.
use mathlib.Core.Path.{sym}
use mathlib.Core.Bool.{true≢false}
use native.Mathlib.Omega.{arith}
use Rattle.nominal.proofs.numbers.cell_stands.Goals as goal

pub starts-requires : goal.starts-requires
starts-requires c = omega arith

pub returns-then-starts-at : goal.returns-then-starts-at
returns-then-starts-at c = λ e. absurd (true≢false (sym e))

pub overflow_add-at : goal.overflow_add-at
overflow_add-at c = omega arith

pub bounds-piece-at : goal.bounds-piece-at
bounds-piece-at c = omega arith

pub is_cell-requires : goal.is_cell-requires
is_cell-requires c = omega arith

pub returns : goal.returns
returns c = c.is_cell.ensures.holds
