-- `map_cells::raise` meets its contract: the cells before place i are raised as they must be. Assumes nothing.
use Rattle.map_cells.specs.Cells.{raised_at}
use Rattle.map_cells.proofs.Cells.{Upto}
use Rattle.map_cells.proofs.raise.Given as goal

abbrev pub invariant-loop-i : goal.invariant-loop-i
invariant-loop-i l = Upto (raised_at l.initial.cells l.from l.to l.class) l.initial.cells l.cells l.i
