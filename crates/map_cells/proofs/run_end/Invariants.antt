-- `map_cells::run_end` meets its contract: the cells passed are equal. Assumes nothing.
use Rattle.map_cells.proofs.Cells.{Alike}
use Rattle.map_cells.proofs.run_end.Given as goal

abbrev pub invariant-loop-i : goal.invariant-loop-i
invariant-loop-i l = Alike l.cells l.from l.end l.i
