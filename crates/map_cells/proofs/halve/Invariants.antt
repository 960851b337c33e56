-- `map_cells::halve` meets its contract: the cells before place i are joined pairs, and a pair stands at i or beyond. Assumes nothing.
use Rattle.map_cells.specs.Cells.{pair_in}
use Rattle.map_cells.proofs.Cells.{Upto}
use Rattle.map_cells.proofs.halve.Given as goal

abbrev pub invariant-loop-i : goal.invariant-loop-i
invariant-loop-i l = Upto (pair_in l.initial.cells) l.initial.cells l.cells l.i
