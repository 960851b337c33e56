-- `reel_map::next` meets its contract: the next cell is there, or the cells are joined. Assumes nothing.
use native.Mathlib.Omega.{arith}
use Rattle.reel_map.proofs.NextCell.{next-none, next-goes, next-joins}
use Rattle.reel_map.proofs.next.Goals as goal

pub returns-then-cells-cell : goal.returns-then-cells-cell
returns-then-cells-cell c =
    let a = c.args in
    next-none a.m a.m a.cells.now c.if-cells-cell.true

pub returns-then-after-cells : goal.returns-then-after-cells
returns-then-after-cells c =
    let a = c.args in
    next-goes a.m c.moved.result a.cells.now (omega (arith, c.if-after-cells.true)) c.moved.ensures

pub returns : goal.returns
returns c =
    let a = c.args in
    next-joins a.m c.widened.result a.cells.now _ c.if-after-cells.false c.halve.ensures c.widened.ensures
