-- `cycle_columns::count16` meets its contract. Assumes nothing.
use native.Mathlib.Omega.{arith}
use Rattle.cycle_columns.proofs.Gathering.{count-below}
use Rattle.cycle_columns.proofs.count16.Goals as goal

pub overflow_cast-result : goal.overflow_cast-result
overflow_cast-result c =
    let a = c.args in
    let below = count-below 2 a.column.now a.place (λ k. omega (arith, c.type_inv.column k)) in
    omega (arith, below, c.count.ensures)

pub returns : goal.returns
returns c = c.count.ensures
