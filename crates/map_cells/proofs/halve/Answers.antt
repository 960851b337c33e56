use native.Mathlib.Omega.{arith}
use Rattle.map_cells.specs.Cells.{pair_in}
use Rattle.map_cells.proofs.Cells.{upto_end}
use Rattle.map_cells.proofs.halve.Goals as goal

pub returns : goal.returns
returns c =
    let l = c.loop-i in
    let old = c.args.cells.now in
    upto_end (pair_in old) old l.cells l.i (λ k p q. absurd (omega (arith, p, q, c.loop-i-test.false))) l.invariant
