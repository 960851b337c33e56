use native.Mathlib.Omega.{arith}
use Rattle.map_cells.specs.Cells.{raised_at}
use Rattle.map_cells.proofs.Cells.{upto_end, not_behind}
use Rattle.map_cells.proofs.raise.Goals as goal

pub returns-then-to-i : goal.returns-then-to-i
returns-then-to-i c =
    let l = c.loop-i in
    let a = c.args in
    let old = a.cells.now in
    upto_end (raised_at old a.from a.to a.class) old l.cells l.i
    (λ k p q. not_behind old a.from a.to a.class k (omega (arith, p, c.if-to-i.true))) l.invariant

pub returns : goal.returns
returns c =
    let l = c.loop-i in
    let a = c.args in
    let old = a.cells.now in
    upto_end (raised_at old a.from a.to a.class) old l.cells l.i (λ k p q. absurd (omega (arith, p, q, c.loop-i-test.false))) l.invariant
