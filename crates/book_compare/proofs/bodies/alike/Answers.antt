use native.Mathlib.Omega.{arith}
use Rattle.book_compare.proofs.FirstByte.{alike-none, alike-more}
use Rattle.book_compare.proofs.bodies.alike.Goals as goal

pub loop-at-init : goal.loop-at-init
loop-at-init c = alike-none _ _

pub returns-then-block_differs : goal.returns-then-block_differs
returns-then-block_differs c = c.loop-at.invariant

pub loop-at-preserved : goal.loop-at-preserved
loop-at-preserved c =
    alike-more _ _ c.loop-at.at 64 c.loop-at.invariant (omega arith) (c.block_differs.ensures c.if-block_differs.false)

pub returns : goal.returns
returns c = c.loop-at.invariant
