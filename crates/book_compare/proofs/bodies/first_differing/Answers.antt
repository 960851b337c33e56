use native.Mathlib.Omega.{arith}
use borrow.Author.Count.{below_more}
use Rattle.book_compare.proofs.FirstByte.{differs_at, differs_not}
use Rattle.book_compare.proofs.bodies.first_differing.Goals as goal

pub loop-at-init : goal.loop-at-init
loop-at-init c = c.alike-at.ensures

pub returns-then-c-at : goal.returns-then-c-at
returns-then-c-at c = differs_at _ _ c.loop-at.at (omega arith) c.loop-at.invariant c.if-c-at.true

pub loop-at-preserved : goal.loop-at-preserved
loop-at-preserved c =
    record { within = omega arith; equal = below_more _ _ c.loop-at.invariant.equal c.if-c-at.false }

pub returns : goal.returns
returns c = differs_not _ _ c.loop-at.at (omega arith) c.loop-at.invariant
