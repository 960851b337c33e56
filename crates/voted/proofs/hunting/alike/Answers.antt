use native.Mathlib.Omega.{arith}
use Rattle.voted.specs.Stretches.{Alike}
use Rattle.voted.proofs.Joining.{going_cell}
use Rattle.voted.proofs.hunting.alike.Goals as goal
use Rattle.voted.proofs.hunting.alike.Goals.{Else-not-is_cell}

-- a cell that is looked at
module _ (c : Else-not-is_cell) where
  cell : Alike c.args.piece.now c.loop-next.next.at
  cell = c.is_cell.ensures c.if-not-is_cell.false

pub loop-next-init : goal.loop-next-init
loop-next-init c = (λ i g. g, omega arith, c.requires)

pub returns-then-not-is_cell : goal.returns-then-not-is_cell
returns-then-not-is_cell c = (c.loop-next.invariant.0, c.loop-next.invariant.1)

pub overflow_add-at : goal.overflow_add-at
overflow_add-at c = omega (arith, (cell c).spaced.fifth.inside)

pub bounds-piece-at : goal.bounds-piece-at
bounds-piece-at c = omega (arith, (cell (goal.at.bounds-piece-at c).Else-not-is_cell).spaced.fifth.inside)

pub returns-then-piece-at : goal.returns-then-piece-at
returns-then-piece-at c =
    (c.loop-next.invariant.0, c.loop-next.invariant.1)

pub overflow_add-next : goal.overflow_add-next
overflow_add-next c = omega (arith, (cell (goal.at.overflow_add-next c).Else-not-is_cell).spaced.fifth.inside)

pub overflow_add-next-in-loop-next : goal.overflow_add-next-in-loop-next
overflow_add-next-in-loop-next c = omega arith

pub overflow_add-next-in-loop-next-2 : goal.overflow_add-next-in-loop-next-2
overflow_add-next-in-loop-next-2 c =
    omega (arith, c.loop-next.invariant.2)

pub loop-next-smaller : goal.loop-next-smaller
loop-next-smaller c = omega arith

pub loop-next-preserved : goal.loop-next-preserved
loop-next-preserved c =
    let went = c.loop-next.invariant in
    (λ i g. going_cell (cell (goal.at.loop-next-preserved c).Else-not-is_cell) (omega arith) c.if-piece-at.false (went.0 i g), omega (arith, went.1), omega (arith, went.2))

pub returns : goal.returns
returns c = (c.loop-next.invariant.0, c.loop-next.invariant.1)
