use native.Mathlib.Omega.{arith}
use Rattle.voted.specs.Stretches.{Alike}
use Rattle.voted.proofs.Joining.{kept-cell}
use Rattle.voted.proofs.placing.alike.Goals as goal
use Rattle.voted.proofs.placing.alike.Goals.{Else-not-is_cell}

-- a cell that is taken
module _ (c : Else-not-is_cell) where
  cell : Alike c.args.piece.now c.loop-next.next.at
  cell = c.is_cell.ensures c.if-not-is_cell.false

pub loop-next-init : goal.loop-next-init
loop-next-init c = (record { kept = λ i q f k. k; has_room = c.requires }, omega arith)

pub returns-then-not-is_cell : goal.returns-then-not-is_cell
returns-then-not-is_cell c = c.loop-next.invariant

pub overflow_add-frame : goal.overflow_add-frame
overflow_add-frame c = omega (arith, (cell c).spaced.fifth.inside)

pub bounds-piece-at : goal.bounds-piece-at
bounds-piece-at c = omega (arith, (cell (goal.at.bounds-piece-at c).Else-not-is_cell).spaced.fifth.inside)

pub bounds-frame-p : goal.bounds-frame-p
bounds-frame-p c = omega arith

pub overflow_add-next : goal.overflow_add-next
overflow_add-next c = omega (arith, (cell (goal.at.overflow_add-next c).Else-not-is_cell).spaced.fifth.inside)

pub overflow_add-next-in-loop-next : goal.overflow_add-next-in-loop-next
overflow_add-next-in-loop-next c = omega arith

pub overflow_add-next-in-loop-next-2 : goal.overflow_add-next-in-loop-next-2
overflow_add-next-in-loop-next-2 c =
    let room = c.loop-next.invariant.0.has_room in
    omega (arith, room.few, room.room)

pub loop-next-smaller : goal.loop-next-smaller
loop-next-smaller c = omega arith

pub loop-next-preserved : goal.loop-next-preserved
loop-next-preserved c =
    let went = c.loop-next.invariant in
    let room = went.0.has_room in (
      record {
        kept = λ i q f b. kept-cell (cell (goal.at.loop-next-preserved c).Else-not-is_cell) (went.0.kept i q f b);
        has_room = record { room = omega arith; few_stray = omega (arith, room.few_stray); few = omega (arith, room.few) };
      },
      omega (arith, went.1),
    )

pub returns : goal.returns
returns c = c.loop-next.invariant
