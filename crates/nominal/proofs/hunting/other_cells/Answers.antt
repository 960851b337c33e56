use native.Mathlib.Omega.{arith}
use Rattle.nominal.proofs.Joining.{one_cell, hunted_word}
use Rattle.nominal.proofs.hunting.other_cells.Goals as goal

pub starts-end-requires : goal.starts-end-requires
starts-end-requires c = omega arith

pub loop-at-init : goal.loop-at-init
loop-at-init c = (λ i h. h, c.requires)

pub overflow_add-x : goal.overflow_add-x
overflow_add-x c = omega arith

pub bounds-piece-at : goal.bounds-piece-at
bounds-piece-at c = omega arith

pub is_cell-requires : goal.is_cell-requires
is_cell-requires c = omega arith

pub returns-then-not-is_cell : goal.returns-then-not-is_cell
returns-then-not-is_cell c = c.loop-at.invariant.0

pub returns-then-x : goal.returns-then-x
returns-then-x c = c.loop-at.invariant.0

pub overflow_add-count : goal.overflow_add-count
overflow_add-count c = omega arith

pub overflow_add-at : goal.overflow_add-at
overflow_add-at c = omega arith

pub loop-at-smaller : goal.loop-at-smaller
loop-at-smaller c = omega arith

pub loop-at-preserved : goal.loop-at-preserved
loop-at-preserved c =
    let k = c.loop-at in
    let cell = c.is_cell.ensures.holds c.if-not-is_cell.false in
    (λ i h. hunted_word (k.invariant.0 i h) (one_cell cell) (λ e. omega arith), omega arith)

pub returns : goal.returns
returns c = c.loop-at.invariant.0
