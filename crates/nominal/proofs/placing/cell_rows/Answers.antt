use Prim.Native.Nat.{◌+◌}
use native.Mathlib.Omega.{arith}
use Rattle.nominal.proofs.Joining.{stored-none, stored-join}
use Rattle.nominal.proofs.placing.cell_rows.Goals as goal

pub overflow_add-starts : goal.overflow_add-starts
overflow_add-starts c = omega arith

pub starts-requires : goal.starts-requires
starts-requires c = omega arith

pub overflow_sub-start : goal.overflow_sub-start
overflow_sub-start c = omega arith

pub overflow_mul-start : goal.overflow_mul-start
overflow_mul-start c = omega arith

pub stop_of-stop-requires : goal.stop_of-stop-requires
stop_of-stop-requires c = omega arith

pub loop-at-init : goal.loop-at-init
loop-at-init c =
    record { turns = 0; at_is = omega arith; place_is = omega arith; stored = stored-none c.args.from c.args.start c.args.frame.now }

pub overflow_add-at : goal.overflow_add-at
overflow_add-at c = omega arith

pub bounds-piece-at : goal.bounds-piece-at
bounds-piece-at c = omega arith

pub returns-then-piece-at-ne-SYNC : goal.returns-then-piece-at-ne-SYNC
returns-then-piece-at-ne-SYNC c = c.loop-at.invariant.stored

pub are_cells-requires : goal.are_cells-requires
are_cells-requires c = omega arith

pub returns-then-not-are_cells : goal.returns-then-not-are_cells
returns-then-not-are_cells c = c.loop-at.invariant.stored

pub put_cells-requires : goal.put_cells-requires
put_cells-requires c = (c.are_cells.ensures c.if-not-are_cells.false, omega arith)

pub overflow_add-p : goal.overflow_add-p
overflow_add-p c = omega arith

pub overflow_add-at-in-loop-at : goal.overflow_add-at-in-loop-at
overflow_add-at-in-loop-at c = omega arith

pub loop-at-smaller : goal.loop-at-smaller
loop-at-smaller c = omega arith

pub loop-at-preserved : goal.loop-at-preserved
loop-at-preserved c =
    let k = c.loop-at in
    record {
      turns = k.invariant.turns + 1;
      at_is = omega arith;
      place_is = omega arith;
      stored = stored-join k.invariant.stored c.put_cells.ensures;
    }

pub returns : goal.returns
returns c = c.loop-at.invariant.stored
