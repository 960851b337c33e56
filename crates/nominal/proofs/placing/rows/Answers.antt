use Prim.Native.Nat.{◌+◌}
use native.Mathlib.Omega.{arith}
use Rattle.nominal.proofs.Joining.{stored-none, stored-join}
use Rattle.nominal.proofs.placing.rows.Goals as goal

pub overflow_add-starts : goal.overflow_add-starts
overflow_add-starts c = omega arith

pub starts-requires : goal.starts-requires
starts-requires c = omega arith

pub overflow_sub-start : goal.overflow_sub-start
overflow_sub-start c = omega arith

pub overflow_mul-start : goal.overflow_mul-start
overflow_mul-start c = omega arith

pub stop_of-stop-requires : goal.stop_of-stop-requires
stop_of-stop-requires c = omega arith

pub loop-at-init : goal.loop-at-init
loop-at-init c =
    record { turns = 0; at_is = omega arith; place_is = omega arith; stored = stored-none c.args.from c.args.start c.args.frame.now }

pub is_row-requires : goal.is_row-requires
is_row-requires c = omega arith

pub returns-then-not-is_row : goal.returns-then-not-is_row
returns-then-not-is_row c = c.loop-at.invariant.stored

pub put_row-requires : goal.put_row-requires
put_row-requires c = (c.is_row.ensures c.if-not-is_row.false, omega arith)

pub overflow_add-p : goal.overflow_add-p
overflow_add-p c = omega arith

pub overflow_add-at : goal.overflow_add-at
overflow_add-at c = omega arith

pub loop-at-smaller : goal.loop-at-smaller
loop-at-smaller c = omega arith

pub loop-at-preserved : goal.loop-at-preserved
loop-at-preserved c =
    let k = c.loop-at in
    record {
      turns = k.invariant.turns + 1;
      at_is = omega arith;
      place_is = omega arith;
      stored = stored-join k.invariant.stored c.put_row.ensures;
    }

pub returns : goal.returns
returns c = c.loop-at.invariant.stored
