use mathlib.Core.Path.{refl, sym, ◌∙◌}
use mathlib.Core.Bool.{true≢false}
use native.Mathlib.Omega.{arith}
use Rattle.nominal.proofs.Joining.{one_cell, cell_at, stored-none, stored-word, stored-join}
use Rattle.nominal.proofs.placing.cells.Goals as goal

pub starts-requires : goal.starts-requires
starts-requires c = omega arith

pub overflow_sub-start : goal.overflow_sub-start
overflow_sub-start c = omega arith

pub overflow_mul-start : goal.overflow_mul-start
overflow_mul-start c = omega arith

pub stop_of-stop-requires : goal.stop_of-stop-requires
stop_of-stop-requires c = omega arith

pub loop-at-init : goal.loop-at-init
loop-at-init c = (stored-none c.args.from c.args.start c.args.frame.now, refl, omega arith)

pub overflow_add-x : goal.overflow_add-x
overflow_add-x c = omega arith

pub bounds-piece-at : goal.bounds-piece-at
bounds-piece-at c = omega arith

pub is_cell-requires : goal.is_cell-requires
is_cell-requires c = omega arith

pub returns-then-not-is_cell : goal.returns-then-not-is_cell
returns-then-not-is_cell c =
    let k = c.loop-at in
    let test = c.is_cell in
    record {
      stored = k.invariant.0;
      goes_on = λ x cell h e. true≢false (sym (test.ensures.told (cell_at (sym e) cell)) ∙ c.if-not-is_cell.true);
    }

pub bounds-frame-p : goal.bounds-frame-p
bounds-frame-p c = omega arith

pub overflow_add-p : goal.overflow_add-p
overflow_add-p c = omega arith

pub overflow_add-at : goal.overflow_add-at
overflow_add-at c = omega arith

pub loop-at-smaller : goal.loop-at-smaller
loop-at-smaller c = omega arith

pub loop-at-preserved : goal.loop-at-preserved
loop-at-preserved c =
    let k = c.loop-at in
    let cell = c.is_cell.ensures.holds c.if-not-is_cell.false in
    (stored-join k.invariant.0 (stored-word k.p k.frame (omega arith) (one_cell cell)), omega arith, omega arith)

pub returns : goal.returns
returns c =
    let bound = c.stop_of-stop.ensures.lower_bound in
    record {
      stored = c.loop-at.invariant.0;
      goes_on = λ x cell h e. let further = bound (omega (arith, cell.fifth.inside)) (omega arith) in omega arith;
    }
