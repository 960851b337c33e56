use mathlib.Core.Path.{◌≡◌}
use Prim.Native.Nat.{◌+◌}
use native.Mathlib.Omega.{arith}
use Rattle.nominal.proofs.Joining.{one_cell, stored-none, stored_more}
use Rattle.nominal.proofs.cell_row.put_cells.Goals as goal

pub loop-k-init : goal.loop-k-init
loop-k-init c =
    let a = c.args in
    let none : a.at + 0 ≡ a.at = omega arith in
    let none' : a.start + 0 ≡ a.start = omega arith in
    (omega arith, rw (none, none') (stored-none a.at a.start a.frame.now))

pub overflow_mul-frame : goal.overflow_mul-frame
overflow_mul-frame c = omega arith

pub overflow_add-frame : goal.overflow_add-frame
overflow_add-frame c = omega (arith, (c.requires.0 c.loop-k.k (omega arith)).fifth.inside)

pub overflow_add-frame-in-loop-k : goal.overflow_add-frame-in-loop-k
overflow_add-frame-in-loop-k c = omega (arith, (c.requires.0 c.loop-k.k (omega arith)).fifth.inside)

pub bounds-piece-at : goal.bounds-piece-at
bounds-piece-at c = omega (arith, (c.requires.0 c.loop-k.k (omega arith)).fifth.inside)

pub overflow_add-frame-in-loop-k-2 : goal.overflow_add-frame-in-loop-k-2
overflow_add-frame-in-loop-k-2 c = omega arith

pub bounds-frame-start : goal.bounds-frame-start
bounds-frame-start c = omega arith

pub overflow_add-k : goal.overflow_add-k
overflow_add-k c = omega arith

pub loop-k-smaller : goal.loop-k-smaller
loop-k-smaller c = omega arith

pub loop-k-preserved : goal.loop-k-preserved
loop-k-preserved c =
    let k = c.loop-k.k in
    let cell = c.requires.0 k (omega arith) in
    (omega arith, stored_more 9 c.args.at c.args.start k (omega arith) c.loop-k.invariant.1 (one_cell cell))

pub returns : goal.returns
returns c =
    let l = c.loop-k in
    let whole : l.k ≡ 16 = omega arith in
    rw whole at l.invariant.1
