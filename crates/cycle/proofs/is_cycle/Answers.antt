use mathlib.Core.Bool.{true, false}
use native.Mathlib.Omega.{arith}
use borrow.Author.Count.{below_more}
use Rattle.cycle.proofs.Frames.{of_row, is_kth, other_length, one-other, every-major}
use Rattle.cycle.proofs.is_cycle.Goals as goal

pub returns-then-body-ne-CYCLE : goal.returns-then-body-ne-CYCLE
returns-then-body-ne-CYCLE c = other_length _ c.args.body.now c.if-body-ne-CYCLE.true

pub returns-then-not-is_major : goal.returns-then-not-is_major
returns-then-not-is_major c =
    let a = c.args in
    let body = a.body.now in
    let k = c.loop-kind.kind in
    one-other a.year body (omega arith) k (omega arith)
    (of_row 16384 body (is_kth a.year body) k _ false c.is_major.ensures c.if-not-is_major.true)

pub loop-kind-preserved : goal.loop-kind-preserved
loop-kind-preserved c =
    let a = c.args in
    let body = a.body.now in
    let next = of_row 16384 body (is_kth a.year body) c.loop-kind.kind _ true c.is_major.ensures c.if-not-is_major.false in
    below_more _ _ c.loop-kind.invariant next

pub returns : goal.returns
returns c =
    let a = c.args in
    every-major a.year a.body.now (omega arith) (λ k h. c.loop-kind.invariant k (omega arith))
