use mathlib.Core.Bool.{true, false}
use native.Mathlib.Omega.{arith}
use borrow.Author.Count.{below_more}
use Rattle.cycle.specs.Cycle.{is_numbered}
use Rattle.cycle.proofs.Frames.{of_row, one-unnumbered, every-numbered}
use Rattle.cycle.proofs.all_numbered.Goals as goal

pub returns-then-not-is_numbered : goal.returns-then-not-is_numbered
returns-then-not-is_numbered c =
    let frame = c.args.frame.now in
    let m = c.loop-number.number in
    one-unnumbered frame m (omega arith) (of_row 128 frame is_numbered m _ false c.is_numbered.ensures c.if-not-is_numbered.true)

pub loop-number-preserved : goal.loop-number-preserved
loop-number-preserved c =
    let frame = c.args.frame.now in
    let m = c.loop-number.number in
    let next = of_row 128 frame is_numbered m _ true c.is_numbered.ensures c.if-not-is_numbered.false in
    below_more _ _ c.loop-number.invariant next

pub returns : goal.returns
returns c = every-numbered c.args.frame.now (λ m h. c.loop-number.invariant m (omega arith))
