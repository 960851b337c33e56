use Rattle.std.proofs.Common.{arith}
use Rattle.vectors.proofs.Folding.{one_at_most, differ-step, differ-end}
use Rattle.vectors.proofs.sums.differing.Goals as goal

pub overflow_add-n : goal.overflow_add-n
overflow_add-n c = omega (arith, c.bit-n.ensures, one_at_most c.is_other.result)

pub loop-i-preserved : goal.loop-i-preserved
loop-i-preserved c =
    let a = c.args.a.now in
    let b = c.args.b.now in
    let other = rw c.is_other.ensures at c.bit-n.ensures in
    omega (arith, other, c.bit-n.ensures, one_at_most c.is_other.result, differ-step a b c.loop-i.i c.loop-i-test.true)

pub returns : goal.returns
returns c = omega (arith, differ-end c.args.a.now c.args.b.now c.loop-i.i c.loop-i-test.false)
