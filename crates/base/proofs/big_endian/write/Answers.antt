use Rattle.std.proofs.Common.{◌∙◌, ◌-◌, ◌%◌}
use native.Mathlib.Omega.{arith}
use lib.ListN.{length-set}
use Rattle.base.proofs.Numbers.{stored_more}
use Rattle.base.proofs.big_endian.write.Goals as goal

pub loop-i-preserved : goal.loop-i-preserved
loop-i-preserved c =
    let l = c.loop-i in
    let j = l.i - 1 in
    (length-set l.out j (l.rest % 256) ∙ l.invariant.0, stored_more c.args.n l.out l.i j l.rest (omega arith) l.invariant.1)
