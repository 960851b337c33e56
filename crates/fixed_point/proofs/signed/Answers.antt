-- `fixed_point::signed` meets its contract. Assumes nothing.
use native.Mathlib.Omega.{arith}
use Rattle.fixed_point.proofs.Signs.{positive, negative}
use Rattle.fixed_point.proofs.signed.Goals as goal

pub returns-then-count-lt-SIGN : goal.returns-then-count-lt-SIGN
returns-then-count-lt-SIGN c = rw c.from.ensures (positive c.args.count (omega arith) (omega arith))

pub returns : goal.returns
returns c = rw c.from-2.ensures (negative c.args.count (omega arith) (omega arith))
