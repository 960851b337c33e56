-- `frame_store::lowest_free` meets its contract: the zeros below the lowest bit that the complement has set. Assumes nothing.
use native.Mathlib.Omega.{arith}
use Rattle.frame_store.proofs.Lowest.{trailing_zeros}
use Rattle.frame_store.proofs.lowest_free.Goals as goal

pub returns : goal.returns
returns c = omega (arith, c.widen.ensures, trailing_zeros 64 c.args.bits (omega arith))
