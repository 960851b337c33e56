-- `float1750::mantissa` meets its contract: the five bytes by their weights. Assumes nothing.
use native.Mathlib.Omega.{arith}
use Rattle.base.specs.Numbers.{big_endian}
use Rattle.float1750.proofs.mantissa.Goals as goal

pub returns : goal.returns
unfolding big_endian
returns c =
    let e = c.read.ensures.whole (omega arith) in
    let b = c.fits-word in
    (omega (arith, e), omega (arith, e, b 0, b 1, b 2, b 4, b 5))
