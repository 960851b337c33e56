-- `double_vectors::show` makes a double of bits that are no NaN's. Assumes nothing.
use lib.Ieee.{binary64}
use lib.Ieee.Bits.{nan_bits_above}
use borrow.Author.Tests.{le-ltb}
use Rattle.double_vectors.proofs.show.Goals as goal

pub float_from_bits-bits : goal.float_from_bits-bits
float_from_bits-bits g c = rw (nan_bits_above binary64 c.args.bits, le-ltb _ _ c.if-bits-gt-INFINITY.false) tt
