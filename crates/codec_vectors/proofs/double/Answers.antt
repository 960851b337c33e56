-- `codec_vectors::double` is safe: a pattern that is not above infinity's, its sign left out, is no NaN's. Assumes nothing.
use lib.Ieee.{binary64}
use lib.Ieee.Bits.{nan_bits_above}
use borrow.Author.Tests.{le-ltb}
use Rattle.codec_vectors.proofs.double.Goals as goal

pub float_from_bits-result : goal.float_from_bits-result
float_from_bits-result c = rw (nan_bits_above binary64 c.args.pattern, le-ltb _ _ c.if-pattern-gt-INFINITY.false) tt
