-- `float1750::double` meets its contract: the sum that it makes is `pattern`, which is read as the number asked for.
-- The sum fits 64 bits and is no NaN's pattern, since e + 128 is a byte. Assumes nothing.
use Rattle.float1750.proofs.Pattern.{pattern-read, pattern-finite}
use Rattle.float1750.proofs.double.Goals as goal

pub float_from_bits-result : goal.float_from_bits-result
float_from_bits-result c = rw (pattern-finite c.args.sign c.args.magnitude c.args.biased c.requires) tt

pub returns : goal.returns
returns c = pattern-read c.args.sign c.args.magnitude c.args.biased c.requires
