-- `header_decoder::plus` meets its contract: the sum of two symbols is a symbol. Assumes nothing.
use mathlib.Core.Path.{refl}
use Rattle.header_code.proofs.Field.{sum_lt}
use Rattle.header_decoder.proofs.plus.Goals as goal

pub returns : goal.returns
returns c = record { is = refl; small = sum_lt c.args.a c.args.b c.requires.0 c.requires.1 }
