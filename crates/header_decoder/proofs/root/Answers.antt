-- `header_decoder::root` meets its contract: the constant table is the definition's, row by row. Assumes nothing.
use Rattle.header_code.specs.Decoder.{roots}
use Rattle.header_decoder.proofs.root.Goals as goal

pub returns : goal.returns
unfolding roots
returns c = record { is = c.digit.ensures.is; small = c.digit.ensures.small }
