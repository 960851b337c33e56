-- `header_decoder::quotient` meets its contract: the constant table is the definition's, row by row. Assumes nothing.
use Rattle.header_code.specs.Decoder.{quotients}
use Rattle.header_decoder.proofs.quotient.Goals as goal

pub returns : goal.returns
unfolding quotients
returns c = record { is = c.digit.ensures.is; small = c.digit.ensures.small }
