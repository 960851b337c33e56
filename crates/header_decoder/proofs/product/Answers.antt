-- `header_decoder::product` meets its contract: the constant table is the definition's, row by row. Assumes nothing.
use Rattle.header_code.specs.Decoder.{products}
use Rattle.header_decoder.proofs.product.Goals as goal

pub returns : goal.returns
unfolding products
returns c = record { is = c.digit.ensures.is; small = c.digit.ensures.small }
