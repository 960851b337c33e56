-- `header_decoder::two` meets its contract: each of the two quotients is that of a sum of two products. Assumes nothing.
use Rattle.header_decoder.proofs.Locating.{ratio_law, two-law}
use Rattle.header_decoder.proofs.two.Goals as goal

pub returns : goal.returns
returns c =
    two-law _ _ _ _ _ _ _ _
    (ratio_law _ _ _ _ _ _ _ _ _ c.product.ensures.is c.product-2.ensures.is
    c.plus.ensures.is c.quotient-t.ensures.is)
    (ratio_law _ _ _ _ _ _ _ _ _ c.product-3.ensures.is c.product-4.ensures.is
    c.plus-2.ensures.is c.quotient-u.ensures.is)
    c.from_sums.ensures
