-- `header_decoder::from_sums` meets its contract: each call is a step of the definition. Assumes nothing.
use Rattle.header_decoder.proofs.Locating.{from_sums-law}
use Rattle.header_decoder.proofs.from_sums.Goals as goal

pub returns : goal.returns
returns c =
    from_sums-law _ _ _ _ _ _ _ _ _ _ _ _ c.root-x.ensures.is c.plus-y.ensures.is c.product.ensures.is
    c.plus.ensures.is c.quotient-f.ensures.is c.lift.ensures c.plus-2.ensures.is
    c.lift-2.ensures
