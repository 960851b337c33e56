-- `header_decoder::from_values` meets its contract: the determinant tells one wrong symbol from two. Assumes nothing.
use Rattle.header_decoder.proofs.Locating.{one-wrong, two-wrong}
use Rattle.header_decoder.proofs.from_values.Goals as goal

pub returns-then-d-eq0 : goal.returns-then-d-eq0
returns-then-d-eq0 c =
    one-wrong _ _ _ _ _ _ _ _ c.product.ensures.is c.product-2.ensures.is c.plus-d.ensures.is
    c.if-d-eq0.true c.one.ensures

pub returns : goal.returns
returns c =
    two-wrong _ _ _ _ _ _ _ _ c.product.ensures.is c.product-2.ensures.is c.plus-d.ensures.is
    c.if-d-eq0.false c.two.ensures
