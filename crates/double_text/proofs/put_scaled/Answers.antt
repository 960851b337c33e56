-- `double_text::put_scaled` meets its contract: a whole number, or a fraction in lowest terms. Assumes nothing.
use borrow.Author.Tests.{le-leb, lt-leb}
use Rattle.double_text.specs.Decimal.{scaled_text}
use Rattle.double_text.proofs.put_scaled.Goals as goal

pub returns-then-exponent-ge-WHOLE : goal.returns-then-exponent-ge-WHOLE
unfolding scaled_text
returns-then-exponent-ge-WHOLE c = rw (le-leb 1075 _ c.if-exponent-ge-WHOLE.true) c.put_product.ensures

pub returns : goal.returns
unfolding scaled_text
returns c =
    rw (lt-leb 1075 _ c.if-exponent-ge-WHOLE.false, ← c.lowest_terms-l.ensures.0) c.put_product-2.ensures
