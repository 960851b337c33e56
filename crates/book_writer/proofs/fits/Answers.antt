-- `book_writer::fits` meets its contract: a quotient and a remainder stand for the product. Assumes nothing.
use Rattle.book_writer.proofs.Tests.{too_short, uneven, even}
use Rattle.book_writer.proofs.fits.Goals as goal

pub returns-then-length-lt-HEADER : goal.returns-then-length-lt-HEADER
returns-then-length-lt-HEADER c = too_short _ _ c.if-length-lt-HEADER.true

pub returns-then-length-ne0 : goal.returns-then-length-ne0
returns-then-length-ne0 c = uneven _ _ c.if-length-ne0.true

pub returns : goal.returns
returns c = even _ _ c.if-length-lt-HEADER.false c.if-length-ne0.false
