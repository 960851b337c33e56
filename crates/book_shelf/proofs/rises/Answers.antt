-- `book_shelf::rises` meets its contract: the first always does. Assumes nothing.
use borrow.Author.Tests.{ne_eqb}
use Rattle.book_shelf.proofs.rises.Goals as goal

pub returns-then-s-eq0 : goal.returns-then-s-eq0
returns-then-s-eq0 c = rw c.if-s-eq0.true

pub returns : goal.returns
returns c = rw (ne_eqb _ 0 c.if-s-eq0.false)
