-- `pcd_book_check::verdict::put_fault` meets its contract: a fault of the whole book has no entry. Assumes nothing.
use Rattle.command.proofs.TextLaws.{adds_append}
use borrow.Author.Tests.{le-leb, lt-leb}
use borrow.Author.Rules.{rules}
use Rattle.pcd_book_check.proofs.verdict.put_fault.Goals as goal

pub returns-then-number-le-WHOLE_BOOK : goal.returns-then-number-le-WHOLE_BOOK
returns-then-number-le-WHOLE_BOOK c = rw (le-leb _ 16 c.if-number-le-WHOLE_BOOK.true) (search (rules, adds_append))

pub returns : goal.returns
returns c = rw (lt-leb _ 16 c.if-number-le-WHOLE_BOOK.false) (search (rules, adds_append))
