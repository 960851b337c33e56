-- `book_compare::merge::past_both` meets its contract: its test is the definition's. Assumes nothing.
use borrow.Author.Tests.{le-leb, lt-leb}
use Rattle.book_compare.proofs.merge.past_both.Goals as goal

pub returns-then-place-ge-CYCLE : goal.returns-then-place-ge-CYCLE
returns-then-place-ge-CYCLE c = rw (le-leb 65536 c.args.place c.if-place-ge-CYCLE.true)

pub returns : goal.returns
returns c = rw (lt-leb 65536 c.args.place c.if-place-ge-CYCLE.false)
