-- `pcd_book::writing::book_length` meets its contract. Assumes nothing.
use native.Mathlib.Omega.{arith}
use borrow.Author.Tests.{lt-ltb, le-ltb}
use Rattle.pcd_book.proofs.writing.book_length.Goals as goal

pub returns-then-cycles-gt-MOST_CYCLES : goal.returns-then-cycles-gt-MOST_CYCLES
returns-then-cycles-gt-MOST_CYCLES c = rw (lt-ltb 255 _ c.if-cycles-gt-MOST_CYCLES.true)

pub returns : goal.returns
returns c = rw (le-ltb 255 _ c.if-cycles-gt-MOST_CYCLES.false) (omega arith)
